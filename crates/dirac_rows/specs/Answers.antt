-- Answers on rows: in the order of the rows, and as workers find them.
use Rattle.std.specs.Prelude.{◌≡◌, ℕ, ◌<◌, List, length, slice_index_or, map, All}
use Rattle.dirac_rows.specs.Weights.{times}

-- there are as many items as rows, and item r is an answer on row r
abbrev pub AnswerRows : {T : Type 0} → (ℕ → T → Type 0) → ℕ → List T → Type 0
AnswerRows {T} answers rows items =
    (length items ≡ rows) × ((r : ℕ) (d : T) → r < rows → answers r (slice_index_or items r d))

-- the rows of pairs of a row and an item
abbrev pub rows_of : {T : Type 0} → List (ℕ × T) → List ℕ
rows_of found = map (λ p. p.0) found

-- each pair is a row with an answer on it, and each row is found as often as it is kept
abbrev pub Gathers : {T : Type 0} → (ℕ → T → Type 0) → ℕ → List ℕ → List (ℕ × T) → Type 0
Gathers answers rows kept found =
    All (λ p. (p.0 < rows) × answers p.0 p.1) found × ((r : ℕ) → r < rows → times r (rows_of found) ≡ times r kept)
