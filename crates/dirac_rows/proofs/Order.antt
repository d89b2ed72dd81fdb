-- Items put into places by their rows, and taken out in the order of the rows.
use Rattle.std.proofs.Common.{◌≡◌, ℕ, zero, suc, ◌+◌, ◌<◌, ◌≤◌, ◌⊎◌, inl, inr, ⊎_elim, List, [], ◌∷◌, ◌++◌, length, set, get_or, sym, refl, ap, ◌∙◌, subst, Option, Some, None, ne_eqb, get_or-set_same, get_or-set_other, length-set, All, arith}
use Rattle.std.specs.Prelude.{slice_index_or, Contains}
use Rattle.std.proofs.lemmas.List.{map-append, length-append}
use Rattle.std.proofs.Math.Seq.{get_or-append_seam}
use Rattle.std.proofs.Math.ListN.{get_or-append}
use Rattle.std.proofs.lemmas.List.Elements.{All-pop}
use Rattle.std.proofs.lemmas.Option.{same_Some}
use mathlib.Core.Logic.{dite}
use native.Mathlib.Decide.{ℕ_discrete}
use Rattle.dirac_rows.specs.Weights.{times}
use Rattle.dirac_rows.specs.Answers.{AnswerRows, rows_of}
use Rattle.dirac_rows.proofs.Sums.{one_if, weight_at, total-append}

module _ {T : Type 0} where
  -- the row's item is in its place
  abbrev pub Placed : List (ℕ × T) → List (Option T) → ℕ → Type 0
  Placed all_found slots r = (x : T) × (slice_index_or slots r None ≡ Some x) × Contains all_found (r, x)

  seam : (xs ys : List (ℕ × T)) (y d : ℕ × T) → get_or ((xs ++ y ∷ []) ++ ys) (length xs) d ≡ y
  seam [] ys y d = refl
  seam (x ∷ xs) ys y d = seam xs ys y d

  pub place_one : (all_found found rest : List (ℕ × T)) (slots : List (Option T)) (rows row : ℕ) (item : T) → all_found ≡ (found ++ (row, item) ∷ []) ++ rest → row < length slots
      → ((r : ℕ) → r < rows → Placed all_found slots r ⊎ (0 < times r (rows_of (found ++ (row, item) ∷ []))))
      → (r : ℕ) → r < rows → Placed all_found (set slots row (Some item)) r ⊎ (0 < times r (rows_of found))
  place_one all_found found rest slots rows row item split inside before r row_ok = dite (ℕ_discrete r row)
      (λ e. inl (
        item,
        ap (λ (j : ℕ). get_or (set slots row (Some item)) j None) e ∙ get_or-set_same slots row (Some item) None inside,
        (
          length found,
          (let a = ap length split in let b = length-append (found ++ (row, item) ∷ []) rest in let c = length-append found ((row, item) ∷ []) in omega arith),
          (ap (λ (l : List (ℕ × T)). get_or l (length found) (r, item)) split
              ∙ seam found rest (row, item) (r, item)
              ∙ ap (λ (j : ℕ). (j, item)) (sym e)),
        ),
      ))
      (λ ne. ⊎_elim (λ p. inl (p.0, get_or-set_other slots row r (Some item) None ne ∙ p.1, p.2))
      (λ h. inr (let a = ap (times r) (map-append (λ (p : ℕ × T). p.0) found ((row, item) ∷ [])) in let b = total-append (weight_at r) (rows_of found) (row ∷ []) in
      let not_here : weight_at r row ≡ 0 = ap one_if (ne_eqb row r (λ e. ne (sym e))) in omega arith))
      (before r row_ok))

  pub all_placed : (all_found : List (ℕ × T)) (slots : List (Option T)) (rows : ℕ) → ((r : ℕ) → r < rows → Placed all_found slots r ⊎ (0 < times r [])) → (r : ℕ) → r < rows → Placed all_found slots r
  all_placed all_found slots rows h r row = ⊎_elim (λ p. p) (λ e. absurd (omega arith)) (h r row)

  pub answer_more : (P : ℕ → T → Type 0) (n : ℕ) (items : List T) (x : T) → AnswerRows P n items → P n x → AnswerRows P (n + 1) (items ++ x ∷ [])
  answer_more P n items x f ok = (
    (let a = length-append items (x ∷ []) in let b = f.0 in omega arith),
    λ r d h. dite (ℕ_discrete r n)
        (λ e. subst (λ (j : ℕ). P j (get_or (items ++ x ∷ []) j d)) (sym e) (subst (λ (y : T). P n y) (sym (ap (λ (j : ℕ). get_or (items ++ x ∷ []) j d) (sym f.0) ∙ get_or-append_seam items x [] d)) ok))
        (λ ne. subst (λ (y : T). P r y) (sym (get_or-append items (x ∷ []) d r (let b = f.0 in omega arith))) (f.1 r d (omega arith))),
  )

  joined : (xs ys zs : List (ℕ × T)) → (xs ++ ys) ++ zs ≡ xs ++ (ys ++ zs)
  joined [] ys zs = refl
  joined (x ∷ xs) ys zs = ap (λ (l : List (ℕ × T)). x ∷ l) (joined xs ys zs)

  pub placing_more : (all_found found new : List (ℕ × T)) (slots : List (Option T)) (rows row : ℕ) (item : T) → length slots ≡ rows → All (λ (p : ℕ × T). p.0 < rows) found
      → ((rest : List (ℕ × T)) × (all_found ≡ found ++ rest)) → ((r : ℕ) → r < rows → Placed all_found slots r ⊎ (0 < times r (rows_of found))) → found ≡ new ++ (row, item) ∷ []
      → (length (set slots row (Some item)) ≡ rows) × All (λ (p : ℕ × T). p.0 < rows) new × ((rest : List (ℕ × T)) × (all_found ≡ new ++ rest))
      × ((r : ℕ) → r < rows → Placed all_found (set slots row (Some item)) r ⊎ (0 < times r (rows_of new)))
  placing_more all_found found new slots rows row item length_is inside split before e =
      let popped = All-pop (λ (p : ℕ × T). p.0 < rows) found new (Some (row, item)) e inside in let first : row < rows = popped.1 in
      let parts : all_found ≡ (new ++ (row, item) ∷ []) ++ split.0 = split.1 ∙ ap (λ (l : List (ℕ × T)). l ++ split.0) e in (
        length-set slots row (Some item) ∙ length_is,
        popped.0,
        ((row, item) ∷ split.0, parts ∙ joined new ((row, item) ∷ []) split.0),
        place_one all_found new split.0 slots rows row item parts (omega (arith, length_is, first)) (λ r h. subst (λ (l : List (ℕ × T)). Placed all_found slots r ⊎ (0 < times r (rows_of l))) e (before r h)),
      )

  pub taking_starts : (all_found found : List (ℕ × T)) (slots : List (Option T)) (rows : ℕ) → found ≡ [] → ((r : ℕ) → r < rows → Placed all_found slots r ⊎ (0 < times r (rows_of found))) → (r : ℕ) → r < rows → Placed all_found slots r
  taking_starts all_found found slots rows e h = all_placed all_found slots rows (λ r row. subst (λ (l : List (ℕ × T)). Placed all_found slots r ⊎ (0 < times r (rows_of l))) e (h r row))

  -- the item taken weight_past a row's place
  pub taking_more : (all_found : List (ℕ × T)) (slots after : List (Option T)) (rows row : ℕ) (items more : List T) (item : T) → length slots ≡ rows → row < rows
      → ((r : ℕ) → row ≤ r → r < rows → Placed all_found slots r) → AnswerRows (λ r x. Contains all_found (r, x)) row items
      → slice_index_or slots row None ≡ Some item → after ≡ set slots row None → more ≡ items ++ item ∷ []
      → (length after ≡ rows) × ((r : ℕ) → row + 1 ≤ r → r < rows → Placed all_found after r) × AnswerRows (λ r x. Contains all_found (r, x)) (row + 1) more
  taking_more all_found slots after rows row items more item length_is inside placed before here e d = let p = placed row (omega arith) inside in (
    ap length e ∙ length-set slots row None ∙ length_is,
    (λ r le lt. let q = placed r (omega arith) lt in (q.0, ap (λ (l : List (Option T)). get_or l r None) e ∙ get_or-set_other slots row r None None (λ h. omega arith) ∙ q.1, q.2)),
    subst (λ (l : List T). AnswerRows (λ r x. Contains all_found (r, x)) (row + 1) l) (sym d)
        (answer_more (λ r x. Contains all_found (r, x)) row items item before (subst (λ (x : T). Contains all_found (row, x)) (same_Some p.0 item (sym p.1 ∙ here)) p.2)),
  )

  pub other_default : (l : List (Option T)) (i : ℕ) (d e : Option T) → i < length l → get_or l i d ≡ get_or l i e
  other_default [] i d e h = absurd (omega arith)
  other_default (x ∷ xs) zero d e h = refl
  other_default (x ∷ xs) (suc i) d e h = other_default xs i d e (omega arith)

  pub answers_all : (P : ℕ → T → Type 0) (n rows : ℕ) (items : List T) → n ≡ rows → AnswerRows P n items → AnswerRows P rows items
  answers_all P n rows items e = subst (λ (m : ℕ). AnswerRows P m items) e
