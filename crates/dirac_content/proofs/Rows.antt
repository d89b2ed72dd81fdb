-- Planes as bytes, one after another.
use Rattle.std.proofs.Common.{◌≡◌, ◌∙◌, ℕ, ◌<◌, ◌≤◌, ℤ, pos, List, ◌++◌, length, get_or, map, Option, sym, ap, append_assoc, arith}
use Rattle.std.proofs.KnownBytes.{Appends-trans}
use Rattle.std.proofs.lemmas.List.{ext_get_or, get_or-map, length-map, map-append}
use Rattle.std.specs.Io.KnownBytes.{Appends}
use Rattle.dirac_io.specs.Writing.{AppendsFront}
pub use Rattle.dirac_units.proofs.Appended.{behind_front, front_then}

-- values that are told one by one
pub bytes_all : (f : ℤ → ℕ) (xs : List ℤ) (ys : List ℕ) (n : ℕ) → length ys ≡ length xs → ((k : ℕ) → k < n → get_or ys k 0 ≡ f (get_or xs k (pos 0))) → length xs ≤ n → ys ≡ map f xs
bytes_all f xs ys n len each all =
    ext_get_or 0 ys (map f xs) (len ∙ sym (length-map xs f)) (λ k l.
    each k (omega (arith, l, len, all)) ∙ sym (get_or-map f xs k (pos 0) 0 (omega (arith, l, len))))

-- of these samples the bytes of a front were taken, and the others are still to be written
abbrev pub AreWrittenTo : (ℤ → ℕ) → List ℤ → List ℤ → Option (List ℕ) → Option (List ℕ) → Type 0
AreWrittenTo f all rest taken taken' = (front : List ℤ) × (all ≡ front ++ rest) × Appends taken taken' (map f front)

-- one piece more was taken
pub pieces_more : (f : ℤ → ℕ) (all rest piece behind : List ℤ) (taken taken' taken'' : Option (List ℕ)) → AreWrittenTo f all rest taken taken' → rest ≡ piece ++ behind
    → Appends taken' taken'' (map f piece) → AreWrittenTo f all behind taken taken''
pieces_more f all rest piece behind taken taken' taken'' so parts more = (
  so.0 ++ piece,
  so.1 ∙ ap (λ l. so.0 ++ l) parts ∙ sym (append_assoc so.0 piece behind),
  rw (map-append f so.0 piece) (Appends-trans taken taken' taken'' (map f so.0) (map f piece) so.2 more),
)

-- of one piece more a front was taken
pub front_of_pieces : (f : ℤ → ℕ) (all rest piece behind : List ℤ) (taken taken' taken'' : Option (List ℕ)) → AreWrittenTo f all rest taken taken' → rest ≡ piece ++ behind
    → AppendsFront taken' taken'' (map f piece) → AppendsFront taken taken'' (map f all)
front_of_pieces f all rest piece behind taken taken' taken'' so parts more =
    rw so.1 (rw parts (rw (map-append f so.0 (piece ++ behind)) (rw (map-append f piece behind)
    (behind_front taken taken' taken'' (map f so.0) (map f piece ++ map f behind) so.2 (front_then taken' taken'' (map f piece) (map f behind) more)))))
