-- The decisions of a value, a row, a codeblock or a row of codeblocks are told by the values up to there: two lists
-- that are the same so far have the same ones. Readers and writers both stand on this.
use Rattle.std.proofs.Common.{◌≡◌, ℕ, zero, suc, ℤ, ◌+◌, ◌-◌, ◌<◌, ◌≤◌, List, ◌++◌, refl, ap, ap₂, sym, ◌∙◌, arith, inl, inr, eq-eqb, ne_eqb}
use Rattle.std.proofs.lemmas.Bool.{cases_eq}
use Rattle.std.proofs.Math.Numerals.{unary_clauses}
use Rattle.dirac_arith.specs.Interval.{Decision}
use Rattle.dirac_arith.specs.Spelling.{signed_spelling}
use Rattle.dirac_coeffs.specs.Contexts.{band_value, value_left_of, value_above, value_in_corner, bits_context}
use Rattle.dirac_coeffs.specs.Decisions.{Frame, follow_here, sign_here, value_part, row_part, rows_part}
use Rattle.dirac_coeffs.proofs.Places.{SameWithin}
use Rattle.dirac_coeffs.proofs.Within.{same_less}

left_same : (w : ℕ) (xs ys : List ℤ) (x y : ℕ) → x < w → SameWithin w xs ys x (y + 1) → value_left_of w xs x y ≡ value_left_of w ys x y
left_same w xs ys x y h s =
    elim (cases_eq x 0) [
      | inl e ↦ rw (eq-eqb x 0 e) refl
      | inr n ↦ rw (ne_eqb x 0 n) (s.each (x - 1) y (omega arith) (omega arith) (omega arith))
    ]

above_same : (w : ℕ) (xs ys : List ℤ) (x y : ℕ) → x < w → SameWithin w xs ys (x + 1) y → value_above w xs x y ≡ value_above w ys x y
above_same w xs ys x y h s =
    elim (cases_eq y 0) [
      | inl e ↦ rw (eq-eqb y 0 e) refl
      | inr n ↦ rw (ne_eqb y 0 n) (s.each x (y - 1) h (omega arith) (omega arith))
    ]

corner_same : (w : ℕ) (xs ys : List ℤ) (x y : ℕ) → x < w → SameWithin w xs ys (x + 1) y → value_in_corner w xs x y ≡ value_in_corner w ys x y
corner_same w xs ys x y h s =
    elim (cases_eq x 0) [
      | inl e ↦ rw (eq-eqb x 0 e) refl
      | inr n ↦ rw (ne_eqb x 0 n) (elim (cases_eq y 0) [
        | inl e ↦ rw (eq-eqb y 0 e) refl
        | inr m ↦ rw (ne_eqb y 0 m) (s.each (x - 1) (y - 1) (omega arith) (omega arith) (omega arith))
      ])
    ]

-- the decisions that spell v there
abbrev pub value_here : Frame → List ℤ → ℕ → ℕ → ℤ → List Decision
value_here f xs x y v = signed_spelling (follow_here f xs x y) bits_context (sign_here f xs x y) v

-- the contexts of a value are read off the places before it
pub value_contexts : (f : Frame) (xs ys : List ℤ) (x y : ℕ) → x < f.width → SameWithin f.width xs ys x (y + 1) → SameWithin f.width xs ys (x + 1) y
    → value_part f ys x y ≡ value_here f xs x y (band_value f.width ys x y)
value_contexts f xs ys x y h s t =
    rw (left_same f.width xs ys x y h s, above_same f.width xs ys x y h t, corner_same f.width xs ys x y h t) refl

value_same : (f : Frame) (xs ys : List ℤ) (x y : ℕ) → x < f.width → SameWithin f.width xs ys (x + 1) (y + 1) → value_part f xs x y ≡ value_part f ys x y
value_same f xs ys x y h s =
    let here : band_value f.width xs x y ≡ band_value f.width ys x y = s.each x y h (omega arith) (omega arith) in
    let contexts = value_contexts f xs ys x y h (same_less (omega arith) (omega arith) s) (same_less (omega arith) (omega arith) s) in
    ap (λ v. value_here f xs x y v) here ∙ sym contexts

pub row_next : (f : Frame) (xs : List ℤ) (y x n : ℕ) → row_part f xs y x (n + 1) ≡ row_part f xs y x n ++ value_part f xs (x + n) y
unfolding row_part
row_next f xs y x n = simp unary_clauses refl

pub row_same : (f : Frame) (xs ys : List ℤ) (x y n : ℕ) → x + n ≤ f.width → SameWithin f.width xs ys (x + n) (y + 1) → row_part f xs y x n ≡ row_part f ys y x n
unfolding row_part
row_same f xs ys x y zero h s = refl
row_same f xs ys x y (suc n) h s =
    ap₂ (λ (a b : List Decision). a ++ b)
    (row_same f xs ys x y n (omega arith) (same_less (omega arith) (omega arith) s))
    (value_same f xs ys (x + n) y (omega arith) (same_less (omega arith) (omega arith) s))

pub rows_next : (f : Frame) (xs : List ℤ) (x count y n : ℕ) → rows_part f xs x count y (n + 1) ≡ rows_part f xs x count y n ++ row_part f xs (y + n) x count
unfolding rows_part
rows_next f xs x count y n = simp unary_clauses refl

pub rows_same : (f : Frame) (xs ys : List ℤ) (x count y n : ℕ) → x + count ≤ f.width → SameWithin f.width xs ys (x + count) (y + n) → rows_part f xs x count y n ≡ rows_part f ys x count y n
unfolding rows_part
rows_same f xs ys x count y zero h s = refl
rows_same f xs ys x count y (suc n) h s =
    ap₂ (λ (a b : List Decision). a ++ b)
    (rows_same f xs ys x count y n h (same_less (omega arith) (omega arith) s))
    (row_same f xs ys x (y + n) count h (same_less (omega arith) (omega arith) s))
