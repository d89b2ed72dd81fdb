-- The neighbours of a value that is read or written next, carried along a row.
use Rattle.std.proofs.Common.{◌≡◌, ◌≢◌, ℕ, ℤ, pos, ◌+◌, ◌-◌, ◌*◌, ◌<◌, List, length, get_or, set, slice_set, Result, Ok, Err, refl, arith, inl, inr, ap, ap₂, of_z, to_z, w32, w64, sym, ◌∙◌, eq-eqb}
use Rattle.std.proofs.lemmas.Bool.{cases_eq, ne_eqb}
use Rattle.std.proofs.lemmas.List.{get_or-set_same, get_or-set_other}
use Rattle.dirac_common.specs.declared.faults.Cause.{Cause}
use Rattle.dirac_arith.specs.Coded.{read_coded}
use Rattle.dirac_arith.specs.Deciding.{signed_read}
use Rattle.dirac_arith.specs.Reading.{Reading}
use Rattle.dirac_coeffs.specs.BandRead.{value_step}
use Rattle.dirac_coeffs.specs.Contexts.{value_above, bits_context, value_in_corner, value_left_of, band_value}
use Rattle.dirac_coeffs.specs.Decisions.{Frame, follow_here, sign_here}

-- a value is to the left of the next one
pub left_behind : (w : ℕ) (xs : List ℤ) (x y n : ℕ) → n ≡ x + 1 → band_value w xs x y ≡ value_left_of w xs n y
left_behind w xs x y n e =
    let back : n - 1 ≡ x = omega arith in
    rw (ne_eqb n 0 (omega arith)) (sym (ap (λ i. get_or xs (y * w + i) (pos 0)) back))

-- what is above it is above that
pub corner_behind : (w : ℕ) (xs : List ℤ) (x y n : ℕ) → n ≡ x + 1 → value_above w xs x y ≡ value_in_corner w xs n y
corner_behind w xs x y n e = elim (cases_eq y 0) [
  | inl first ↦ rw (ne_eqb n 0 (omega arith), eq-eqb y 0 first) refl
  | inr other ↦
      let back : n - 1 ≡ x = omega arith in
      rw (ne_eqb n 0 (omega arith), ne_eqb y 0 other) (sym (ap (λ i. get_or xs ((y - 1) * w + i) (pos 0)) back))
]

-- what was read is to the left of what is read next
pub left_next : (w : ℕ) (xs : List ℤ) (x y n : ℕ) (v : ℤ) → y * w + x < length xs → n ≡ x + 1 → v ≡ value_left_of w (set xs (y * w + x) v) n y
left_next w xs x y n v fits e = sym (get_or-set_same xs (y * w + x) v (pos 0) fits) ∙ left_behind w (set xs (y * w + x) v) x y n e

-- what is above a place stays as that is written
above_kept : (w : ℕ) (xs : List ℤ) (x y : ℕ) (v : ℤ) → x < w → value_above w xs x y ≡ value_above w (set xs (y * w + x) v) x y
above_kept w xs x y v fits = elim (cases_eq y 0) [
  | inl first ↦ rw (eq-eqb y 0 first) refl
  | inr other ↦
      let next : y ≡ (y - 1) + 1 = omega arith in
      let rows : y * w ≡ (y - 1) * w + w = ap (λ i. i * w) next ∙ more (y - 1) w in
      let apart : (y - 1) * w + x ≢ y * w + x = omega arith in
      rw (ne_eqb y 0 other) (sym (get_or-set_other xs (y * w + x) ((y - 1) * w + x) v (pos 0) apart))
]
  where
    more : (m k : ℕ) → (m + 1) * k ≡ m * k + k
    more m k = omega arith

-- what was above is above that
pub corner_next : (w : ℕ) (xs : List ℤ) (x y n : ℕ) (v above : ℤ) → x < w → above ≡ value_above w xs x y → n ≡ x + 1 → above ≡ value_in_corner w (set xs (y * w + x) v) n y
corner_next w xs x y n v above fits h e = h ∙ above_kept w xs x y v fits ∙ corner_behind w (set xs (y * w + x) v) x y n e

-- the lower half of a number is the number, where it is equal to it in 64 bits
pub half_same : (v half from : ℤ) → from ≡ to_z w32 (of_z w32 half) → to_z w64 (of_z w64 from) ≡ from → to_z w64 (of_z w64 v) ≡ v → of_z w64 from ≡ of_z w64 v → to_z w32 (of_z w32 half) ≡ v
half_same v half from is f g e = sym is ∙ sym f ∙ ap (to_z w64) e ∙ g

-- a number under other names of its contexts
pub number_read : {fs gs : List ℕ} {a b : ℕ} {q : Result (ℤ × Reading) Cause} (bits : ℕ) (r : Reading) → fs ≡ gs → a ≡ b → signed_read fs bits a r ≡ q → signed_read gs bits b r ≡ q
number_read bits r same sign read = sym (ap₂ (λ (f : List ℕ) (s : ℕ). signed_read f bits s r) same sign) ∙ read

-- a value that was read, put in its place
pub value_put : (f : Frame) (x y : ℕ) (xs ys : List ℤ) (v : ℤ) (old new : Reading) → signed_read (follow_here f xs x y) bits_context (sign_here f xs x y) old ≡ Ok (v, new) → ys ≡ slice_set xs (y * f.width + x) v
    → read_coded (value_step f x y xs) old ≡ Ok (ys, new)
unfolding value_step
value_put f x y xs ys v old new found put = rw (found, put) refl

-- a value that was refused
pub value_stops : (f : Frame) (x y : ℕ) (xs : List ℤ) (old : Reading) (cause : Cause) → signed_read (follow_here f xs x y) bits_context (sign_here f xs x y) old ≡ Err cause → read_coded (value_step f x y xs) old ≡ Err cause
unfolding value_step
value_stops f x y xs old cause refused = rw refused refl
