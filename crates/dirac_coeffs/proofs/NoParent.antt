-- A parent of zeros, which contexts see as they do none.
use Rattle.std.proofs.Common.{◌≡◌, ℕ, zero, suc, ℤ, List, pos, ◌+◌, ◌*◌, ◌/◌, ◌≤◌, inl, inr, [], replicate, Result, Ok, Err, refl, sym, ap, ◌∙◌, subst}
use Rattle.std.specs.Prelude.{slice_index_or, slice_set}
use Rattle.std.proofs.lemmas.List.{get_or-replicate, get_or_past, length-replicate}
use Rattle.std.proofs.lemmas.Bool.{cases_lt}
use Rattle.dirac_common.specs.declared.faults.Cause.{Cause}
use Rattle.dirac_common.specs.Chain.{◌>>=◌}
use Rattle.dirac_arith.specs.Coded.{Coded, done, read_coded, repeated, signed}
use Rattle.dirac_arith.specs.Reading.{Reading}
use Rattle.dirac_arith.proofs.CodedValues.{then_is_read}
use Rattle.dirac_coeffs.specs.declared.layout.BandLayout.{BandLayout}
use Rattle.dirac_coeffs.specs.BandRead.{value_step, row_step}
use Rattle.dirac_coeffs.specs.Contexts.{bits_context, follow_among, value_above, value_in_corner, value_left_of}
use Rattle.dirac_coeffs.specs.Decisions.{frame_of, sign_here}

-- steps that are read alike are read alike one after another
repeated_same : {A : Type 0} (step other : ℕ → A → Coded A) (n : ℕ) (x : A) (r : Reading) → ((i : ℕ) (y : A) (s : Reading) → read_coded (step i y) s ≡ read_coded (other i y) s) → read_coded (repeated step n x) r ≡ read_coded (repeated other n x) r
unfolding repeated
repeated_same step other zero x r same = refl
repeated_same {A = A} step other (suc n) x r same =
    then_is_read (repeated step n x) (step n) r
    ∙ ap (λ (q : Result (A × Reading) Cause). q >>= λ y. read_coded (step n y.0) y.1) (repeated_same step other n x r same)
    ∙ next (read_coded (repeated other n x) r)
    ∙ sym (then_is_read (repeated other n x) (other n) r)
  where
    next : (q : Result (A × Reading) Cause) → (q >>= λ y. read_coded (step n y.0) y.1) ≡ (q >>= λ y. read_coded (other n y.0) y.1)
    next (Ok y) = same n y.0 y.1
    next (Err e) = refl

-- a number of a list of zeros is zero, also behind its end
pub zeros_at : (count place : ℕ) → slice_index_or (replicate count (pos 0)) place (pos 0) ≡ pos 0
zeros_at count place = elim (cases_lt place count) [
  | inl inside ↦ get_or-replicate count place (pos 0) (pos 0) inside
  | inr past ↦ get_or_past (replicate count (pos 0)) place (pos 0) (subst (λ n. n ≤ place) (sym (length-replicate count (pos 0))) past)
]

value_of_zeros : (layout : BandLayout) (count x y : ℕ) (xs : List ℤ) (r : Reading) → read_coded (value_step (frame_of layout []) x y xs) r ≡ read_coded (value_step (frame_of layout (replicate count (pos 0))) x y xs) r
unfolding value_step
value_of_zeros layout count x y xs r =
    let f = frame_of layout [] in
    let w = layout.width in
    let beside : ℤ → Result (List ℤ × Reading) Cause =
    λ v. read_coded (signed (follow_among (value_left_of w xs x y) (value_above w xs x y) (value_in_corner w xs x y) v) bits_context (sign_here f xs x y) (λ u. done (slice_set xs (y * w + x) u))) r in
    ap beside (sym (zeros_at count (y / 2 * (w / 2) + x / 2)))

-- a row reads the same below zeros as below no parent
pub row_below_zeros : (layout : BandLayout) (count y x n : ℕ) (xs : List ℤ) (r : Reading) → read_coded (row_step (frame_of layout []) y x n xs) r ≡ read_coded (row_step (frame_of layout (replicate count (pos 0))) y x n xs) r
row_below_zeros layout count y x n xs r =
    repeated_same (λ i. value_step (frame_of layout []) (x + i) y) (λ i. value_step (frame_of layout (replicate count (pos 0))) (x + i) y) n xs r (λ i q s. value_of_zeros layout count (x + i) y q s)
