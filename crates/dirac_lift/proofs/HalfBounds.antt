-- That 32 bits are enough for a level of each wavelet whose values are at most 4095, for columns and then for rows.
use Rattle.std.proofs.Common.{◌≡◌, ℕ, ℤ, pos, true, nat_le, ◌&&◌, ◌^◌, ◌-◌, [], ◌∷◌, ◌≤◌, ◌==◌, if◌then◌else◌, List, length, get_or, unsigned_abs, arith, refl, ap, sym, ◌∙◌, subst}
use Rattle.std.specs.List.{All}
use Rattle.std.proofs.lemmas.Bool.{and_parts, leb-true}
use Rattle.std.proofs.lemmas.List.{ext_get_or}
use Rattle.dirac_lift.specs.Halves.{AreHalvesOfLine}
use Rattle.dirac_lift.specs.HalfRuns.{AreNarrow, HalvesRun, after_step, after_steps, is_narrow, stays_narrow}
use Rattle.dirac_lift.specs.Lifting.{Step}
use Rattle.dirac_lift.specs.Level.{column}
use Rattle.dirac_lift.specs.Wavelets.{run, steps_of}
use Rattle.dirac_lift.proofs.ColumnLemmas.{column_at, length-column}
use Rattle.dirac_lift.proofs.Runs.{by_wavelet}

pub columns_narrow : (w : ℕ) → w ≤ 6 → stays_narrow (steps_of w) (4095, 4095) ≡ true
columns_narrow = by_wavelet (λ w ss. stays_narrow ss (4095, 4095) ≡ true) refl refl refl refl refl refl refl

-- rows of even places, then rows of odd ones
pub rows_narrow : (w : ℕ) → w ≤ 6 → (stays_narrow (steps_of w) ((after_steps (steps_of w) (4095, 4095)).0, (after_steps (steps_of w) (4095, 4095)).0) ≡ true) × (stays_narrow (steps_of w) ((after_steps (steps_of w) (4095, 4095)).1, (after_steps (steps_of w) (4095, 4095)).1) ≡ true)
rows_narrow = by_wavelet (λ w ss. (stays_narrow ss ((after_steps ss (4095, 4095)).0, (after_steps ss (4095, 4095)).0) ≡ true) × (stays_narrow ss ((after_steps ss (4095, 4095)).1, (after_steps ss (4095, 4095)).1) ≡ true))
    (refl, refl) (refl, refl) (refl, refl) (refl, refl) (refl, refl) (refl, refl) (refl, refl)

-- a single line is the only column of its values
pub column_alone : (xs : List ℤ) (h : ℕ) → length xs ≡ h → column xs 1 h 0 ≡ xs
column_alone xs h e = ext_get_or (pos 0) (column xs 1 h 0) xs (length-column xs 1 h 0 ∙ sym e) (λ i l.
    column_at xs 1 h 0 i (omega (arith, l, length-column xs 1 h 0)) ∙ ap (λ j. get_or xs j (pos 0)) (omega arith))

pub ran_alone : (ss : List Step) (es os new_es new_os xs : List ℤ) → HalvesRun ss 1 (length es) es os new_es new_os → length os ≡ length es → AreHalvesOfLine 0 es os xs → AreHalvesOfLine 0 new_es new_os (run ss xs)
ran_alone ss es os new_es new_os xs r len a =
    let before : AreHalvesOfLine 0 (column es 1 (length es) 0) (column os 1 (length es) 0) xs =
    subst (λ ys. AreHalvesOfLine 0 ys (column os 1 (length es) 0) xs) (sym (column_alone es (length es) refl)) (subst (λ ys. AreHalvesOfLine 0 es ys xs) (sym (column_alone os (length es) len)) a) in
    let after : AreHalvesOfLine 0 (column new_es 1 (length es) 0) (column new_os 1 (length es) 0) (run ss xs) = r.each 0 xs (omega arith) before in
    subst (λ ys. AreHalvesOfLine 0 ys new_os (run ss xs)) (column_alone new_es (length es) r.evens_len)
    (subst (λ ys. AreHalvesOfLine 0 (column new_es 1 (length es) 0) ys (run ss xs)) (column_alone new_os (length es) (r.odds_len ∙ len)) after)

pub run_alone : (k : ℕ) (es os new_es new_os xs : List ℤ) → HalvesRun (steps_of k) 1 (length es) es os new_es new_os → length os ≡ length es → AreHalvesOfLine 0 es os xs → AreHalvesOfLine 0 new_es new_os (run (steps_of k) xs)
run_alone k = ran_alone (steps_of k)

-- after all steps values are still small
ends_narrow : (ss : List Step) (most : ℕ × ℕ) → stays_narrow ss most ≡ true → ((after_steps ss most).0 ≤ 2 ^ 31 - 2 ^ 22) × ((after_steps ss most).1 ≤ 2 ^ 31 - 2 ^ 22)
ends_narrow [] most t =
    let a = and_parts (nat_le most.0 (2 ^ 31 - 2 ^ 22)) (nat_le most.1 (2 ^ 31 - 2 ^ 22)) t in
    (leb-true most.0 (2 ^ 31 - 2 ^ 22) a.0, leb-true most.1 (2 ^ 31 - 2 ^ 22) a.1)
ends_narrow (s ∷ ss) most t =
    ends_narrow ss (after_step s most) (and_parts (if s.parity == 0 then is_narrow s most.0 most.1 else (nat_le s.parity 1 && is_narrow s most.1 most.0)) (stays_narrow ss (after_step s most)) t).1

pub run_ends : (ss : List Step) (w h : ℕ) (es os es2 os2 : List ℤ) → AreNarrow ss w h es os → HalvesRun ss w h es os es2 os2 → All (λ v. unsigned_abs v ≤ 2 ^ 31 - 2 ^ 22) es2 × All (λ v. unsigned_abs v ≤ 2 ^ 31 - 2 ^ 22) os2
run_ends ss w h es os es2 os2 n r =
    let grown_most = r.grow n.most n.even_bound n.odd_bound in
    let ends = ends_narrow ss n.most n.test in
    (λ k d l. omega (arith, ends.0, grown_most.0 k d l), λ k d l. omega (arith, ends.1, grown_most.1 k d l))
