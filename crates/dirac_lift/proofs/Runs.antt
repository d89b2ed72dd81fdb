-- Lists of steps: what undoes them, and how large they make values; then the seven wavelets.
use Rattle.std.proofs.Common.{◌≡◌, ℕ, zero, suc, ℤ, pos, Bool, true, ◌&&◌, ◌+◌, ◌-◌, ◌*◌, ◌/◌, ◌%◌, ◌^◌, ◌≤◌, ◌==◌, nat_le, if◌then◌else◌, unsigned_abs, List, [], ◌∷◌, ◌++◌, length, get_or, arith, refl, inl, inr, ap, sym, ◌∙◌, subst, eq-eqb}
use Rattle.std.specs.List.{All, sum_by}
use Rattle.std.proofs.lemmas.Bool.{cases_lt, cases_eq, ne_eqb, and_parts, leb-true}
use Rattle.std.proofs.lemmas.List.{get_or_past, get_or_default}
use Rattle.dirac_lift.specs.Lifting.{Step, lift, opposite, PlacesWithin, grown_by_step}
use Rattle.dirac_lift.specs.Safety.{AreFit, Safe}
use Rattle.dirac_lift.specs.Wavelets.{run, taken_back, steps_of, deslauriers_dubuc_9_7, legall_5_3, deslauriers_dubuc_13_7, haar, fidelity, daubechies_9_7, synth_bound, analyse_bound}
use Rattle.dirac_lift.proofs.Lifted.{length-lift}
use Rattle.dirac_lift.proofs.Undone.{lift_back, lift_there}
use Rattle.dirac_lift.proofs.Growth.{own_grown, other_kept}

pub length-run : (ss : List Step) (xs : List ℤ) → length (run ss xs) ≡ length xs
length-run [] xs = refl
length-run (s ∷ ss) xs = length-run ss (lift s xs) ∙ length-lift s xs

run-append : (ss ts : List Step) (xs : List ℤ) → run (ss ++ ts) xs ≡ run ts (run ss xs)
run-append [] ts xs = refl
run-append (s ∷ ss) ts xs = run-append ss ts (lift s xs)

-- each step's parity is one
abbrev pub has_parities : List Step → Bool
has_parities [] = true
has_parities (s ∷ ss) = nat_le s.parity 1 && has_parities ss

pub run_there : (ss : List Step) (xs : List ℤ) → has_parities ss ≡ true → length xs % 2 ≡ 0 → run ss (run (taken_back ss) xs) ≡ xs
run_there [] xs fit even = refl
run_there (s ∷ ss) xs fit even =
    let parts : (nat_le s.parity 1 ≡ true) × (has_parities ss ≡ true) = and_parts (nat_le s.parity 1) (has_parities ss) fit in
    ap (λ ys. run ss (lift s ys)) (run-append (taken_back ss) (opposite s ∷ []) xs)
    ∙ ap (run ss) (lift_there s (run (taken_back ss) xs) (leb-true s.parity 1 parts.0) (omega (arith, even, length-run (taken_back ss) xs)))
    ∙ run_there ss xs parts.1 even

pub run_back : (ss : List Step) (xs : List ℤ) → has_parities ss ≡ true → length xs % 2 ≡ 0 → run (taken_back ss) (run ss xs) ≡ xs
run_back [] xs fit even = refl
run_back (s ∷ ss) xs fit even =
    let parts : (nat_le s.parity 1 ≡ true) × (has_parities ss ≡ true) = and_parts (nat_le s.parity 1) (has_parities ss) fit in
    run-append (taken_back ss) (opposite s ∷ []) (run ss (lift s xs))
    ∙ ap (lift (opposite s)) (run_back ss (lift s xs) parts.1 (omega (arith, even, length-lift s xs)))
    ∙ lift_back s xs (leb-true s.parity 1 parts.0) even

-- bounds on even and odd places after a step
abbrev pub evens_after : Step → ℕ → ℕ → ℕ
evens_after s evens odds = if s.parity == 0 then grown_by_step s evens odds else evens

abbrev pub odds_after : Step → ℕ → ℕ → ℕ
odds_after s evens odds = if s.parity == 0 then odds else grown_by_step s odds evens

after_step : (s : Step) (e o : ℕ) (xs : List ℤ) → s.parity ≤ 1 → length xs % 2 ≡ 0 → PlacesWithin e 0 xs → PlacesWithin o 1 xs → PlacesWithin (evens_after s e o) 0 (lift s xs) × PlacesWithin (odds_after s e o) 1 (lift s xs)
after_step s e o xs p even he ho = elim (cases_eq s.parity 0) [
  | inl none ↦
      let one : 1 - s.parity ≡ 1 = omega arith in
      let read : PlacesWithin o (1 - s.parity) xs = subst (λ q. PlacesWithin o q xs) (sym one) ho in
      let mine : PlacesWithin e s.parity xs = subst (λ q. PlacesWithin e q xs) (sym none) he in
      rw (eq-eqb s.parity 0 none) (
        subst (λ q. PlacesWithin (grown_by_step s e o) q (lift s xs)) none (own_grown s e o xs p even mine read),
        subst (λ q. PlacesWithin o q (lift s xs)) one (other_kept s o xs p even read),
      )
  | inr some ↦
      let one : s.parity ≡ 1 = omega (arith, some, p) in
      let none : 1 - s.parity ≡ 0 = omega (arith, one) in
      let read : PlacesWithin e (1 - s.parity) xs = subst (λ q. PlacesWithin e q xs) (sym none) he in
      let mine : PlacesWithin o s.parity xs = subst (λ q. PlacesWithin o q xs) (sym one) ho in
      rw (ne_eqb s.parity 0 some) (
        subst (λ q. PlacesWithin e q (lift s xs)) none (other_kept s e xs p even read),
        subst (λ q. PlacesWithin (grown_by_step s o e) q (lift s xs)) one (own_grown s o e xs p even mine read),
      )
]

-- the bounds after all steps
abbrev pub reach : List Step → ℕ → ℕ → ℕ × ℕ
reach [] evens odds = (evens, odds)
reach (s ∷ ss) evens odds = reach ss (evens_after s evens odds) (odds_after s evens odds)

pub run_within : (ss : List Step) (e o : ℕ) (xs : List ℤ) → has_parities ss ≡ true → length xs % 2 ≡ 0 → PlacesWithin e 0 xs → PlacesWithin o 1 xs → PlacesWithin (reach ss e o).0 0 (run ss xs) × PlacesWithin (reach ss e o).1 1 (run ss xs)
run_within [] e o xs fit even he ho = (he, ho)
run_within (s ∷ ss) e o xs fit even he ho =
    let parts : (nat_le s.parity 1 ≡ true) × (has_parities ss ≡ true) = and_parts (nat_le s.parity 1) (has_parities ss) fit in
    let next : PlacesWithin (evens_after s e o) 0 (lift s xs) × PlacesWithin (odds_after s e o) 1 (lift s xs) =
    after_step s e o xs (leb-true s.parity 1 parts.0) even he ho in
    run_within ss (evens_after s e o) (odds_after s e o) (lift s xs) parts.1 (omega (arith, even, length-lift s xs)) next.0 next.1

-- whether all steps are fit and all values stay small
abbrev stays_small : List Step → ℕ → ℕ → Bool
stays_small [] evens odds = true
stays_small (s ∷ ss) evens odds =
    (nat_le s.parity 1 && (nat_le s.shift 32 && (nat_le (sum_by unsigned_abs s.taps) (2 ^ 14) && (nat_le evens (2 ^ 112) && nat_le odds (2 ^ 112)))))
    && stays_small ss (evens_after s evens odds) (odds_after s evens odds)

within_weaker : (a b parity : ℕ) (xs : List ℤ) → a ≤ b → PlacesWithin a parity xs → PlacesWithin b parity xs
within_weaker a b parity xs l h n = omega (arith, l, h n)

safe_from_small : (ss : List Step) (e o : ℕ) (xs : List ℤ) → stays_small ss e o ≡ true → length xs % 2 ≡ 0 → PlacesWithin e 0 xs → PlacesWithin o 1 xs → Safe ss xs
safe_from_small [] e o xs small even he ho = tt
safe_from_small (s ∷ ss) e o xs small even he ho =
    let a = and_parts (nat_le s.parity 1 && (nat_le s.shift 32 && (nat_le (sum_by unsigned_abs s.taps) (2 ^ 14) && (nat_le e (2 ^ 112) && nat_le o (2 ^ 112))))) (stays_small ss (evens_after s e o) (odds_after s e o)) small in
    let b = and_parts (nat_le s.parity 1) (nat_le s.shift 32 && (nat_le (sum_by unsigned_abs s.taps) (2 ^ 14) && (nat_le e (2 ^ 112) && nat_le o (2 ^ 112)))) a.0 in
    let c = and_parts (nat_le s.shift 32) (nat_le (sum_by unsigned_abs s.taps) (2 ^ 14) && (nat_le e (2 ^ 112) && nat_le o (2 ^ 112))) b.1 in
    let d = and_parts (nat_le (sum_by unsigned_abs s.taps) (2 ^ 14)) (nat_le e (2 ^ 112) && nat_le o (2 ^ 112)) c.1 in
    let f = and_parts (nat_le e (2 ^ 112)) (nat_le o (2 ^ 112)) d.1 in
    let p : s.parity ≤ 1 = leb-true s.parity 1 b.0 in
    let next : PlacesWithin (evens_after s e o) 0 (lift s xs) × PlacesWithin (odds_after s e o) 1 (lift s xs) = after_step s e o xs p even he ho in (
      (p, leb-true s.shift 32 c.0, leb-true (sum_by unsigned_abs s.taps) (2 ^ 14) d.0),
      within_weaker e (2 ^ 112) 0 xs (leb-true e (2 ^ 112) f.0) he,
      within_weaker o (2 ^ 112) 1 xs (leb-true o (2 ^ 112) f.1) ho,
      safe_from_small ss (evens_after s e o) (odds_after s e o) (lift s xs) a.1 (omega (arith, even, length-lift s xs)) next.0 next.1,
    )

fit_from_small : (ss : List Step) (e o : ℕ) → stays_small ss e o ≡ true → AreFit ss
fit_from_small [] e o small = tt
fit_from_small (s ∷ ss) e o small =
    let a = and_parts (nat_le s.parity 1 && (nat_le s.shift 32 && (nat_le (sum_by unsigned_abs s.taps) (2 ^ 14) && (nat_le e (2 ^ 112) && nat_le o (2 ^ 112))))) (stays_small ss (evens_after s e o) (odds_after s e o)) small in
    let b = and_parts (nat_le s.parity 1) (nat_le s.shift 32 && (nat_le (sum_by unsigned_abs s.taps) (2 ^ 14) && (nat_le e (2 ^ 112) && nat_le o (2 ^ 112)))) a.0 in
    let c = and_parts (nat_le s.shift 32) (nat_le (sum_by unsigned_abs s.taps) (2 ^ 14) && (nat_le e (2 ^ 112) && nat_le o (2 ^ 112))) b.1 in
    let d = and_parts (nat_le (sum_by unsigned_abs s.taps) (2 ^ 14)) (nat_le e (2 ^ 112) && nat_le o (2 ^ 112)) c.1 in (
      (leb-true s.parity 1 b.0, leb-true s.shift 32 c.0, leb-true (sum_by unsigned_abs s.taps) (2 ^ 14) d.0),
      fit_from_small ss (evens_after s e o) (odds_after s e o) a.1,
    )

-- between all values and those at even or odd places
pub within_from_all : (b parity : ℕ) (xs : List ℤ) → All (λ v. unsigned_abs v ≤ b) xs → PlacesWithin b parity xs
within_from_all b parity xs all n = elim (cases_lt (2 * n + parity) (length xs)) [
  | inl inside ↦ all (2 * n + parity) (pos 0) inside
  | inr past ↦ rw (get_or_past xs (2 * n + parity) (pos 0) past) (omega arith)
]

pub all_from_within : (b e o : ℕ) (xs : List ℤ) → e ≤ b → o ≤ b → PlacesWithin e 0 xs → PlacesWithin o 1 xs → All (λ v. unsigned_abs v ≤ b) xs
all_from_within b e o xs le lo he ho k d l =
    rw (get_or_default xs k d (pos 0) l) (elim (cases_eq (k % 2) 0) [
      | inl even ↦
          let place : 2 * (k / 2) + 0 ≡ k = omega (arith, even) in
          let here : unsigned_abs (get_or xs k (pos 0)) ≤ e = rw place at (he (k / 2)) in omega (arith, here, le)
      | inr odd ↦
          let place : 2 * (k / 2) + 1 ≡ k = omega (arith, odd) in
          let here : unsigned_abs (get_or xs k (pos 0)) ≤ o = rw place at (ho (k / 2)) in omega (arith, here, lo)
    ])

-- a fact of each wavelet
pub by_wavelet : (P : ℕ → List Step → Type 0) → P 0 deslauriers_dubuc_9_7 → P 1 legall_5_3 → P 2 deslauriers_dubuc_13_7 → P 3 haar → P 4 haar → P 5 fidelity → P 6 daubechies_9_7 → (w : ℕ) → w ≤ 6 → P w (steps_of w)
by_wavelet P p0 p1 p2 p3 p4 p5 p6 zero l = p0
by_wavelet P p0 p1 p2 p3 p4 p5 p6 (suc zero) l = p1
by_wavelet P p0 p1 p2 p3 p4 p5 p6 (suc (suc zero)) l = p2
by_wavelet P p0 p1 p2 p3 p4 p5 p6 (suc (suc (suc zero))) l = p3
by_wavelet P p0 p1 p2 p3 p4 p5 p6 (suc (suc (suc (suc zero)))) l = p4
by_wavelet P p0 p1 p2 p3 p4 p5 p6 (suc (suc (suc (suc (suc zero))))) l = p5
by_wavelet P p0 p1 p2 p3 p4 p5 p6 (suc (suc (suc (suc (suc (suc zero)))))) l = p6
by_wavelet P p0 p1 p2 p3 p4 p5 p6 (suc (suc (suc (suc (suc (suc (suc n))))))) l = absurd (omega arith)

pub parities_of : (w : ℕ) → w ≤ 6 → has_parities (steps_of w) ≡ true
parities_of = by_wavelet (λ w ss. has_parities ss ≡ true) refl refl refl refl refl refl refl

pub parities_back : (w : ℕ) → w ≤ 6 → has_parities (taken_back (steps_of w)) ≡ true
parities_back = by_wavelet (λ w ss. has_parities (taken_back ss) ≡ true) refl refl refl refl refl refl refl

small_of : (w : ℕ) → w ≤ 6 → stays_small (steps_of w) (2 ^ 108) (2 ^ 108) ≡ true
small_of = by_wavelet (λ w ss. stays_small ss (2 ^ 108) (2 ^ 108) ≡ true) refl refl refl refl refl refl refl

small_back : (w : ℕ) → w ≤ 6 → stays_small (taken_back (steps_of w)) (2 ^ 108) (2 ^ 108) ≡ true
small_back = by_wavelet (λ w ss. stays_small (taken_back ss) (2 ^ 108) (2 ^ 108) ≡ true) refl refl refl refl refl refl refl

synth_reach : (b w : ℕ) → w ≤ 6 → ((reach (steps_of w) b b).0 ≤ synth_bound w b) × ((reach (steps_of w) b b).1 ≤ synth_bound w b)
synth_reach b = by_wavelet (λ w ss. ((reach ss b b).0 ≤ synth_bound w b) × ((reach ss b b).1 ≤ synth_bound w b))
    (omega arith, omega arith) (omega arith, omega arith) (omega arith, omega arith) (omega arith, omega arith) (omega arith, omega arith) (omega arith, omega arith) (omega arith, omega arith)

analyse_reach : (b w : ℕ) → w ≤ 6 → ((reach (taken_back (steps_of w)) b b).0 ≤ analyse_bound b) × ((reach (taken_back (steps_of w)) b b).1 ≤ analyse_bound b)
analyse_reach b = by_wavelet (λ w ss. ((reach (taken_back ss) b b).0 ≤ analyse_bound b) × ((reach (taken_back ss) b b).1 ≤ analyse_bound b))
    (omega arith, omega arith) (omega arith, omega arith) (omega arith, omega arith) (omega arith, omega arith) (omega arith, omega arith) (omega arith, omega arith) (omega arith, omega arith)

pub synth_fit : (w : ℕ) → w ≤ 6 → AreFit (steps_of w)
synth_fit w l = fit_from_small (steps_of w) (2 ^ 108) (2 ^ 108) (small_of w l)

pub analyse_fit : (w : ℕ) → w ≤ 6 → AreFit (taken_back (steps_of w))
analyse_fit w l = fit_from_small (taken_back (steps_of w)) (2 ^ 108) (2 ^ 108) (small_back w l)

-- what the two public calls need
pub synth_safe : (w : ℕ) (xs : List ℤ) → w ≤ 6 → length xs % 2 ≡ 0 → All (λ v. unsigned_abs v ≤ 2 ^ 108) xs → Safe (steps_of w) xs
synth_safe w xs l even all = safe_from_small (steps_of w) (2 ^ 108) (2 ^ 108) xs (small_of w l) even (within_from_all (2 ^ 108) 0 xs all) (within_from_all (2 ^ 108) 1 xs all)

pub analyse_safe : (w : ℕ) (xs : List ℤ) → w ≤ 6 → length xs % 2 ≡ 0 → All (λ v. unsigned_abs v ≤ 2 ^ 108) xs → Safe (taken_back (steps_of w)) xs
analyse_safe w xs l even all = safe_from_small (taken_back (steps_of w)) (2 ^ 108) (2 ^ 108) xs (small_back w l) even (within_from_all (2 ^ 108) 0 xs all) (within_from_all (2 ^ 108) 1 xs all)

pub synth_grows : (w b : ℕ) (xs : List ℤ) → w ≤ 6 → length xs % 2 ≡ 0 → All (λ v. unsigned_abs v ≤ b) xs → All (λ v. unsigned_abs v ≤ synth_bound w b) (run (steps_of w) xs)
synth_grows w b xs l even all =
    let within : PlacesWithin (reach (steps_of w) b b).0 0 (run (steps_of w) xs) × PlacesWithin (reach (steps_of w) b b).1 1 (run (steps_of w) xs) =
    run_within (steps_of w) b b xs (parities_of w l) even (within_from_all b 0 xs all) (within_from_all b 1 xs all) in
    all_from_within (synth_bound w b) (reach (steps_of w) b b).0 (reach (steps_of w) b b).1 (run (steps_of w) xs) (synth_reach b w l).0 (synth_reach b w l).1 within.0 within.1

pub analyse_grows : (w b : ℕ) (xs : List ℤ) → w ≤ 6 → length xs % 2 ≡ 0 → All (λ v. unsigned_abs v ≤ b) xs → All (λ v. unsigned_abs v ≤ analyse_bound b) (run (taken_back (steps_of w)) xs)
analyse_grows w b xs l even all =
    let within : PlacesWithin (reach (taken_back (steps_of w)) b b).0 0 (run (taken_back (steps_of w)) xs) × PlacesWithin (reach (taken_back (steps_of w)) b b).1 1 (run (taken_back (steps_of w)) xs) =
    run_within (taken_back (steps_of w)) b b xs (parities_back w l) even (within_from_all b 0 xs all) (within_from_all b 1 xs all) in
    all_from_within (analyse_bound b) (reach (taken_back (steps_of w)) b b).0 (reach (taken_back (steps_of w)) b b).1 (run (taken_back (steps_of w)) xs) (analyse_reach b w l).0 (analyse_reach b w l).1 within.0 within.1
