-- What steps that are run line by line have done after some turns: how large values are, and which are as they came.
use Rattle.std.proofs.Common.{◌≡◌, ℕ, zero, suc, ℤ, pos, Bool, true, ◌==◌, if◌then◌else◌, nat_le, min, ◌+◌, ◌-◌, ◌/◌, ◌%◌, ◌<◌, ◌≤◌, List, [], ◌∷◌, length, get_or, arith, refl, inl, inr, ap, sym, ◌∙◌}
use Rattle.std.proofs.lemmas.Bool.{and_parts, cases_lt, leb-true}
use Rattle.std.proofs.lemmas.List.{get_or-set_other}
use Rattle.dirac_lift.specs.ByLines.{Timed, in_turn, longest_wait, timed_behind, turn, turns}
use Rattle.dirac_lift.specs.HalfRuns.{after_step, after_steps}
use Rattle.dirac_lift.specs.Lifting.{PlacesWithin, Step, new_at, own}
use Rattle.dirac_lift.specs.Rings.{coming, steps_to_come}
use Rattle.dirac_lift.specs.Wavelets.{run, steps_of, synth}
use Rattle.dirac_lift.proofs.Growth.{abs-new}
use Rattle.dirac_lift.proofs.Lifted.{LiftedBelow}
use Rattle.dirac_lift.proofs.Runs.{by_wavelet, has_parities, parities_of}
use Rattle.dirac_lift.proofs.Turns.{all_apart, alone_below, changed_in_turn, front_first, in_time, no_turns, stays, steps_behind, steps_in, turn_case, turns_run}

abbrev step : ℕ → Bool → ℕ → ℕ → List ℤ → Step
step parity minus shift lead taps = record { parity = parity; minus = minus; shift = shift; lead = lead; taps = taps }

-- how large values are behind a step that has changed some pairs
within_below : (p : ℕ) (mi : Bool) (sh ld : ℕ) (ts : List ℤ) (most : ℕ × ℕ) (xs ys : List ℤ) (n : ℕ) → LiftedBelow (step p mi sh ld ts) xs ys n → p ≤ 1 → PlacesWithin most.0 0 xs → PlacesWithin most.1 1 xs → PlacesWithin (after_step (step p mi sh ld ts) most).0 0 ys × PlacesWithin (after_step (step p mi sh ld ts) most).1 1 ys
within_below zero mi sh ld ts most xs ys n b l he ho = (
  λ k. elim (cases_lt k n) [
    | inl done ↦ rw (b.done k done) (abs-new (step 0 mi sh ld ts) most.0 most.1 xs k he ho)
    | inr rest ↦ rw (b.rest k rest) (omega (arith, he k))
  ],
  λ k. rw (b.kept k) (ho k),
)
within_below (suc zero) mi sh ld ts most xs ys n b l he ho = (
  λ k. rw (b.kept k) (he k),
  λ k. elim (cases_lt k n) [
    | inl done ↦ rw (b.done k done) (abs-new (step 1 mi sh ld ts) most.1 most.0 xs k ho he)
    | inr rest ↦ rw (b.rest k rest) (omega (arith, ho k))
  ],
)
within_below (suc (suc p)) mi sh ld ts most xs ys n b l he ho = absurd (omega (arith, l))

pub within_alone : (t : Timed) (m : ℕ) (most : ℕ × ℕ) (xs : List ℤ) → t.step.parity ≤ 1 → PlacesWithin most.0 0 xs → PlacesWithin most.1 1 xs → PlacesWithin (after_step t.step most).0 0 (turns (t ∷ []) m xs) × PlacesWithin (after_step t.step most).1 1 (turns (t ∷ []) m xs)
within_alone t m most xs p he ho =
    within_below t.step.parity t.step.minus t.step.shift t.step.lead t.step.taps most xs (turns (t ∷ []) m xs) (min (m - t.wait) (length xs / 2)) (alone_below t m xs p) p he ho

-- and behind all steps, whatever the turn
pub within_turns : (ts : List Timed) (m : ℕ) (most : ℕ × ℕ) (xs : List ℤ) → in_time ts ≡ true → has_parities (steps_in ts) ≡ true → PlacesWithin most.0 0 xs → PlacesWithin most.1 1 xs → PlacesWithin (after_steps (steps_in ts) most).0 0 (turns ts m xs) × PlacesWithin (after_steps (steps_in ts) most).1 1 (turns ts m xs)
within_turns [] m most xs it fit he ho = rw (no_turns m xs) (he, ho)
within_turns (t ∷ ts) m most xs it fit he ho =
    let parts = and_parts (all_apart t ts) (in_time ts) it in
    let fits = and_parts (nat_le t.step.parity 1) (has_parities (steps_in ts)) fit in
    let p : t.step.parity ≤ 1 = leb-true t.step.parity 1 fits.0 in
    let first = within_alone t m most xs p he ho in
    rw (front_first t ts m xs parts.0 p fits.1) (within_turns ts m (after_step t.step most) (turns (t ∷ []) m xs) parts.1 fits.1 first.0 first.1)

-- a pair that no step has come to is as it came
fresh_in_turn : (t : Timed) (m p : ℕ) (xs : List ℤ) → t.step.parity ≤ 1 → m < p / 2 → get_or (in_turn t m xs) p (pos 0) ≡ get_or xs p (pos 0)
fresh_in_turn t m p xs fit l = elim (turn_case t m (length xs / 2)) [
  | inl busy ↦
      rw (changed_in_turn t m (length xs / 2) xs refl busy.0 busy.1)
      (get_or-set_other xs (own t.step.parity (m - t.wait)) p (new_at t.step xs (m - t.wait)) (pos 0) (λ e. omega (arith, e, fit, l)))
  | inr idle ↦ rw (idle.0 xs refl) refl
]

fresh_turn : (ts : List Timed) (m p : ℕ) (xs : List ℤ) → has_parities (steps_in ts) ≡ true → m < p / 2 → get_or (turn ts m xs) p (pos 0) ≡ get_or xs p (pos 0)
fresh_turn [] m p xs fit l = refl
fresh_turn (t ∷ ts) m p xs fit l =
    let fits = and_parts (nat_le t.step.parity 1) (has_parities (steps_in ts)) fit in
    fresh_turn ts m p (in_turn t m xs) fits.1 l ∙ fresh_in_turn t m p xs (leb-true t.step.parity 1 fits.0) l

fresh : (ts : List Timed) (m p : ℕ) (xs : List ℤ) → has_parities (steps_in ts) ≡ true → m ≤ p / 2 → get_or (turns ts m xs) p (pos 0) ≡ get_or xs p (pos 0)
fresh ts zero p xs fit l = refl
fresh ts (suc m) p xs fit l = fresh_turn ts m p (turns ts m xs) fit (omega (arith, l)) ∙ fresh ts m p xs fit (omega (arith, l))

-- the steps of a wavelet that wait for rows
pub waiting_in_time : (w : ℕ) → w ≤ 6 → in_time (steps_to_come w) ≡ true
waiting_in_time = by_wavelet (λ w ss. in_time (timed_behind coming 0 ss) ≡ true) refl refl refl refl refl refl refl

pub steps_waiting : (w : ℕ) → steps_in (steps_to_come w) ≡ steps_of w
steps_waiting w = steps_behind coming 0 (steps_of w)

pub waiting_parities : (w : ℕ) → w ≤ 6 → has_parities (steps_in (steps_to_come w)) ≡ true
waiting_parities w l = ap has_parities (steps_waiting w) ∙ parities_of w l

-- a row that has just come is as it came
pub row_fresh : (k m p : ℕ) (xs : List ℤ) → k ≤ 6 → m ≤ p / 2 → get_or (turns (steps_to_come k) m xs) p (pos 0) ≡ get_or xs p (pos 0)
row_fresh k m p xs l late = fresh (steps_to_come k) m p xs (waiting_parities k l) late

-- and one that all steps have gone over is finished
pub row_finished : (k m p : ℕ) (xs : List ℤ) → k ≤ 6 → length xs % 2 ≡ 0 → p / 2 + longest_wait (steps_to_come k) < m → get_or (turns (steps_to_come k) m xs) p (pos 0) ≡ get_or (synth k xs) p (pos 0)
unfolding synth
row_finished k m p xs l even late =
    let ts = steps_to_come k in
    sym (stays ts (length xs / 2 + longest_wait ts) m p xs (waiting_parities k l) late)
    ∙ ap (λ zs. get_or zs p (pos 0)) (turns_run ts (m + (length xs / 2 + longest_wait ts)) xs (waiting_in_time k l) (waiting_parities k l) even (omega arith) ∙ ap (λ rest. run rest xs) (steps_waiting k))

-- how long the last step waits
pub longest_waits : (w : ℕ) → w ≤ 6 → longest_wait (steps_to_come w) ≤ (if w == 5 then 7 else 3)
longest_waits = by_wavelet (λ w ss. longest_wait (timed_behind coming 0 ss) ≤ (if w == 5 then 7 else 3)) (omega arith) (omega arith) (omega arith) (omega arith) (omega arith) (omega arith) (omega arith)
