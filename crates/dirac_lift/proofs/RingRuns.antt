-- All steps of a turn, each on the row of a ring that has come to it.
use Rattle.std.proofs.Common.{◌≡◌, ℕ, zero, suc, ℤ, Bool, true, ◌&&◌, ◌==◌, if◌then◌else◌, nat_le, max, ◌+◌, ◌-◌, ◌*◌, ◌^◌, ◌<◌, ◌≤◌, List, [], ◌∷◌, length, unsigned_abs, arith, refl, ap, sym, ◌∙◌, subst}
use Rattle.std.specs.List.{All, FoldsTo, sum_by}
use Rattle.std.proofs.lemmas.Bool.{and_parts, leb-true}
use Rattle.dirac_common.proofs.Bounds.{all_weaker}
use Rattle.dirac_lift.specs.declared.rings.HalfSize.{HalfSize}
use Rattle.dirac_lift.specs.declared.rings.Rings.{Rings}
use Rattle.dirac_lift.specs.ByLines.{Timed, distance, in_turn, timed_behind, turns}
use Rattle.dirac_lift.specs.HalfRuns.{after_step, after_steps, is_narrow}
use Rattle.dirac_lift.specs.Liftables.{CanLiftRings, RingsLifted}
use Rattle.dirac_lift.specs.Lifting.{PlacesWithin, Step}
use Rattle.dirac_lift.specs.Rings.{AfterTurns, AreNarrowLines, RingsHold, RowLifted, coming, most_of, steps_to_come}
use Rattle.dirac_lift.specs.Running.{CanRun}
use Rattle.dirac_lift.specs.Wavelets.{steps_of}
use Rattle.dirac_lift.proofs.HalfSteps.{narrow_parts}
use Rattle.dirac_lift.proofs.RingRows.{hold_same, hold_turned, hold_turned_back, lifted_bound, lifted_holds}
use Rattle.dirac_lift.proofs.Runs.{by_wavelet, has_parities, parities_of}
use Rattle.dirac_lift.proofs.TurnBounds.{waiting_in_time, within_alone, within_turns}
use Rattle.dirac_lift.proofs.Turns.{all_apart, front_first, in_time, no_turns, steps_behind, steps_in, turns_behind}

-- whether a ring has the rows that a step reads, and 32 bits are enough for its sums
abbrev fits_ring : Timed → ℕ × ℕ → Bool
fits_ring t most =
    (nat_le (length t.step.taps) (t.wait + t.step.lead + 1) && nat_le (t.wait + t.step.lead) 15)
    && (if t.step.parity == 0 then is_narrow t.step most.0 most.1 else is_narrow t.step most.1 most.0)

abbrev fit_ring : List Timed → ℕ × ℕ → Bool
fit_ring [] most = true
fit_ring (t ∷ ts) most = fits_ring t most && fit_ring ts most

waiting_fit : (w : ℕ) → w ≤ 6 → fit_ring (steps_to_come w) (most_of w) ≡ true
waiting_fit = by_wavelet (λ w ss. fit_ring (timed_behind coming 0 ss) (after_steps ss (4095, 4095)) ≡ true) refl refl refl refl refl refl refl

most_in_32_bits : (w : ℕ) → w ≤ 6 → (nat_le (most_of w).0 (2 ^ 30) && nat_le (most_of w).1 (2 ^ 30)) ≡ true
most_in_32_bits = by_wavelet (λ w ss. (nat_le (after_steps ss (4095, 4095)).0 (2 ^ 30) && nat_le (after_steps ss (4095, 4095)).1 (2 ^ 30)) ≡ true) refl refl refl refl refl refl refl

abbrev behind : Step → Step → ℕ → List Step → List Timed
behind b s wait ss = timed_behind s (wait + distance b s) ss

abbrev first : Step → Step → ℕ → Timed
first b s wait = record { step = s; wait = wait + distance b s }

-- the lines as the steps before have left them, all turns of theirs done, and rings that hold what the other steps have
-- made of them
record AtStep (b : Step) (ss : List Step) (most : ℕ × ℕ) (r : Rings) (lines : ℕ → List ℤ) : Type 0 where
  pub lead : b.lead ≡ r.lead
  pub down : r.size.half ≤ 8192
  pub time : in_time (timed_behind b r.wait ss) ≡ true
  pub fit : fit_ring (timed_behind b r.wait ss) most ≡ true
  pub parities : has_parities ss ≡ true
  pub in_32_bits : (most.0 ≤ 2 ^ 30) × (most.1 ≤ 2 ^ 30)
  pub from : ℕ × ℕ
  pub ends : after_steps ss from ≡ most
  pub evens : (x : ℕ) → x < r.size.width → PlacesWithin from.0 0 (lines x)
  pub odds : (x : ℕ) → x < r.size.width → PlacesWithin from.1 1 (lines x)
  pub hold : RingsHold 0 r.size.width r.size.half (r.turn + 1 - 16) (r.turn + 1) (λ x. turns (timed_behind b r.wait ss) r.turn (lines x)) r.evens.now r.odds.now
  pub evens_bound : All (λ v. unsigned_abs v ≤ most.0) r.evens.now
  pub odds_bound : All (λ v. unsigned_abs v ≤ most.1) r.odds.now

-- what the test of a step says
record Fits (t : Timed) (changed read : ℕ) : Type 0 where
  pub taps : length t.step.taps ≤ t.wait + t.step.lead + 1
  pub lead : t.wait + t.step.lead ≤ 15
  pub shift : t.step.shift ≤ 12
  pub small : changed ≤ 2 ^ 21
  pub sums : sum_by unsigned_abs t.step.taps * read ≤ 2 ^ 31 - 2 ^ 22

fits_parts : (t : Timed) (most : ℕ × ℕ) (changed read : ℕ) → fits_ring t most ≡ true → (if t.step.parity == 0 then is_narrow t.step most.0 most.1 else is_narrow t.step most.1 most.0) ≡ is_narrow t.step changed read → Fits t changed read
fits_parts t most changed read e narrow =
    let taps = nat_le (length t.step.taps) (t.wait + t.step.lead + 1) in
    let lead = nat_le (t.wait + t.step.lead) 15 in
    let a = and_parts (taps && lead) (if t.step.parity == 0 then is_narrow t.step most.0 most.1 else is_narrow t.step most.1 most.0) e in
    let b = and_parts taps lead a.0 in
    let n = narrow_parts t.step changed read (sym narrow ∙ a.1) in
    record {
      taps = leb-true (length t.step.taps) (t.wait + t.step.lead + 1) b.0;
      lead = leb-true (t.wait + t.step.lead) 15 b.1;
      shift = n.0;
      small = n.1;
      sums = n.2;
    }

-- the lines behind one more step, all turns of its done
abbrev lines_behind : Step → Step → ℕ → ℕ → (ℕ → List ℤ) → ℕ → List ℤ
lines_behind b s wait m lines x = turns (first b s wait ∷ []) (suc m) (lines x)

-- what its turn makes of what the rings hold
turned : (b s : Step) (ss : List Step) (wait m : ℕ) (xs : List ℤ) → in_time (timed_behind b wait (s ∷ ss)) ≡ true → has_parities (s ∷ ss) ≡ true → in_turn (first b s wait) m (turns (timed_behind b wait (s ∷ ss)) m xs) ≡ turns (behind b s wait ss) m (turns (first b s wait ∷ []) (suc m) xs)
turned b s ss wait m xs time fit =
    let t = first b s wait in
    let ts = behind b s wait ss in
    let parts = and_parts (all_apart t ts) (in_time ts) time in
    let fits = and_parts (nat_le s.parity 1) (has_parities ss) fit in
    let p : s.parity ≤ 1 = leb-true s.parity 1 fits.0 in
    let rest : has_parities (steps_in ts) ≡ true = ap has_parities (steps_behind s (wait + distance b s) ss) ∙ fits.1 in
    ap (in_turn t m) (front_first t ts m xs parts.0 p rest)
    ∙ turns_behind t ts m m (turns (t ∷ []) m xs) parts.0 p rest (omega arith)

all_turned : (b s : Step) (ss : List Step) (wait m : ℕ) (xs : List ℤ) → in_time (timed_behind b wait (s ∷ ss)) ≡ true → has_parities (s ∷ ss) ≡ true → turns (behind b s wait ss) m (turns (first b s wait ∷ []) m xs) ≡ turns (timed_behind b wait (s ∷ ss)) m xs
all_turned b s ss wait m xs time fit =
    let t = first b s wait in
    let ts = behind b s wait ss in
    let parts = and_parts (all_apart t ts) (in_time ts) time in
    let fits = and_parts (nat_le s.parity 1) (has_parities ss) fit in
    let rest : has_parities (steps_in ts) ≡ true = ap has_parities (steps_behind s (wait + distance b s) ss) ∙ fits.1 in
    sym (front_first t ts m xs parts.0 (leb-true s.parity 1 fits.0) rest)

-- the bounds of what the rings hold then
within_behind : (b s : Step) (ss : List Step) (wait m : ℕ) (from most : ℕ × ℕ) (xs : List ℤ) → in_time (timed_behind b wait (s ∷ ss)) ≡ true → has_parities (s ∷ ss) ≡ true → after_steps (s ∷ ss) from ≡ most → PlacesWithin from.0 0 xs → PlacesWithin from.1 1 xs → PlacesWithin most.0 0 (turns (behind b s wait ss) m (turns (first b s wait ∷ []) (suc m) xs)) × PlacesWithin most.1 1 (turns (behind b s wait ss) m (turns (first b s wait ∷ []) (suc m) xs))
within_behind b s ss wait m from most xs time fit ends he ho =
    let t = first b s wait in
    let ts = behind b s wait ss in
    let parts = and_parts (all_apart t ts) (in_time ts) time in
    let fits = and_parts (nat_le s.parity 1) (has_parities ss) fit in
    let steps : steps_in ts ≡ ss = steps_behind s (wait + distance b s) ss in
    let one = within_alone t (suc m) from xs (leb-true s.parity 1 fits.0) he ho in
    let all = within_turns ts m (after_step s from) (turns (t ∷ []) (suc m) xs) parts.1 (ap has_parities steps ∙ fits.1) one.0 one.1 in
    let end : after_steps (steps_in ts) (after_step s from) ≡ most = ap (λ rest. after_steps rest (after_step s from)) steps ∙ ends in
    subst (λ (q : ℕ × ℕ). PlacesWithin q.0 0 (turns ts m (turns (t ∷ []) (suc m) xs)) × PlacesWithin q.1 1 (turns ts m (turns (t ∷ []) (suc m) xs))) end all

abbrev step : ℕ → Bool → ℕ → ℕ → List ℤ → Step
step parity minus shift lead taps = record { parity = parity; minus = minus; shift = shift; lead = lead; taps = taps }

late : (b s : Step) (r : Rings) (changed read : ℕ) → b.lead ≡ r.lead → Fits (first b s r.wait) changed read → r.wait + r.lead + s.lead + length s.taps ≤ 2 ^ 20
late b s r changed read e f = omega (arith, e, f.taps, f.lead)

can_first : (p : ℕ) (mi : Bool) (sh ld : ℕ) (ts : List ℤ) (b : Step) (ss : List Step) (most : ℕ × ℕ) (r : Rings) (lines : ℕ → List ℤ) → AtStep b (step p mi sh ld ts ∷ ss) most r lines → CanLiftRings (step p mi sh ld ts) r
can_first zero mi sh ld ts b ss most r lines st =
    let s : Step = step 0 mi sh ld ts in
    let f : Fits (first b s r.wait) most.0 most.1 = fits_parts (first b s r.wait) most most.0 most.1 (and_parts (fits_ring (first b s r.wait) most) (fit_ring (behind b s r.wait ss) most) st.fit).0 refl in
    record {
      parity = omega arith;
      shift = f.shift;
      down = st.down;
      late = late b s r most.0 most.1 st.lead f;
      evens_len = st.hold.owns_len;
      odds_len = st.hold.reads_len;
      read = record { bound = most.1; within = st.odds_bound; in_32_bits = omega (arith, st.in_32_bits.1); fits = f.sums };
      changed = all_weaker most.0 (2 ^ 21) r.evens.now f.small st.evens_bound;
    }
can_first (suc zero) mi sh ld ts b ss most r lines st =
    let s : Step = step 1 mi sh ld ts in
    let f : Fits (first b s r.wait) most.1 most.0 = fits_parts (first b s r.wait) most most.1 most.0 (and_parts (fits_ring (first b s r.wait) most) (fit_ring (behind b s r.wait ss) most) st.fit).0 refl in
    record {
      parity = omega arith;
      shift = f.shift;
      down = st.down;
      late = late b s r most.1 most.0 st.lead f;
      evens_len = st.hold.owns_len;
      odds_len = st.hold.reads_len;
      read = record { bound = most.0; within = st.evens_bound; in_32_bits = omega (arith, st.in_32_bits.0); fits = f.sums };
      changed = all_weaker most.1 (2 ^ 21) r.odds.now f.small st.odds_bound;
    }
can_first (suc (suc p)) mi sh ld ts b ss most r lines st =
    absurd (omega (arith, leb-true (suc (suc p)) 1 (and_parts (nat_le (suc (suc p)) 1) (has_parities ss) st.parities).0))

-- what the rings hold behind a step
record Behind (b s : Step) (ss : List Step) (most : ℕ × ℕ) (r mid : Rings) (lines : ℕ → List ℤ) : Type 0 where
  pub hold : RingsHold 0 r.size.width r.size.half (r.turn + 1 - 16) (r.turn + 1) (λ x. turns (behind b s r.wait ss) r.turn (lines_behind b s r.wait r.turn lines x)) mid.evens.now mid.odds.now
  pub evens_bound : All (λ v. unsigned_abs v ≤ most.0) mid.evens.now
  pub odds_bound : All (λ v. unsigned_abs v ≤ most.1) mid.odds.now

waits : (b s : Step) (r mid : Rings) → b.lead ≡ r.lead → RingsLifted r s mid → mid.wait ≡ r.wait + distance b s
waits b s r mid e l = l.wait ∙ ap (λ n. r.wait + max n (length s.taps - 1 - s.lead)) (sym e)

goes : (p : ℕ) (mi : Bool) (sh ld : ℕ) (ts : List ℤ) (b : Step) (ss : List Step) (most : ℕ × ℕ) (r mid : Rings) (lines : ℕ → List ℤ) → AtStep b (step p mi sh ld ts ∷ ss) most r lines → RingsLifted r (step p mi sh ld ts) mid → Behind b (step p mi sh ld ts) ss most r mid lines
goes zero mi sh ld ts b ss most r mid lines st l =
    let s : Step = step 0 mi sh ld ts in
    let t = first b s r.wait in
    let f : Fits t most.0 most.1 = fits_parts t most most.0 most.1 (and_parts (fits_ring t most) (fit_ring (behind b s r.wait ss) most) st.fit).0 refl in
    let row : RowLifted s r.size.width r.size.half r.turn t.wait r.evens.now r.odds.now mid.evens.now =
    subst (λ n. RowLifted s r.size.width r.size.half r.turn n r.evens.now r.odds.now mid.evens.now) (waits b s r mid st.lead l) l.changed in
    let held = lifted_holds s t.wait r.size.width r.size.half r.turn (λ x. turns (timed_behind b r.wait (s ∷ ss)) r.turn (lines x)) r.evens.now r.odds.now mid.evens.now st.hold row (omega arith) f.taps f.lead in
    let same = hold_same 0 r.size.width r.size.half (r.turn + 1 - 16) (r.turn + 1) _ (λ x. turns (behind b s r.wait ss) r.turn (lines_behind b s r.wait r.turn lines x)) mid.evens.now r.odds.now held
    (λ x xl. turned b s ss r.wait r.turn (lines x) st.time st.parities) in
    record {
      hold = subst (RingsHold 0 r.size.width r.size.half (r.turn + 1 - 16) (r.turn + 1) (λ x. turns (behind b s r.wait ss) r.turn (lines_behind b s r.wait r.turn lines x)) mid.evens.now) (sym l.kept) same;
      evens_bound =
          lifted_bound most.0 s t.wait r.size.width r.size.half r.turn (λ x. turns (behind b s r.wait ss) r.turn (lines_behind b s r.wait r.turn lines x)) r.evens.now r.odds.now mid.evens.now same row (omega (arith, f.lead))
          (λ x xl. (within_behind b s ss r.wait r.turn st.from most (lines x) st.time st.parities st.ends (st.evens x xl) (st.odds x xl)).0) st.evens_bound;
      odds_bound = rw l.kept st.odds_bound;
    }
goes (suc zero) mi sh ld ts b ss most r mid lines st l =
    let s : Step = step 1 mi sh ld ts in
    let t = first b s r.wait in
    let f : Fits t most.1 most.0 = fits_parts t most most.1 most.0 (and_parts (fits_ring t most) (fit_ring (behind b s r.wait ss) most) st.fit).0 refl in
    let row : RowLifted s r.size.width r.size.half r.turn t.wait r.odds.now r.evens.now mid.odds.now =
    subst (λ n. RowLifted s r.size.width r.size.half r.turn n r.odds.now r.evens.now mid.odds.now) (waits b s r mid st.lead l) l.changed in
    let held = lifted_holds s t.wait r.size.width r.size.half r.turn (λ x. turns (timed_behind b r.wait (s ∷ ss)) r.turn (lines x)) r.odds.now r.evens.now mid.odds.now
    (hold_turned r.size.width r.size.half (r.turn + 1 - 16) (r.turn + 1) _ r.evens.now r.odds.now st.hold) row (omega arith) f.taps f.lead in
    let same = hold_same 1 r.size.width r.size.half (r.turn + 1 - 16) (r.turn + 1) _ (λ x. turns (behind b s r.wait ss) r.turn (lines_behind b s r.wait r.turn lines x)) mid.odds.now r.evens.now held
    (λ x xl. turned b s ss r.wait r.turn (lines x) st.time st.parities) in
    record {
      hold = subst (λ es. RingsHold 0 r.size.width r.size.half (r.turn + 1 - 16) (r.turn + 1) (λ x. turns (behind b s r.wait ss) r.turn (lines_behind b s r.wait r.turn lines x)) es mid.odds.now) (sym l.kept)
          (hold_turned_back r.size.width r.size.half (r.turn + 1 - 16) (r.turn + 1) (λ x. turns (behind b s r.wait ss) r.turn (lines_behind b s r.wait r.turn lines x)) r.evens.now mid.odds.now same);
      evens_bound = rw l.kept st.evens_bound;
      odds_bound =
          lifted_bound most.1 s t.wait r.size.width r.size.half r.turn (λ x. turns (behind b s r.wait ss) r.turn (lines_behind b s r.wait r.turn lines x)) r.odds.now r.evens.now mid.odds.now same row (omega (arith, f.lead))
          (λ x xl. (within_behind b s ss r.wait r.turn st.from most (lines x) st.time st.parities st.ends (st.evens x xl) (st.odds x xl)).1) st.odds_bound;
    }
goes (suc (suc p)) mi sh ld ts b ss most r mid lines st l =
    absurd (omega (arith, leb-true (suc (suc p)) 1 (and_parts (nat_le (suc (suc p)) 1) (has_parities ss) st.parities).0))

next : (s b : Step) (ss : List Step) (most : ℕ × ℕ) (r mid : Rings) (lines : ℕ → List ℤ) → AtStep b (s ∷ ss) most r lines → RingsLifted r s mid → AtStep s ss most mid (lines_behind b s r.wait r.turn lines)
next s b ss most r mid lines st l =
    let t = first b s r.wait in
    let ts = behind b s r.wait ss in
    let g = goes s.parity s.minus s.shift s.lead s.taps b ss most r mid lines st l in
    let wait : r.wait + distance b s ≡ mid.wait = sym (waits b s r mid st.lead l) in
    let parts = and_parts (all_apart t ts) (in_time ts) st.time in
    let fits = and_parts (fits_ring t most) (fit_ring ts most) st.fit in
    let pars = and_parts (nat_le s.parity 1) (has_parities ss) st.parities in
    let p : s.parity ≤ 1 = leb-true s.parity 1 pars.0 in
    record {
      lead = sym l.lead;
      down = rw l.size st.down;
      time = subst (λ n. in_time (timed_behind s n ss) ≡ true) wait parts.1;
      fit = subst (λ n. fit_ring (timed_behind s n ss) most ≡ true) wait fits.1;
      parities = pars.1;
      in_32_bits = st.in_32_bits;
      from = after_step s st.from;
      ends = st.ends;
      evens = λ x xl. (within_alone t (suc r.turn) st.from (lines x) p (st.evens x (omega (arith, xl, ap (λ z. z.width) l.size))) (st.odds x (omega (arith, xl, ap (λ z. z.width) l.size)))).0;
      odds = λ x xl. (within_alone t (suc r.turn) st.from (lines x) p (st.evens x (omega (arith, xl, ap (λ z. z.width) l.size))) (st.odds x (omega (arith, xl, ap (λ z. z.width) l.size)))).1;
      hold = rw (l.size, l.turn, sym wait) g.hold;
      evens_bound = g.evens_bound;
      odds_bound = g.odds_bound;
    }

can : (b : Step) (ss : List Step) (most : ℕ × ℕ) (r : Rings) (lines : ℕ → List ℤ) → AtStep b ss most r lines → CanRun CanLiftRings RingsLifted ss r
can b [] most r lines st = tt
can b (s ∷ ss) most r lines st = (
  can_first s.parity s.minus s.shift s.lead s.taps b ss most r lines st,
  λ mid l. can s ss most mid (lines_behind b s r.wait r.turn lines) (next s b ss most r mid lines st l),
)

-- what a turn comes to
record Ran (b : Step) (ss : List Step) (most : ℕ × ℕ) (r after : Rings) (lines : ℕ → List ℤ) : Type 0 where
  pub same_evens : after.evens.ghost_name ≡ r.evens.ghost_name
  pub same_odds : after.odds.ghost_name ≡ r.odds.ghost_name
  pub hold : RingsHold 0 r.size.width r.size.half (r.turn + 1 - 16) (r.turn + 1) (λ x. turns (timed_behind b r.wait ss) (suc r.turn) (lines x)) after.evens.now after.odds.now
  pub evens_bound : All (λ v. unsigned_abs v ≤ most.0) after.evens.now
  pub odds_bound : All (λ v. unsigned_abs v ≤ most.1) after.odds.now

ran_none : (b : Step) (most : ℕ × ℕ) (r : Rings) (lines : ℕ → List ℤ) → AtStep b [] most r lines → Ran b [] most r r lines
ran_none b most r lines st = record {
  same_evens = refl;
  same_odds = refl;
  hold = hold_same 0 r.size.width r.size.half (r.turn + 1 - 16) (r.turn + 1) (λ x. turns [] r.turn (lines x)) (λ x. turns [] (suc r.turn) (lines x)) r.evens.now r.odds.now st.hold (λ x l. no_turns r.turn (lines x) ∙ sym (no_turns (suc r.turn) (lines x)));
  evens_bound = st.evens_bound;
  odds_bound = st.odds_bound;
}

ran : (b : Step) (ss : List Step) (most : ℕ × ℕ) (r after : Rings) (lines : ℕ → List ℤ) → AtStep b ss most r lines → FoldsTo RingsLifted r ss after → Ran b ss most r after lines
ran b [] most r after lines st e = subst (λ (z : Rings). Ran b [] most r z lines) e (ran_none b most r lines st)
ran b (s ∷ ss) most r after lines st (mid, l, rest) =
    let n = next s b ss most r mid lines st l in
    let far = ran s ss most mid after (lines_behind b s r.wait r.turn lines) n rest in
    let wait : mid.wait ≡ r.wait + distance b s = waits b s r mid st.lead l in
    let Held : HalfSize → ℕ → ℕ → Type 0 = λ z m n. RingsHold 0 z.width z.half (m + 1 - 16) (m + 1) (λ x. turns (timed_behind s n ss) (suc m) (lines_behind b s r.wait r.turn lines x)) after.evens.now after.odds.now in
    let held : RingsHold 0 r.size.width r.size.half (r.turn + 1 - 16) (r.turn + 1) (λ x. turns (behind b s r.wait ss) (suc r.turn) (lines_behind b s r.wait r.turn lines x)) after.evens.now after.odds.now =
    subst (Held r.size r.turn) wait (subst (λ m. Held r.size m mid.wait) l.turn (subst (λ (z : HalfSize). Held z mid.turn mid.wait) l.size far.hold)) in
    record {
      same_evens = far.same_evens ∙ l.same_evens;
      same_odds = far.same_odds ∙ l.same_odds;
      hold = hold_same 0 r.size.width r.size.half (r.turn + 1 - 16) (r.turn + 1) _ (λ x. turns (timed_behind b r.wait (s ∷ ss)) (suc r.turn) (lines x)) after.evens.now after.odds.now held
          (λ x xl. all_turned b s ss r.wait (suc r.turn) (lines x) st.time st.parities);
      evens_bound = far.evens_bound;
      odds_bound = far.odds_bound;
    }

-- as a turn begins
at_start : (k : ℕ) (r : Rings) (lines : ℕ → List ℤ) → k ≤ 6 → r.lead ≡ 0 → r.wait ≡ 0 → r.size.half ≤ 8192 → AreNarrowLines r.size.width lines → AfterTurns k r.size.width r.size.half r.turn (r.turn + 1) lines r.evens.now r.odds.now → All (λ v. unsigned_abs v ≤ (most_of k).0) r.evens.now → All (λ v. unsigned_abs v ≤ (most_of k).1) r.odds.now → AtStep coming (steps_of k) (most_of k) r lines
at_start k r lines l lead wait down narrow hold he ho =
    let bits = and_parts (nat_le (most_of k).0 (2 ^ 30)) (nat_le (most_of k).1 (2 ^ 30)) (most_in_32_bits k l) in
    record {
      lead = sym lead;
      down = down;
      time = rw wait (waiting_in_time k l);
      fit = rw wait (waiting_fit k l);
      parities = parities_of k l;
      in_32_bits = (leb-true (most_of k).0 (2 ^ 30) bits.0, leb-true (most_of k).1 (2 ^ 30) bits.1);
      from = (4095, 4095);
      ends = refl;
      evens = narrow.evens;
      odds = narrow.odds;
      hold = rw wait hold;
      evens_bound = he;
      odds_bound = ho;
    }

pub turn_can : (k : ℕ) (r : Rings) (lines : ℕ → List ℤ) → k ≤ 6 → r.lead ≡ 0 → r.wait ≡ 0 → r.size.half ≤ 8192 → AreNarrowLines r.size.width lines → AfterTurns k r.size.width r.size.half r.turn (r.turn + 1) lines r.evens.now r.odds.now → All (λ v. unsigned_abs v ≤ (most_of k).0) r.evens.now → All (λ v. unsigned_abs v ≤ (most_of k).1) r.odds.now → CanRun CanLiftRings RingsLifted (steps_of k) r
turn_can k r lines l lead wait down narrow hold he ho = can coming (steps_of k) (most_of k) r lines (at_start k r lines l lead wait down narrow hold he ho)

pub turn_ran : (k : ℕ) (r after : Rings) (lines : ℕ → List ℤ) → k ≤ 6 → r.lead ≡ 0 → r.wait ≡ 0 → r.size.half ≤ 8192 → AreNarrowLines r.size.width lines → AfterTurns k r.size.width r.size.half r.turn (r.turn + 1) lines r.evens.now r.odds.now → All (λ v. unsigned_abs v ≤ (most_of k).0) r.evens.now → All (λ v. unsigned_abs v ≤ (most_of k).1) r.odds.now → FoldsTo RingsLifted r (steps_of k) after
    → (after.evens.ghost_name ≡ r.evens.ghost_name) × (after.odds.ghost_name ≡ r.odds.ghost_name) × AfterTurns k r.size.width r.size.half (r.turn + 1) (r.turn + 1) lines after.evens.now after.odds.now × All (λ v. unsigned_abs v ≤ (most_of k).0) after.evens.now × All (λ v. unsigned_abs v ≤ (most_of k).1) after.odds.now
turn_ran k r after lines l lead wait down narrow hold he ho folds =
    let done = ran coming (steps_of k) (most_of k) r after lines (at_start k r lines l lead wait down narrow hold he ho) folds in
    let one : suc r.turn ≡ r.turn + 1 = omega arith in
    let held = subst (λ n. RingsHold 0 r.size.width r.size.half (r.turn + 1 - 16) (r.turn + 1) (λ x. turns (timed_behind coming n (steps_of k)) (suc r.turn) (lines x)) after.evens.now after.odds.now) wait done.hold in (
      done.same_evens,
      done.same_odds,
      subst (λ m. RingsHold 0 r.size.width r.size.half (r.turn + 1 - 16) (r.turn + 1) (λ x. turns (steps_to_come k) m (lines x)) after.evens.now after.odds.now) one held,
      done.evens_bound,
      done.odds_bound,
    )
