-- Steps that are run one after another on the three kinds of lines: that they can be run, and what they come to.
use Rattle.std.proofs.Common.{◌≡◌, ℕ, zero, suc, ℤ, Bool, true, false, ◌&&◌, ◌==◌, nat_le, if◌then◌else◌, ◌%◌, ◌*◌, List, [], ◌∷◌, length, arith, ap, sym, ◌∙◌, subst}
use Rattle.std.specs.List.{FoldsTo}
use Rattle.std.proofs.lemmas.Bool.{and_parts, leb-true, ne_eqb}
use Rattle.dirac_lift.specs.declared.columns.Columns.{Columns}
use Rattle.dirac_lift.specs.declared.halves.Halves.{Halves}
use Rattle.dirac_lift.specs.declared.lines.Line.{Line}
use Rattle.dirac_lift.specs.HalfRuns.{AreNarrow, HalvesRun, after_step, is_narrow, stays_narrow}
use Rattle.dirac_lift.specs.Liftables.{CanLiftColumns, CanLiftHalves, CanLiftLine, ColumnsLifted, HalvesLifted, LineLifted}
use Rattle.dirac_lift.specs.Lifting.{Step}
use Rattle.dirac_lift.specs.Places.{ColumnsBecome, ColumnsSafe}
use Rattle.dirac_lift.specs.Running.{CanRun}
use Rattle.dirac_lift.specs.Safety.{AreFit, Safe}
use Rattle.dirac_lift.specs.Wavelets.{run}
use Rattle.dirac_lift.proofs.ColumnRuns.{become_none, become_run, safe_first, safe_rest}
use Rattle.dirac_lift.proofs.HalfSteps.{even_rest, even_run, in_32_bits, no_run, odd_rest, odd_run, step_fits}
use Rattle.dirac_lift.proofs.Lifted.{length-lift}

-- a line
pub line_can : (ss : List Step) (l : Line) → length l.values.now % 2 ≡ 0 → Safe ss l.values.now → CanRun CanLiftLine LineLifted ss l
line_can [] l even safe = tt
line_can (s ∷ ss) l even safe = (
  record { fit = safe.0; even = even; evens = safe.1; odds = safe.2 },
  λ after r.
      line_can ss after (ap (λ xs. length xs % 2) r.value ∙ ap (λ n. n % 2) (length-lift s l.values.now) ∙ even) (subst (Safe ss) (sym r.value) safe.3),
)

pub line_ran : (ss : List Step) (l after : Line) → FoldsTo LineLifted l ss after → (after.values.ghost_name ≡ l.values.ghost_name) × (after.values.now ≡ run ss l.values.now)
line_ran [] l after e = (ap (λ (x : Line). x.values.ghost_name) (sym e), ap (λ (x : Line). x.values.now) (sym e))
line_ran (s ∷ ss) l after (mid, first, rest) =
    let r = line_ran ss mid after rest in
    (r.0 ∙ first.same, r.1 ∙ ap (run ss) first.value)

-- all columns
columns_next : (s : Step) (ss : List Step) (c mid : Columns) → ColumnsSafe (s ∷ ss) c.width c.height c.values.now → ColumnsLifted c s mid → ColumnsSafe ss mid.width mid.height mid.values.now
columns_next s ss c mid safe r =
    subst (λ w. ColumnsSafe ss w mid.height mid.values.now) (sym r.width)
    (subst (λ h. ColumnsSafe ss c.width h mid.values.now) (sym r.height) (safe_rest s ss c.width c.height c.values.now mid.values.now safe r.value))

pub columns_can : (ss : List Step) (c : Columns) → AreFit ss → length c.values.now ≡ c.width * c.height → c.height % 2 ≡ 0 → ColumnsSafe ss c.width c.height c.values.now → CanRun CanLiftColumns ColumnsLifted ss c
columns_can [] c fit len even safe = tt
columns_can (s ∷ ss) c fit len even safe = (
  record { fit = fit.0; len = len; even = even; small = safe_first s ss c.width c.height c.values.now safe },
  λ mid r.
      columns_can ss mid fit.1 (r.value.len ∙ len ∙ ap (λ w. w * c.height) (sym r.width) ∙ ap (λ h. mid.width * h) (sym r.height)) (ap (λ h. h % 2) r.height ∙ even) (columns_next s ss c mid safe r),
)

pub columns_ran : (ss : List Step) (c after : Columns) → FoldsTo ColumnsLifted c ss after → (after.values.ghost_name ≡ c.values.ghost_name) × ColumnsBecome (run ss) c.width c.height c.values.now after.values.now
columns_ran [] c after e = (ap (λ (x : Columns). x.values.ghost_name) (sym e), subst (λ (x : Columns). ColumnsBecome (run []) c.width c.height c.values.now x.values.now) e (become_none c.width c.height c.values.now))
columns_ran (s ∷ ss) c after (mid, first, rest) =
    let r = columns_ran ss mid after rest in
    let far : ColumnsBecome (run ss) c.width c.height mid.values.now after.values.now =
    subst (λ w. ColumnsBecome (run ss) w c.height mid.values.now after.values.now) first.width (subst (λ h. ColumnsBecome (run ss) mid.width h mid.values.now after.values.now) first.height r.1) in
    (r.0 ∙ first.same, become_run s ss c.width c.height c.values.now mid.values.now after.values.now first.value far)

-- the halves of lines: by the step's parity
abbrev step : ℕ → Bool → ℕ → ℕ → List ℤ → Step
step parity minus shift lead taps = record { parity = parity; minus = minus; shift = shift; lead = lead; taps = taps }

abbrev NarrowHalves : List Step → Halves → Type 0
NarrowHalves ss h = AreNarrow ss h.width h.half h.evens.now h.odds.now

abbrev HalvesRanTo : List Step → Halves → Halves → Type 0
HalvesRanTo ss h after = HalvesRun ss h.width h.half h.evens.now h.odds.now after.evens.now after.odds.now

no_parity : {A : Type 0} (p : ℕ) (m : Bool) (sh ld : ℕ) (ts : List ℤ) (ss : List Step) (h : Halves) → NarrowHalves (step (suc (suc p)) m sh ld ts ∷ ss) h → A
no_parity p m sh ld ts ss h n =
    let s : Step = step (suc (suc p)) m sh ld ts in
    let odd : (suc (suc p) == 0) ≡ false = ne_eqb (suc (suc p)) 0 (λ e. omega (arith, e)) in
    let test : (if suc (suc p) == 0 then is_narrow s n.most.0 n.most.1 else (nat_le (suc (suc p)) 1 && is_narrow s n.most.1 n.most.0)) ≡ true =
    (and_parts (if suc (suc p) == 0 then is_narrow s n.most.0 n.most.1 else (nat_le (suc (suc p)) 1 && is_narrow s n.most.1 n.most.0)) (stays_narrow ss (after_step s n.most)) n.test).0 in
    let second : (nat_le (suc (suc p)) 1 && is_narrow s n.most.1 n.most.0) ≡ true = rw odd at test in
    absurd (omega (arith, leb-true (suc (suc p)) 1 (and_parts (nat_le (suc (suc p)) 1) (is_narrow s n.most.1 n.most.0) second).0))

can_first : (p : ℕ) (m : Bool) (sh ld : ℕ) (ts : List ℤ) (ss : List Step) (h : Halves) → NarrowHalves (step p m sh ld ts ∷ ss) h → CanLiftHalves (step p m sh ld ts) h
can_first zero m sh ld ts ss h n =
    let s : Step = step 0 m sh ld ts in
    let f = step_fits s n.most.0 n.most.1 h.evens.now h.odds.now (and_parts (is_narrow s n.most.0 n.most.1) (stays_narrow ss (after_step s n.most)) n.test).0 (in_32_bits (s ∷ ss) n.most n.test).1 n.even_bound n.odd_bound in
    record { parity = omega arith; shift = f.0; evens_len = n.evens_len; odds_len = n.odds_len; read = f.1; changed = f.2 }
can_first (suc zero) m sh ld ts ss h n =
    let s : Step = step 1 m sh ld ts in
    let f = step_fits s n.most.1 n.most.0 h.odds.now h.evens.now (and_parts (is_narrow s n.most.1 n.most.0) (stays_narrow ss (after_step s n.most)) n.test).0 (in_32_bits (s ∷ ss) n.most n.test).0 n.odd_bound n.even_bound in
    record { parity = omega arith; shift = f.0; evens_len = n.evens_len; odds_len = n.odds_len; read = f.1; changed = f.2 }
can_first (suc (suc p)) m sh ld ts ss h n = no_parity p m sh ld ts ss h n

-- halves of the same sizes
sized : (ss : List Step) (h mid : Halves) → mid.width ≡ h.width → mid.half ≡ h.half → AreNarrow ss h.width h.half mid.evens.now mid.odds.now → NarrowHalves ss mid
sized ss h mid w k n =
    subst (λ x. AreNarrow ss x mid.half mid.evens.now mid.odds.now) (sym w) (subst (λ x. AreNarrow ss h.width x mid.evens.now mid.odds.now) (sym k) n)

next : (p : ℕ) (m : Bool) (sh ld : ℕ) (ts : List ℤ) (ss : List Step) (h mid : Halves) → NarrowHalves (step p m sh ld ts ∷ ss) h → HalvesLifted h (step p m sh ld ts) mid → NarrowHalves ss mid
next zero m sh ld ts ss h mid n r =
    sized ss h mid r.width r.half (subst (λ os. AreNarrow ss h.width h.half mid.evens.now os) (sym r.kept) (even_rest m sh ld ts ss h.width h.half h.evens.now h.odds.now mid.evens.now n r.changed))
next (suc zero) m sh ld ts ss h mid n r =
    sized ss h mid r.width r.half (subst (λ es. AreNarrow ss h.width h.half es mid.odds.now) (sym r.kept) (odd_rest m sh ld ts ss h.width h.half h.evens.now h.odds.now mid.odds.now n r.changed))
next (suc (suc p)) m sh ld ts ss h mid n r = no_parity p m sh ld ts ss h n

runs_on : (p : ℕ) (m : Bool) (sh ld : ℕ) (ts : List ℤ) (ss : List Step) (h mid after : Halves) → NarrowHalves (step p m sh ld ts ∷ ss) h → HalvesLifted h (step p m sh ld ts) mid → HalvesRun ss h.width h.half mid.evens.now mid.odds.now after.evens.now after.odds.now → HalvesRanTo (step p m sh ld ts ∷ ss) h after
runs_on zero m sh ld ts ss h mid after n r f =
    even_run m sh ld ts ss h.width h.half h.evens.now h.odds.now mid.evens.now after.evens.now after.odds.now n r.changed
    (subst (λ os. HalvesRun ss h.width h.half mid.evens.now os after.evens.now after.odds.now) r.kept f)
runs_on (suc zero) m sh ld ts ss h mid after n r f =
    odd_run m sh ld ts ss h.width h.half h.evens.now h.odds.now mid.odds.now after.evens.now after.odds.now n r.changed
    (subst (λ es. HalvesRun ss h.width h.half es mid.odds.now after.evens.now after.odds.now) r.kept f)
runs_on (suc (suc p)) m sh ld ts ss h mid after n r f = no_parity p m sh ld ts ss h n

pub halves_can : (ss : List Step) (h : Halves) → AreNarrow ss h.width h.half h.evens.now h.odds.now → CanRun CanLiftHalves HalvesLifted ss h
halves_can [] h n = tt
halves_can (s ∷ ss) h n = (
  can_first s.parity s.minus s.shift s.lead s.taps ss h n,
  λ mid r. halves_can ss mid (next s.parity s.minus s.shift s.lead s.taps ss h mid n r),
)

pub halves_ran : (ss : List Step) (h after : Halves) → AreNarrow ss h.width h.half h.evens.now h.odds.now → FoldsTo HalvesLifted h ss after → (after.evens.ghost_name ≡ h.evens.ghost_name) × (after.odds.ghost_name ≡ h.odds.ghost_name) × HalvesRun ss h.width h.half h.evens.now h.odds.now after.evens.now after.odds.now
halves_ran [] h after n e = (
  ap (λ (x : Halves). x.evens.ghost_name) (sym e),
  ap (λ (x : Halves). x.odds.ghost_name) (sym e),
  subst (λ (x : Halves). HalvesRanTo [] h x) e (no_run h.width h.half h.evens.now h.odds.now),
)
halves_ran (s ∷ ss) h after n (mid, first, rest) =
    let r = halves_ran ss mid after (next s.parity s.minus s.shift s.lead s.taps ss h mid n first) rest in
    let far : HalvesRun ss h.width h.half mid.evens.now mid.odds.now after.evens.now after.odds.now =
    subst (λ w. HalvesRun ss w h.half mid.evens.now mid.odds.now after.evens.now after.odds.now) first.width (subst (λ k. HalvesRun ss mid.width k mid.evens.now mid.odds.now after.evens.now after.odds.now) first.half r.2) in (
      r.0 ∙ first.same_evens,
      r.1 ∙ first.same_odds,
      runs_on s.parity s.minus s.shift s.lead s.taps ss h mid after n first far,
    )
