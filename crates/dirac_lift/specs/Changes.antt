-- What a step of the code means.
use Rattle.std.specs.Prelude.{ℕ, ℤ, Bool, true, false, List}
use Rattle.dirac_lift.specs.declared.step.Change.{Change}
use Rattle.dirac_lift.specs.declared.step.Change.TheVariants.{EvenMinus, EvenPlus, OddMinus, OddPlus}
use Rattle.dirac_lift.specs.declared.step.Step.{Step as BareStep}
use Rattle.dirac_lift.specs.Lifting.{Step}

-- a step and its taps
abbrev pub with_taps : BareStep → List ℤ → Step
with_taps s taps = record { parity = s.parity; minus = s.minus; shift = s.shift; lead = s.lead; taps = taps }

-- 0 where the even places change, 1 where the odd ones do
abbrev pub parity_of : Change → ℕ
parity_of EvenMinus = 0
parity_of EvenPlus = 0
parity_of OddMinus = 1
parity_of OddPlus = 1

-- whether the sum is taken away
abbrev pub is_minus : Change → Bool
is_minus EvenMinus = true
is_minus EvenPlus = false
is_minus OddMinus = true
is_minus OddPlus = false

-- the step that a change, a shift, a lead and taps make
abbrev pub step_of : Change → ℕ → ℕ → List ℤ → Step
step_of change shift lead taps =
    record { parity = parity_of change; minus = is_minus change; shift = shift; lead = lead; taps = taps }
