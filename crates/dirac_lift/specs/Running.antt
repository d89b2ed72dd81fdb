-- Lists of steps that are run on lines of any kind.
use Rattle.std.specs.Prelude.{List, [], ◌∷◌}
use Rattle.dirac_lift.specs.Lifting.{Step}

-- steps can be run, one after another, each on whatever the one before it left
abbrev pub CanRun : {L : Type 0} → (Step → L → Type 0) → (L → Step → L → Type 0) → List Step → L → Type 0
CanRun can_lift lifted [] lines = Unit {0}
CanRun {L} can_lift lifted (s ∷ ss) lines =
    can_lift s lines × ((after : L) → lifted lines s after → CanRun can_lift lifted ss after)
