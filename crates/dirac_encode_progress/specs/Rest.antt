-- What is left when the raw pictures have ended, coded, and the end of the stream.
-- Inner: for the proofs of this crate.
use Rattle.std.specs.Prelude.{◌≡◌, true, List, ℕ, Option, ◌⊎◌}
use Rattle.dirac_types.specs.declared.settings.Settings.{Settings}
use Rattle.dirac_plan.specs.Planning.{Planning}
use Rattle.dirac_encode_laws.specs.declared.answers.Encoded.{Encoded}
use Rattle.dirac_encode_laws.specs.Coding.{IndexRule}
use Rattle.dirac_encode_laws.specs.Steps as steps
use Rattle.dirac_encode_progress.specs.Going.{LeadsOn, Stops}

-- all pictures that waited were coded, and both sinks took so much by then
pub record RestIsCoded (f : IndexRule) (t : Settings) (p : Planning) (c : steps.Progress)
    (out side : Option (List ℕ)) : Type 0 where
  pub planner : Planning
  pub coding : steps.Progress
  pub out_then : Option (List ℕ)
  pub side_then : Option (List ℕ)
  pub led : LeadsOn f t true p planner c coding out out_then side side_then
  pub given : planner.given ≡ planner.accepted
  pub accepted : planner.accepted ≡ p.accepted

-- how the coding of the pictures that waited ends: it stops at one of them; or a fault comes behind them; or the stream
-- is ended, and this is answered
abbrev pub EndsRest : IndexRule → Settings → Planning → steps.Progress → Encoded → Encoded →
    Option (List ℕ) → Option (List ℕ) → Option (List ℕ) → Option (List ℕ) → Type 0
EndsRest f t p c behind answer out out' side side' =
    (steps.StopsCoding answer × Stops f t true p c answer out out' side side')
    ⊎ ((r : RestIsCoded f t p c out side)
    × ((steps.IsFault answer × steps.EndsEarly t r.coding r.out_then out' r.side_then side')
    ⊎ ((answer ≡ behind) × steps.IsEnded t r.coding r.out_then out' r.side_then side')))
