-- How far the coding of raw pictures is, while a planner gives them and a rule their quantiser indices.
-- Inner: for the proofs of this crate and of dirac_encode.
use Rattle.std.specs.Prelude.{◌≡◌, ℕ, ◌≤◌, ◌^◌, Bool, true, List, [], ◌∷◌, ◌++◌, length, Option}
use Rattle.std.specs.List.{AllByRecursion}
use Rattle.dirac_common.specs.declared.picture.Picture.{Picture}
use Rattle.dirac_types.specs.declared.settings.Settings.{Settings}
use Rattle.dirac_refs.specs.declared.waiting.Waiting.{Waiting}
use Rattle.dirac_refs.specs.Delivery.{key_of}
use Rattle.dirac_sources.specs.Sources.{sources}
use Rattle.dirac_plan.specs.declared.planned.Planned.{Planned}
use Rattle.dirac_plan.specs.Plan.{plan}
use Rattle.dirac_plan.specs.Planning.{Planning}
use Rattle.dirac_plan_laws.specs.References.{ArePlanned, list_with}
use Rattle.dirac_encode_laws.specs.declared.answers.Encoded.{Encoded}
use Rattle.dirac_encode_laws.specs.Coded.{IsSource}
use Rattle.dirac_encode_laws.specs.Coding.{IndexRule, coding_under}
use Rattle.dirac_encode_laws.specs.Encoding.{AnswersEncodedStream, encoding_under}
use Rattle.dirac_encode_laws.specs.Standing.{AreAmong, Leave, CodingStands}
use Rattle.dirac_encode_laws.specs.Steps as steps
use Rattle.dirac_encode_progress.specs.declared.progress.Progress.{Progress}

-- what the code holds of the progress of coding
abbrev pub so_far : Progress → steps.Progress
so_far c = record { count = c.count; previous = c.previous; refs = c.refs; delivery = c.delivery }

-- the pictures that wait for delivery, where one of this number joins them
abbrev pub waiting_joined : List Waiting → ℕ → Picture → List Waiting
waiting_joined waiting number shown = waiting ++ record { key = key_of 0 number; picture = shown } ∷ []

-- of these bytes so much is coded; the pictures that wait to be coded are sources of these bytes; once the raw pictures
-- have ended all are accepted
pub record CodingGoesOn (f : IndexRule) (t : Settings) (bytes : List ℕ) (ended : Bool) (p : Planning)
    (c : steps.Progress) (out0 out side0 side : Option (List ℕ)) : Type 0 where
  pub stands : CodingStands f t bytes c out0 out side0 side
  pub among : AreAmong (sources t bytes) p.waiting
  pub given : p.given ≡ c.count
  pub within : p.accepted ≤ length (sources t bytes)
  pub all : ended ≡ true → p.accepted ≡ length (sources t bytes)

-- whatever the bytes are, the coding goes on
abbrev pub LeadsOn : IndexRule → Settings → Bool → Planning → Planning → steps.Progress → steps.Progress →
    Option (List ℕ) → Option (List ℕ) → Option (List ℕ) → Option (List ℕ) → Type 0
LeadsOn f t ended p p' c c' out out' side side' =
    (bytes : List ℕ) (out0 side0 : Option (List ℕ))
    → CodingGoesOn f t bytes ended p c out0 out side0 side → CodingGoesOn f t bytes ended p' c' out0 out' side0 side'

-- whatever the bytes are, the coding stops with the answer of their encoding
abbrev pub Stops : IndexRule → Settings → Bool → Planning → steps.Progress → Encoded →
    Option (List ℕ) → Option (List ℕ) → Option (List ℕ) → Option (List ℕ) → Type 0
Stops f t ended p c answer out out' side side' =
    (bytes : List ℕ) (out0 side0 : Option (List ℕ)) → Leave (coding_under f t (sources t bytes))
    → CodingGoesOn f t bytes ended p c out0 out side0 side
    → AnswersEncodedStream answer (encoding_under f t bytes) out0 out' side0 side'

-- the list of references where planned pictures became these pictures
abbrev pub list_behind_all : List Picture → List Planned → List Picture → List Picture
list_behind_all refs [] pictures = refs
list_behind_all refs (q ∷ qs) [] = refs
list_behind_all refs (q ∷ qs) (p ∷ pictures) = list_behind_all (list_with refs q p) qs pictures

-- whatever the bytes are: the planned pictures that were given begin each plan that may come of them, and the listed
-- references are those of pictures with the given numbers
pub record PlanIsListed (t : Settings) (ended : Bool) (p : Planning) (c : steps.Progress) : Type 0 where
  pub qs : List Planned
  pub shown : List Picture
  pub begins : (m : ℕ) → p.accepted ≤ m → m ≤ 2 ^ 31 → (ended ≡ true → m ≡ p.accepted)
      → (rest : List Planned) × (plan m t ≡ qs ++ rest)
  pub numbers : ArePlanned qs shown
  pub count : length qs ≡ c.count
  pub given : p.given ≡ c.count
  pub refs : c.refs ≡ list_behind_all [] qs shown
  pub listed : AllByRecursion (IsSource t) c.refs
  pub sources : AllByRecursion (IsSource t) p.waiting
  pub in_range : p.accepted ≤ 2 ^ 31
