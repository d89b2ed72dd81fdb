-- What an encoder relies on in every plan.
use Rattle.std.specs.Prelude.{◌≡◌, ℕ, ◌<◌, ◌≤◌, ◌^◌, true, List, [], ◌∷◌, length, map, slice_get, Some, ⊤}
use Rattle.std.specs.List.{AllByRecursion}
use Rattle.dirac_common.specs.declared.picture.Picture.{Picture}
use Rattle.dirac_types.specs.declared.settings.Settings.{Settings}
use Rattle.dirac_types.specs.Settings.{IsAccepted}
use Rattle.dirac_refs.specs.Delivery.{in_delivery_order}
use Rattle.dirac_common.specs.Codes.{is_intra}
use Rattle.dirac_plan.specs.declared.planned.Planned.{Planned}
use Rattle.dirac_plan.specs.Plan.{plan}
use Rattle.dirac_plan_laws.specs.Headers.{IsPlanned}
use Rattle.dirac_plan_laws.specs.Order.{as_waiting, by_number}
use Rattle.dirac_plan_laws.specs.References.{ReferencesAreFound, ArePlanned}

-- a plan begins with an intra picture of number 0
abbrev pub BeginsPlan : List Planned → Type 0
BeginsPlan [] = ⊤
BeginsPlan (p ∷ planned) = (is_intra p.code ≡ true) × (p.number ≡ 0)

-- these planned pictures are n, each can be coded, and each number below n is one's; what they refer to is among the
-- pictures coded before, and coded pictures leave by rising number
pub record IsPlan (n : ℕ) (planned : List Planned) : Type 0 where
  pub count : length planned ≡ n
  pub each : AllByRecursion IsPlanned planned
  pub below : AllByRecursion (λ (p : Planned). p.number < n) planned
  pub all : (k : ℕ) → k < n → (i : ℕ) × (p : Planned) × (slice_get planned i ≡ Some p) × (p.number ≡ k)
  pub begins : BeginsPlan planned
  pub found : (pictures : List Picture) → ArePlanned planned pictures → ReferencesAreFound [] planned pictures
  pub order : (pictures : List Picture) → ArePlanned planned pictures
      → in_delivery_order (map as_waiting pictures) ≡ by_number n pictures

-- every plan of accepted settings, for at most 2^31 pictures, can be coded
abbrev pub PlansCanBeCoded : Type 0
PlansCanBeCoded = (s : Settings) (n : ℕ) → IsAccepted s → n ≤ 2 ^ 31 → IsPlan n (plan n s)
