-- Coding what a planner gives, while it is open how many pictures will come.
use Rattle.std.specs.Prelude.{◌≡◌, ℕ, ◌≤◌, ◌^◌, Bool, true, false, List, [], ◌∷◌, ◌++◌, take, drop}
use Rattle.dirac_common.specs.declared.picture.Picture.{Picture}
use Rattle.dirac_types.specs.declared.settings.Settings.{Settings}
use Rattle.dirac_types.specs.Settings.{IsAccepted}
use Rattle.dirac_plan.specs.declared.planned.Planned.{Planned}
use Rattle.dirac_plan.specs.Plan.{plan}
use Rattle.dirac_plan.specs.Planning.{Planning, Takes, empty_planning, with_end, with_picture}
use Rattle.dirac_plan_laws.specs.Order.{AreDelivered}
use Rattle.dirac_plan_laws.specs.References.{AreListed, ArePlanned, AreServed, list_with}

-- how many pictures there may be in the end: no fewer than were accepted, and once they have ended no more
pub record IsTotal (p : Planning) (n : ℕ) : Type 0 where
  pub least : p.accepted ≤ n
  pub ended : p.ended ≡ true → n ≡ p.accepted

-- what was coded so far, and the list of reference pictures: however many pictures there will be, those coded are what
-- the first ones of their plan became, and the list serves the others
pub record IsCoding (p : Planning) (coded list : List Picture) : Type 0 where
  pub order : (n : ℕ) → IsTotal p n → ArePlanned (take p.given (plan n p.settings)) coded
  pub served : (n : ℕ) → IsTotal p n → AreServed list (drop p.given (plan n p.settings))

-- at the start
abbrev pub StartsCoding : Type 0
StartsCoding = (s : Settings) → IsCoding (empty_planning s) [] []

-- a picture is accepted
abbrev pub AcceptsCoding : Type 0
AcceptsCoding =
    (p : Planning) (picture : Picture) (coded list : List Picture)
    → p.ended ≡ false → IsCoding p coded list → IsCoding (with_picture p picture) coded list

-- the planner is asked in vain
abbrev pub WaitsCoding : Type 0
WaitsCoding =
    (p : Planning) (ended : Bool) (coded list : List Picture)
    → (p.ended ≡ true → ended ≡ true) → IsCoding p coded list → IsCoding (with_end p ended) coded list

-- a planned picture is given: what it refers to is listed; it is coded, as any picture of its number
abbrev pub GoesOnCoding : Type 0
GoesOnCoding =
    (ended : Bool) (old new : Planning) (p : Planned) (picture : Picture) (coded list : List Picture)
    → (old.ended ≡ true → ended ≡ true) → Takes ended old new p picture → IsCoding old coded list
    → AreListed list p × ((c : Picture) → c.number ≡ p.number → IsCoding new (coded ++ c ∷ []) (list_with list p c))

-- once all that were accepted are given, what was coded is what their plan became, and leaves by rising number
abbrev pub EndsCoding : Type 0
EndsCoding =
    (p : Planning) (coded list : List Picture)
    → IsAccepted p.settings → p.accepted ≤ 2 ^ 31 → p.given ≡ p.accepted → IsCoding p coded list
    → ArePlanned (plan p.accepted p.settings) coded × AreDelivered coded
