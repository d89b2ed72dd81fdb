-- The order of delivery of pictures that are coded in another order.
use Rattle.std.specs.Prelude.{◌≡◌, ℕ, zero, suc, ◌+◌, ◌-◌, ◌^◌, ◌≤◌, List, [], ◌++◌, map, length, slice_get, Some}
use Rattle.std.specs.List.{range_with_len, sum_by}
use Rattle.std.specs.Option.{option_to_list}
use Rattle.dirac_common.specs.declared.picture.Picture.{Picture}
use Rattle.dirac_types.specs.declared.settings.Settings.{Settings}
use Rattle.dirac_types.specs.Settings.{IsAccepted}
use Rattle.dirac_refs.specs.declared.waiting.Waiting.{Waiting}
use Rattle.dirac_refs.specs.Delivery.{deliver, in_delivery_order, key_of}
use Rattle.dirac_refs.specs.References.{listed}
use Rattle.dirac_plan.specs.Plan.{plan}
use Rattle.dirac_plan.specs.Waiting.{number_of}
use Rattle.dirac_plan_laws.specs.References.{ArePlanned, planned_number}

-- the numbers from 0 on, each once (whatever each number weighs, they weigh the same), none more than four places late
pub record IsNearOrder (numbers : List ℕ) : Type 0 where
  pub once : (weight : ℕ → ℕ) → sum_by weight numbers ≡ sum_by weight (range_with_len 0 (length numbers))
  pub near : (place n : ℕ) → slice_get numbers place ≡ Some n → place ≤ n + 4

-- the numbers of every plan of accepted settings are those from 0 on, each once, none more than four places late
abbrev pub PlansAreNear : Type 0
PlansAreNear = (s : Settings) (n : ℕ) → IsAccepted s → IsNearOrder (map planned_number (plan n s))

-- a picture as it is pushed for delivery, in a sequence whose first picture has the number 0
abbrev pub as_waiting : Picture → Waiting
as_waiting p = record { key = key_of 0 p.number; picture = p }

-- the pictures numbered below n, by rising number
abbrev pub by_number : ℕ → List Picture → List Picture
by_number zero pictures = []
by_number (suc n) pictures = by_number n pictures ++ option_to_list (listed pictures n)

-- pushed in this order, pictures leave by rising number, and of a front of them as many before its end as it has beyond
-- four
pub record AreDelivered (pictures : List Picture) : Type 0 where
  pub all : in_delivery_order (map as_waiting pictures) ≡ by_number (length pictures) pictures
  pub front : (front rest : List Picture) → pictures ≡ front ++ rest
      → deliver (map as_waiting front) ≡ by_number (length front - 4) pictures

-- pictures whose numbers are those from 0 on, each once, none more than four places late, leave by rising number when
-- they are pushed in the order of their list
abbrev pub NearOrderIsDelivered : Type 0
NearOrderIsDelivered =
    (pictures : List Picture) → IsNearOrder (map number_of pictures) → length pictures ≤ 2 ^ 31
    → AreDelivered pictures

-- the pictures that a plan of accepted settings becomes leave by rising number when they are pushed in coding order
abbrev pub PlansAreDelivered : Type 0
PlansAreDelivered =
    (s : Settings) (n : ℕ) (pictures : List Picture) → IsAccepted s → n ≤ 2 ^ 31 → ArePlanned (plan n s) pictures
    → AreDelivered pictures
