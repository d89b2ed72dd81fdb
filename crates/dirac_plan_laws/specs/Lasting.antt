-- What of a plan stays as it is when more pictures come.
use Rattle.std.specs.Prelude.{◌≡◌, ℕ, ◌+◌, ◌-◌, ◌%◌, ◌<◌, ◌≤◌, nat_lt, if◌then◌else◌, slice_get}
use Rattle.dirac_types.specs.declared.settings.Settings.{Settings}
use Rattle.dirac_types.specs.Settings.{IsAccepted}
use Rattle.dirac_plan.specs.Plan.{plan}
use Rattle.dirac_plan.specs.Planning.{frame_pictures, group_offset, pictures_needed, step_pictures}

-- where the step of a place begins: with its anchor; a picture of a frame that opens a group is a step of its own
abbrev pub step_place : Settings → ℕ → ℕ
step_place s place =
    if nat_lt (group_offset s place) (frame_pictures s) then place
    else place - (group_offset s place - frame_pictures s) % step_pictures s

-- once all pictures that its step needs are there, an item of a plan is that of each longer one
abbrev pub ItemsLast : Type 0
ItemsLast =
    (s : Settings) (n m place : ℕ) → IsAccepted s → place < n → n ≤ m
    → step_place s place + pictures_needed s (step_place s place) ≤ n
    → slice_get (plan m s) place ≡ slice_get (plan n s) place
