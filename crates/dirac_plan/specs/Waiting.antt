-- Which pictures wait in a planner, by their numbers.
use Rattle.std.specs.Prelude.{◌≡◌, ℕ, zero, suc, ◌+◌, ◌-◌, ◌%◌, ◌==◌, ◌<◌, ◌≤◌, min, nat_lt, if◌then◌else◌, Bool, false}
use Rattle.std.specs.Prelude.{List, ◌++◌, map, length}
use Rattle.std.specs.List.{range_with_len}
use Rattle.dirac_common.specs.declared.picture.Picture.{Picture}
use Rattle.dirac_types.specs.declared.settings.Settings.{Settings}
use Rattle.dirac_types.specs.Settings.{IsAccepted}
use Rattle.dirac_plan.specs.Planning.{frame_pictures, group_offset, group_pictures, step_pictures, waiting_places}

-- how far a place stands behind the first of its step, in a group of which a frame has that many pictures and a step
-- that many: a step is an anchor, and behind it what stands between it and the anchor before it; 0 for the pictures of
-- the frame that opens the group
abbrev pub step_offset_in : ℕ → ℕ → ℕ → ℕ
step_offset_in frame step offset = if nat_lt offset frame then 0 else (offset - frame) % step

-- how many pictures stand before a place in its step
unfoldable pub step_offset : Settings → ℕ → ℕ
step_offset s place =
    step_offset_in (frame_pictures s) (step_pictures s) (group_offset s place)

-- the number of the anchor of a place's step, in a group of that many pictures; with fields that of its first field
abbrev pub step_anchor : Settings → ℕ → ℕ → ℕ
step_anchor s len place =
    place - group_offset s place
    + min (group_offset s place - frame_pictures s - step_offset s place + step_pictures s) (len - frame_pictures s)

-- n, with fields the next even number: the pictures of whole frames
abbrev pub whole_frames : Settings → ℕ → ℕ
whole_frames s n = if s.fields == 0 then n else n + n % 2

-- the number of the anchor of the step of a place, of n pictures
unfoldable pub anchor_at : ℕ → Settings → ℕ → ℕ
anchor_at n s place =
    step_anchor s (min (group_pictures s) (whole_frames s n - (place - group_offset s place))) place

-- the number of the anchor of the step of a place in a whole group
unfoldable pub whole_anchor_at : Settings → ℕ → ℕ
whole_anchor_at s place = step_anchor s (group_pictures s) place

-- how many pictures of the anchor of a place's step are coded before that place
unfoldable pub ahead : ℕ → Settings → ℕ → ℕ
ahead n s place = min (step_offset s place) (min (frame_pictures s) (n - anchor_at n s place))

-- the numbers of the pictures that wait, of n pictures of which that many are given, that many of these of this anchor:
-- with none of the anchor all from the number given on, else those left before the anchor and those behind its pictures
abbrev pub left_by : ℕ → ℕ → ℕ → ℕ → List ℕ
left_by n given anchor zero = range_with_len given (n - given)
left_by n given anchor (suc more) =
    range_with_len (given - suc more) (anchor + suc more - given)
    ++ range_with_len (anchor + suc more) (n - anchor - suc more)

-- the number of a picture
abbrev pub number_of : Picture → ℕ
number_of p = p.number

-- what holds of a planner's fields
pub record IsPlanning (s : Settings) (accepted given : ℕ) (ended : Bool) (waiting : List Picture) : Type 0 where
  pub settings : IsAccepted s
  pub in_range : accepted ≤ 2147483647
  pub given_in_range : given ≤ accepted
  pub waiting_fit : length waiting ≤ waiting_places s
  pub counts : accepted ≡ given + length waiting
  pub numbers : map number_of waiting ≡ left_by accepted given (anchor_at accepted s given) (ahead accepted s given)
  -- while pictures may still come, an anchor is given once all its fields are there, and all frames up to it
  pub settled : ended ≡ false → 0 < step_offset s given → whole_anchor_at s given + frame_pictures s ≤ accepted
