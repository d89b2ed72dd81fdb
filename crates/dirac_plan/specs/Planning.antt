-- Planning while pictures still come.
use Rattle.std.specs.Prelude.{◌≡◌, ℕ, ◌+◌, ◌-◌, ◌*◌, ◌%◌, ◌==◌, ◌≤◌, min, nat_lt, not, ◌||◌, ◌&&◌, if◌then◌else◌, Bool}
use Rattle.std.specs.Prelude.{false, List, [], ◌∷◌, ◌++◌, length, slice_get, Option, None, Some}
use Rattle.dirac_common.specs.declared.picture.Picture.{Picture}
use Rattle.dirac_types.specs.declared.settings.Settings.{Settings}
use Rattle.dirac_common.specs.declared.codes.TheConstants.{INTER_NON_REFERENCE_1, INTER_NON_REFERENCE_2}
use Rattle.dirac_plan.specs.declared.planned.Planned.{Planned}
use Rattle.dirac_plan.specs.declared.planner.TheConstants.{FRAMES_WAITING}
use Rattle.dirac_plan.specs.Plan.{plan}

-- how many pictures a planner accepted, how many planned ones it gave, whether the pictures have ended, and those that
-- wait, oldest first
pub record Planning : Type 0 where
  pub settings : Settings
  pub accepted : ℕ
  pub given : ℕ
  pub ended : Bool
  pub waiting : List Picture

-- before the first picture
abbrev pub empty_planning : Settings → Planning
empty_planning s = record { settings = s; accepted = 0; given = 0; ended = false; waiting = [] }

-- with one picture more
abbrev pub with_picture : Planning → Picture → Planning
with_picture p picture =
    record {
      settings = p.settings;
      accepted = p.accepted + 1;
      given = p.given;
      ended = p.ended;
      waiting = p.waiting ++ picture ∷ [];
    }

-- told whether the pictures have ended
abbrev pub with_end : Planning → Bool → Planning
with_end p ended =
    record { settings = p.settings; accepted = p.accepted; given = p.given; ended = ended; waiting = p.waiting }

-- the next planned picture, by those accepted so far
abbrev pub next_planned : Planning → Option Planned
next_planned p = slice_get (plan p.accepted p.settings) p.given

-- how many pictures a frame is
abbrev pub frame_pictures : Settings → ℕ
frame_pictures s = if s.fields == 0 then 1 else 2

-- how many pictures a whole group has
abbrev pub group_pictures : Settings → ℕ
group_pictures s = frame_pictures s * s.gop

-- how many pictures there are from one anchor to the next
abbrev pub step_pictures : Settings → ℕ
step_pictures s = frame_pictures s * (s.between + 1)

-- how many pictures may wait
abbrev pub waiting_places : Settings → ℕ
waiting_places s = frame_pictures s * FRAMES_WAITING

-- a planned picture stands between two anchors: none refers to it
abbrev pub stands_between : Planned → Bool
stands_between p = p.code == INTER_NON_REFERENCE_1 || p.code == INTER_NON_REFERENCE_2

-- there is a reference, and it isn't the picture before this one
abbrev pub refers_elsewhere : ℕ → Option ℕ → Bool
refers_elsewhere number None = false
refers_elsewhere number (Some reference) = not (reference + 1 == number)

-- a planned picture is a second field, but not that of a frame that opens a group, which refers to the first field
abbrev pub is_second_field_behind_the_opening : Settings → Planned → Bool
is_second_field_behind_the_opening s p = not (s.fields == 0) && p.number % 2 == 1 && refers_elsewhere p.number p.ref1

-- a planned picture is still to be taken before more are accepted: it stands between two anchors, or it is the second
-- field of an anchor that opens no group
abbrev pub must_be_taken_first : Settings → Option Planned → Bool
must_be_taken_first s None = false
must_be_taken_first s (Some p) = stands_between p || is_second_field_behind_the_opening s p

-- no picture is accepted for now: no place is free, or pictures between two anchors or the second field of an anchor
-- that opens no group are still to be taken
abbrev pub is_closed : Planning → Bool
is_closed p = length p.waiting == waiting_places p.settings || must_be_taken_first p.settings (next_planned p)

-- how many pictures stand before a place in its group
abbrev pub group_offset : Settings → ℕ → ℕ
group_offset s place = place % group_pictures s

-- how many waiting pictures the next planned one needs, unless it is still to be taken: one of a frame that opens a
-- group needs itself; an anchor all those of the frames up to it, or all that the group can still have
abbrev pub pictures_needed : Settings → ℕ → ℕ
pictures_needed s given =
    if nat_lt (group_offset s given) (frame_pictures s) then 1
    else min (step_pictures s) (group_pictures s - group_offset s given)

-- while pictures may still come, that many waiting ones are too few for the next planned one
abbrev pub are_too_few : Settings → ℕ → ℕ → Bool → ℕ → Bool
are_too_few s accepted given ended waiting =
    not ended && not (must_be_taken_first s (slice_get (plan accepted s) given))
    && nat_lt waiting (pictures_needed s given)

-- no planned picture is given: none waits, or too few do
abbrev pub gives_none : Planning → Bool → Bool
gives_none p ended =
    length p.waiting == 0 || are_too_few p.settings p.accepted p.given ended (length p.waiting)

-- a planned picture is the next one in each plan of that many pictures or more
abbrev pub IsLasting : Planning → Planned → Type 0
IsLasting p planned = (m : ℕ) → p.accepted ≤ m → slice_get (plan m p.settings) p.given ≡ Some planned

-- the next planned picture is given with the picture of its number, which waits no longer
pub record Takes (ended : Bool) (old new : Planning) (planned : Planned) (picture : Picture) : Type 0 where
  pub next : next_planned old ≡ Some planned
  -- while pictures may still come it is the next one however many come
  pub lasting : ended ≡ false → IsLasting old planned
  pub same : picture.number ≡ planned.number
  pub before : List Picture
  pub after : List Picture
  pub waited : old.waiting ≡ before ++ picture ∷ after
  pub waiting : new.waiting ≡ before ++ after
  pub settings : new.settings ≡ old.settings
  pub accepted : new.accepted ≡ old.accepted
  pub given : new.given ≡ old.given + 1
  pub told : new.ended ≡ ended
