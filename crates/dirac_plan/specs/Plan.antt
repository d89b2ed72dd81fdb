-- Which pictures are coded, in which order, and what each of them refers to. Groups and anchors count frames. Where
-- pictures are frames, frame t is picture t; where they are fields, its fields are pictures 2 t and 2 t + 1.
use Rattle.std.specs.Prelude.{ℕ, zero, suc, ◌+◌, ◌-◌, ◌*◌, ◌/◌, ◌==◌, min, max, nat_le, nat_lt, ◌&&◌, ◌||◌}
use Rattle.std.specs.Prelude.{if◌then◌else◌, List, [], ◌∷◌, map, Option, None, Some, option_map}
use Rattle.std.specs.List.{flat_map, range_with_len}
use Rattle.dirac_types.specs.declared.settings.Settings.{Settings}
use Rattle.dirac_common.specs.declared.codes.TheConstants.{INTER_NON_REFERENCE_1, INTER_NON_REFERENCE_2}
use Rattle.dirac_common.specs.declared.codes.TheConstants.{INTER_REFERENCE_1, INTER_REFERENCE_2, INTRA_REFERENCE}
use Rattle.dirac_plan.specs.declared.planned.Planned.{Planned}

-- an intra frame to which others may refer, which retires none
abbrev pub opening_frame : ℕ → Planned
opening_frame number = record { number = number; code = INTRA_REFERENCE; ref1 = None; ref2 = None; retire = None }

-- an anchor behind the first: a frame to which others may refer, which refers to the anchor before it, and to a second
-- frame if there is one
abbrev pub anchor_of : ℕ → ℕ → Option ℕ → Option ℕ → Planned
anchor_of number before None retired =
    record { number = number; code = INTER_REFERENCE_1; ref1 = Some before; ref2 = None; retire = retired }
anchor_of number before (Some second) retired =
    record { number = number; code = INTER_REFERENCE_2; ref1 = Some before; ref2 = Some second; retire = retired }

-- a frame between two anchors, to which none refers: it refers to the anchor before it, with two references also to the
-- anchor behind it
abbrev pub between_of : ℕ → ℕ → ℕ → ℕ → Planned
between_of references before after number =
    if references == 2
    then record { number = number; code = INTER_NON_REFERENCE_2; ref1 = Some before; ref2 = Some after; retire = None }
    else record { number = number; code = INTER_NON_REFERENCE_1; ref1 = Some before; ref2 = None; retire = None }

-- how far anchor k stands behind the first frame of its group, which has len frames: a group's last frame is an anchor
abbrev pub anchor_offset : Settings → ℕ → ℕ → ℕ
anchor_offset s len zero = 0
anchor_offset s len (suc k) = min (anchor_offset s len k + s.between + 1) (len - 1)

-- how many anchors follow the first frame of a group
abbrev pub anchors_behind : Settings → ℕ → ℕ
anchors_behind s len = (len - 1 + s.between) / (s.between + 1)

-- what the anchor behind anchor k refers to besides anchor k: with two references the group's first frame, if that is
-- another one
abbrev pub second_of_anchor : Settings → ℕ → ℕ → Option ℕ
second_of_anchor s first k = if s.references == 2 && nat_le 1 k then Some first else None

-- behind a group, of which anchor m is the last, these of its anchors are listed, oldest first: the first one, the one
-- before the last, and the last, so far as these are others
abbrev pub left_anchor : ℕ → ℕ → ℕ
left_anchor m zero = 0
left_anchor m (suc zero) = max 1 (m - 1)
left_anchor m (suc (suc j)) = m

-- what anchor j of a group, 0 to 2, retires of the group before it, of s.gop frames: only where the stream is to be
-- shown alike, and then each the next of those that are listed
unfoldable pub retired_of_former : Settings → ℕ → ℕ → Option ℕ
retired_of_former s first j =
    if s.alike == 0 || nat_lt first s.gop then None
    else Some (first - s.gop + anchor_offset s s.gop (left_anchor (anchors_behind s s.gop) j))

-- what the anchor behind anchor k retires: the anchor before anchor k, if that isn't the group's first frame; else one
-- of the group before
abbrev pub retired_of : Settings → ℕ → ℕ → ℕ → Option ℕ
retired_of s len first zero = retired_of_former s first 1
retired_of s len first (suc zero) = retired_of_former s first 2
retired_of s len first (suc (suc k)) = Some (first + anchor_offset s len (suc k))

-- the frame that opens a group
abbrev pub opening_of : Settings → ℕ → Planned
opening_of s first = record {
  number = first;
  code = INTRA_REFERENCE;
  ref1 = None;
  ref2 = None;
  retire = retired_of_former s first 0;
}

-- the step from anchor k to the next anchor: the next anchor is coded first, then the frames between them
abbrev pub step : Settings → ℕ → ℕ → ℕ → List Planned
step s len first k =
    let before = first + anchor_offset s len k in
    let after = first + anchor_offset s len (suc k) in
    anchor_of after before (second_of_anchor s first k) (retired_of s len first k)
    ∷ map (between_of s.references before after) (range_with_len (before + 1) (after - before - 1))

-- a group of len frames, of which the first has this number
abbrev pub group : Settings → ℕ → ℕ → List Planned
group s len first = opening_of s first ∷ flat_map (step s len first) (range_with_len 0 (anchors_behind s len))

-- group number i of n frames; the last group may be shorter
abbrev pub group_at : Settings → ℕ → ℕ → List Planned
group_at s n i = group s (min s.gop (n - i * s.gop)) (i * s.gop)

-- how many groups n frames have
abbrev pub group_count : Settings → ℕ → ℕ
group_count s n = (n + (s.gop - 1)) / s.gop

-- n frames in coding order
unfoldable pub frames_plan : ℕ → Settings → List Planned
frames_plan n s = flat_map (group_at s n) (range_with_len 0 (group_count s n))

-- of n fields, field p (0 or 1) of frame t; where the last frame has no second field, its first one
abbrev pub field_or_first : ℕ → ℕ → ℕ → ℕ
field_or_first n p t = if nat_lt (2 * t + p) n then 2 * t + p else 2 * t

-- field p of a planned frame, of n fields: it refers to the fields p of the frame's references and retires field p of
-- the frame that it retires; but the second field of an intra frame refers to the first field
abbrev pub field_of : ℕ → ℕ → Planned → Planned
field_of n p f =
    if f.code == INTRA_REFERENCE && p == 1
    then anchor_of (2 * f.number + 1) (2 * f.number) None (option_map (λ t. 2 * t + p) f.retire)
    else record {
      number = 2 * f.number + p;
      code = f.code;
      ref1 = option_map (field_or_first n p) f.ref1;
      ref2 = option_map (field_or_first n p) f.ref2;
      retire = option_map (λ t. 2 * t + p) f.retire;
    }

-- the fields of a planned frame, of n fields: the last frame may have one alone
abbrev pub fields_of : ℕ → Planned → List Planned
fields_of n f = field_of n 0 f ∷ (if nat_lt (2 * f.number + 1) n then field_of n 1 f ∷ [] else [])

-- n pictures in coding order: frames, or the fields of frames
unfoldable pub plan : ℕ → Settings → List Planned
plan n s = if s.fields == 0 then frames_plan n s else flat_map (fields_of n) (frames_plan ((n + 1) / 2) s)
