-- The cut of a stream that was encoded, from one group of its plan up to another.
use Rattle.std.specs.Prelude.{◌≡◌, ℕ, ◌+◌, ◌-◌, ◌*◌, ◌/◌, ◌<◌, ◌≤◌, ◌==◌, if◌then◌else◌, List, length, take, drop, None}
use Rattle.dirac_common.specs.declared.picture.Picture.{Picture}
use Rattle.dirac_types.specs.declared.settings.Settings.{Settings}
use Rattle.dirac_plan.specs.Plan.{group_count}
use Rattle.dirac_plan.specs.Planning.{group_pictures}
use Rattle.dirac_encode_laws.specs.Coding.{reconstructions}
use Rattle.dirac_encode_laws.specs.Laws.{AreSources}
use Rattle.dirac_encode_laws.specs.Stream.{stream_units}
use Rattle.dirac_edit_laws.specs.Cut.{cut_bytes, open_cut}
use Rattle.dirac_edit_laws.specs.Laws.{ShowsJust}
use Rattle.dirac_edit_laws.specs.Texts.{points_of}

-- how many frames that many pictures are: themselves, or where they are fields half as many, a last one alone being one
abbrev pub frame_count : Settings → ℕ → ℕ
frame_count t pictures = if t.fields == 0 then pictures else (pictures + 1) / 2

-- how many groups of frames they are
abbrev pub groups_in : Settings → ℕ → ℕ
groups_in t pictures = group_count t (frame_count t pictures)

-- of these pictures, by number, those of the groups from a up to, and without, b
abbrev pub of_groups : Settings → ℕ → ℕ → List Picture → List Picture
of_groups t a b pictures = take ((b - a) * group_pictures t) (drop (a * group_pictures t) pictures)

-- the cut of the encoder's stream from one group to another isn't open, and shows the reconstructions of these groups
abbrev pub EncodedCutsShowTheirGroups : Type 0
EncodedCutsShowTheirGroups =
    (t : Settings) (pictures : List Picture) (a b : ℕ) → AreSources t pictures → a < b
    → b ≤ groups_in t (length pictures)
    → (open_cut (stream_units t pictures) a b ≡ None)
    × ShowsJust (cut_bytes (stream_units t pictures) a b) (of_groups t a b (reconstructions t pictures))

-- the encoder's stream has a point for each group, whatever the pictures and the settings
abbrev pub EncodedStreamsHaveAPointAGroup : Type 0
EncodedStreamsHaveAPointAGroup =
    (t : Settings) (pictures : List Picture) → points_of (stream_units t pictures) ≡ groups_in t (length pictures)
