-- Streams one behind another, cut and joined.
use Rattle.std.specs.Prelude.{◌≡◌, ℕ, ◌≤◌, ◌<◌, ◌++◌, List, ◌∷◌, map, None}
use Rattle.std.specs.List.{All}
use Rattle.dirac_common.specs.declared.picture.Picture.{Picture}
use Rattle.dirac_units.specs.Cut.{UnitText, first_unit_place}
use Rattle.dirac_content.specs.Raw.{raws}
use Rattle.dirac_content.specs.Shown.{IsShown, Outcome, outcome}
use Rattle.dirac_content.specs.StreamState.{stream_begun}
use Rattle.dirac_edit_laws.specs.Cut.{cut_bytes, open_cut, part_rebuilt, part_shown}
use Rattle.dirac_edit_laws.specs.Joined.{joined_bytes}
use Rattle.dirac_edit_laws.specs.Laws.{IsFaultless, ShowsJust}
use Rattle.dirac_edit_laws.specs.Later.{AreNotBefore}
use Rattle.dirac_edit_laws.specs.Rebuilt.{rebuilt_picture, waiting_from}
use Rattle.dirac_edit_laws.specs.Texts.{SequenceText, points_of, sequences}

-- what units show that have no fault
abbrev pub shown_by : List UnitText → List Picture
shown_by units = (outcome stream_begun first_unit_place units None).shown

-- one stream behind another: the units of both, and the pictures of both in order
abbrev pub StreamsFollow : Type 0
StreamsFollow =
    (bytes bytes' : List ℕ) (units units' : List UnitText) → IsFaultless bytes units → IsFaultless bytes' units'
    → IsFaultless (bytes ++ bytes') (units ++ units') × (shown_by (units ++ units') ≡ shown_by units ++ shown_by units')

-- the cut from point 0 to the end isn't open, and shows what the stream shows
abbrev pub CutsOfAllShowAll : Type 0
CutsOfAllShowAll =
    (bytes : List ℕ) (units : List UnitText) → IsFaultless bytes units → 0 < points_of units
    → (open_cut units 0 (points_of units) ≡ None)
    × ShowsJust (cut_bytes units 0 (points_of units)) (shown_by units)

-- what is joined stays as it is when it is joined again
abbrev pub JoinedStreamsStay : Type 0
JoinedStreamsStay =
    (bytes : List ℕ) (units : List UnitText) → IsFaultless bytes units
    → (o : Outcome) × (again : IsShown (joined_bytes units) o)
    × (o.end ≡ None) × (joined_bytes again.units ≡ joined_bytes units)

-- a sequence's pictures of a part, as a decoder of all of it rebuilds them
abbrev pub part_pictures : ℕ → ℕ → SequenceText → List Picture
part_pictures a b s = map rebuilt_picture (part_rebuilt a b s)

-- within a sequence no picture behind point b leaves before one of those from point a up to it: keys, counted from the
-- first picture behind point a, aren't less
abbrev pub FollowsInTurn : ℕ → ℕ → ℕ → SequenceText → Type 0
FollowsInTurn a b c s =
    (first : Picture) (pictures : List Picture) → part_pictures a b s ≡ first ∷ pictures
    → AreNotBefore (map (waiting_from first.number) (part_pictures b c s))
    (map (waiting_from first.number) (part_pictures a b s))

-- two cuts that meet at point b, joined: what the cut of both shows, where the later pictures follow in turn
abbrev pub CutsJoinedShowTheWholeCut : Type 0
CutsJoinedShowTheWholeCut =
    (bytes : List ℕ) (units : List UnitText) (a b c : ℕ) → IsFaultless bytes units → a < b → b < c
    → c ≤ points_of units → open_cut units a b ≡ None → open_cut units b c ≡ None
    → All (FollowsInTurn a b c) (sequences units)
    → (open_cut units a c ≡ None)
    × ((o : Outcome) × (both : IsShown (cut_bytes units a b ++ cut_bytes units b c) o) × (o.end ≡ None)
    × ((p : Outcome) × IsShown (joined_bytes both.units) p × (raws p.shown ≡ raws (part_shown units a c))
    × (p.end ≡ None)))
