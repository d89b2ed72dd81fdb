-- What holds of all streams without a fault, of their parts and of what they are joined to.
use Rattle.std.specs.Prelude.{◌≡◌, ℕ, ◌≤◌, ◌<◌, ◌^◌, List, [], length, Option, None}
use Rattle.std.specs.List.{AllByRecursion}
use Rattle.dirac_common.specs.declared.picture.Picture.{Picture}
use Rattle.dirac_sequence_header.specs.declared.sequence.Sequence.{Sequence}
use Rattle.dirac_units.specs.Cut.{IsCut, UnitText, first_unit_place}
use Rattle.dirac_content.specs.Raw.{raws}
use Rattle.dirac_content.specs.Shown.{IsShown, Outcome, outcome}
use Rattle.dirac_content.specs.StreamState.{stream_begun}
use Rattle.dirac_edit_laws.specs.Cut.{cut_bytes, end_point, open_cut, open_from, part_shown, wrong_point}
use Rattle.dirac_edit_laws.specs.Joined.{joined_bytes}
use Rattle.dirac_edit_laws.specs.Rebuilt.{AreRead, IsRead, all_shown, rebuilt_from}
use Rattle.dirac_edit_laws.specs.Restricted.{IsRestricted}
use Rattle.dirac_edit_laws.specs.Texts.{PictureText, points_of, sequences}

-- bytes that are cut into these units, and decoded without a fault
pub record IsFaultless (bytes : List ℕ) (units : List UnitText) : Type 0 where
  pub below : AllByRecursion (λ b. b < 2 ^ 8) bytes
  pub cut : IsCut first_unit_place bytes units None
  pub none : (outcome stream_begun first_unit_place units None).end ≡ None

-- these bytes show just these pictures, and have no fault
abbrev pub ShowsJust : List ℕ → List Picture → Type 0
ShowsJust bytes pictures = (o : Outcome) × IsShown bytes o × (o.shown ≡ pictures) × (o.end ≡ None)

-- a part whose references are of the part is read and rebuilt as in the whole
abbrev pub ClosedPartsShowTheWhole : Type 0
ClosedPartsShowTheWhole =
    (s : Sequence) (pictures : List PictureText) (whole part : List Picture) → IsRestricted whole part
    → length whole ≤ 8 → AreRead s whole pictures → open_from part (rebuilt_from s whole pictures) ≡ None
    → AreRead s part pictures × (rebuilt_from s part pictures ≡ rebuilt_from s whole pictures)

-- a part that begins with nothing listed, behind whatever the whole lists
abbrev pub PartsBeginAnywhere : Type 0
PartsBeginAnywhere = (whole : List Picture) → IsRestricted whole []

-- units that are decoded without a fault show their sequences, each of which is read
abbrev pub UnitsShowTheirSequences : Type 0
UnitsShowTheirSequences =
    (units : List UnitText) → (outcome stream_begun first_unit_place units None).end ≡ None
    → AllByRecursion IsRead (sequences units)
    × ((outcome stream_begun first_unit_place units None).shown ≡ all_shown (sequences units))

-- the cut from one point to another, where no picture of the part is open, shows the part's pictures as the whole
-- stream rebuilds them
abbrev pub CutsShowTheirParts : Type 0
CutsShowTheirParts =
    (bytes : List ℕ) (units : List UnitText) (from : ℕ) (to : Option ℕ) → IsFaultless bytes units
    → wrong_point from to (points_of units) ≡ None → open_cut units from (end_point to (points_of units)) ≡ None
    → ShowsJust (cut_bytes units from (end_point to (points_of units)))
    (part_shown units from (end_point to (points_of units)))

-- joined sequences show the raw pictures of the stream that they come from, in order
abbrev pub JoinedStreamsShowTheSame : Type 0
JoinedStreamsShowTheSame =
    (bytes : List ℕ) (units : List UnitText) → IsFaultless bytes units
    → (o : Outcome) × IsShown (joined_bytes units) o
    × (raws o.shown ≡ raws (outcome stream_begun first_unit_place units None).shown) × (o.end ≡ None)
