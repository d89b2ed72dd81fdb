-- A stream seen by sequences: the header of each, its pictures, and the point that each picture stands behind.
use Rattle.std.specs.Prelude.{ℕ, suc, ◌==◌, nat_lt, if◌then◌else◌, List, [], ◌∷◌, ◌++◌, length, Option, None, Some}
use Rattle.std.specs.List.{filter}
use Rattle.dirac_common.specs.declared.codes.TheConstants.{END_OF_SEQUENCE, SEQUENCE_HEADER}
use Rattle.dirac_common.specs.Codes.{is_intra}
use Rattle.dirac_units.specs.Cut.{UnitText}
use Rattle.dirac_units.specs.Info.{is_picture}

-- a picture's unit: how many units stand before it in the stream, how many points there are up to it, itself among
-- them, its parse code and its payload
pub record PictureText : Type 0 where
  pub index : ℕ
  pub points : ℕ
  pub code : ℕ
  pub payload : List ℕ

-- a sequence: the payload of its header, and its pictures in the order of the bytes
pub record SequenceText : Type 0 where
  pub header : List ℕ
  pub pictures : List PictureText

-- the points of a stream are its intra pictures: a point more, where the unit is one
abbrev pub points_up_to : ℕ → UnitText → ℕ
points_up_to points u = if is_intra u.info.code then suc points else points

-- how many points units have
unfoldable pub points_of : List UnitText → ℕ
points_of [] = 0
points_of (u ∷ units) = points_up_to (points_of units) u

-- the first header opens a sequence; repeated ones have its payload
abbrev pub opened_by : Option SequenceText → List ℕ → Option SequenceText
opened_by None payload = Some (record { header = payload; pictures = [] })
opened_by (Some s) payload = Some s

-- the open sequence with one picture more
abbrev pub with_picture_text : Option SequenceText → PictureText → Option SequenceText
with_picture_text None p = None
with_picture_text (Some s) p = Some (record { header = s.header; pictures = s.pictures ++ p ∷ [] })

-- the open sequence is at its end, if there is one
abbrev pub closed_off : Option SequenceText → List SequenceText
closed_off None = []
closed_off (Some s) = s ∷ []

-- the unit of a picture, behind that many units and with that many points up to it
abbrev pub picture_text_at : ℕ → ℕ → UnitText → PictureText
picture_text_at index points u = record { index = index; points = points; code = u.info.code; payload = u.payload }

-- the sequences of these units, behind that many units and points, with this sequence open
unfoldable pub sequences_from : ℕ → ℕ → Option SequenceText → List UnitText → List SequenceText
sequences_from index points now [] = closed_off now
sequences_from index points now (u ∷ units) =
    if u.info.code == SEQUENCE_HEADER then sequences_from (suc index) points (opened_by now u.payload) units
    else if u.info.code == END_OF_SEQUENCE then closed_off now ++ sequences_from (suc index) points None units
    else if is_picture u.info.code then
    sequences_from (suc index) (points_up_to points u)
    (with_picture_text now (picture_text_at index (points_up_to points u) u)) units
    else sequences_from (suc index) points now units

-- the sequences of a stream's units
abbrev pub sequences : List UnitText → List SequenceText
sequences units = sequences_from 0 0 None units

-- those that have pictures
abbrev pub with_pictures : List SequenceText → List SequenceText
with_pictures sequences = filter (λ (s : SequenceText). nat_lt 0 (length s.pictures)) sequences
