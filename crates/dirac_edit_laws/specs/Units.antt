-- Sequences as units: a sequence header, the pictures, an end unit.
use Rattle.std.specs.Prelude.{ℕ, ◌+◌, List, [], ◌∷◌, ◌++◌, length}
use Rattle.dirac_common.specs.declared.codes.TheConstants.{SEQUENCE_HEADER}
use Rattle.dirac_units.specs.Cut.{UnitText}
use Rattle.dirac_encode_laws.specs.Stream.{end_info, end_unit, info_for, unit}
use Rattle.dirac_edit_laws.specs.Texts.{PictureText, SequenceText}

-- pictures and the end unit, behind a unit of this length
unfoldable pub pictures_bytes : ℕ → List PictureText → List ℕ
pictures_bytes previous [] = end_unit previous
pictures_bytes previous (p ∷ pictures) =
    unit p.code previous p.payload ++ pictures_bytes (13 + length p.payload) pictures

-- one sequence, behind a unit of this length
abbrev pub sequence_bytes : ℕ → SequenceText → List ℕ
sequence_bytes previous s =
    unit SEQUENCE_HEADER previous s.header ++ pictures_bytes (13 + length s.header) s.pictures

-- sequences, behind a unit of this length; each ends with an end unit, of 13 bytes
unfoldable pub sequences_bytes : ℕ → List SequenceText → List ℕ
sequences_bytes previous [] = []
sequences_bytes previous (s ∷ sequences) = sequence_bytes previous s ++ sequences_bytes 13 sequences

-- a unit of this payload behind one of this length, and an end unit, each as it is cut
abbrev pub text_for : ℕ → ℕ → List ℕ → UnitText
text_for code previous payload = record { info = info_for code previous payload; payload = payload }

abbrev pub end_for : ℕ → UnitText
end_for previous = record { info = end_info previous; payload = [] }

-- the units of pictures and the end unit, behind a unit of this length; then those of other sequences
unfoldable pub pictures_units : ℕ → List PictureText → List UnitText → List UnitText
pictures_units previous [] rest = end_for previous ∷ rest
pictures_units previous (p ∷ pictures) rest =
    text_for p.code previous p.payload ∷ pictures_units (13 + length p.payload) pictures rest

-- the units of sequences, behind a unit of this length
unfoldable pub sequences_units : ℕ → List SequenceText → List UnitText
sequences_units previous [] = []
sequences_units previous (s ∷ sequences) =
    text_for SEQUENCE_HEADER previous s.header
    ∷ pictures_units (13 + length s.header) s.pictures (sequences_units 13 sequences)
