-- The stream of coded pictures: a sequence header before each intra picture, the pictures in coding order, an end unit.
use Rattle.std.specs.Prelude.{◌≡◌, ℕ, ◌+◌, ◌<◌, ◌^◌, if◌then◌else◌, List, [], ◌∷◌, ◌++◌, length, None, Ok}
use Rattle.std.specs.List.{AllByRecursion}
use Rattle.dirac_common.specs.declared.picture.Picture.{Picture}
use Rattle.dirac_types.specs.declared.settings.Settings.{Settings}
use Rattle.dirac_types.specs.Settings.{IsAccepted}
use Rattle.dirac_common.specs.declared.codes.TheConstants.{SEQUENCE_HEADER}
use Rattle.dirac_units.specs.Cut.{UnitText, IsCut, first_unit_place}
pub use Rattle.dirac_units.specs.Writing.{end_info, end_unit, info_for, unit}
use Rattle.dirac_sequence_header.specs.Grammar.{sequence_read}
use Rattle.dirac_sequence.specs.Written.{sequence_of, sequence_payload}
use Rattle.dirac_picture.specs.Grammar.{is_intra}
pub use Rattle.dirac_plan_laws.specs.Headers.{IsPictureCode}
use Rattle.dirac_encode_laws.specs.Coding.{IndexRule, Made, coding_under, own_index}

-- the length of a sequence header's unit
abbrev pub header_length : Settings → ℕ
header_length t = 13 + length (sequence_payload t)

-- the length of a picture's unit
abbrev pub picture_length : Made → ℕ
picture_length m = 13 + length m.payload

-- a sequence header's unit behind a unit of this length
abbrev pub header_unit : Settings → ℕ → List ℕ
header_unit t previous = unit SEQUENCE_HEADER previous (sequence_payload t)

-- the sequence header's unit that stands before an intra picture, behind a unit of this length; before an inter picture
-- none
abbrev pub header_before : Settings → Made → ℕ → List ℕ
header_before t m previous = if is_intra m.coded.code then header_unit t previous else []

-- the length of the unit just before a picture: of its sequence header, or of the picture coded before it
abbrev pub length_before : Settings → Made → ℕ → ℕ
length_before t m previous = if is_intra m.coded.code then header_length t else previous

-- a picture's unit
abbrev pub picture_unit : Settings → Made → ℕ → List ℕ
picture_unit t m previous = unit m.coded.code (length_before t m previous) m.payload

-- the units of pictures behind a unit of this length
unfoldable pub units_of : Settings → ℕ → List Made → List ℕ
units_of t previous [] = []
units_of t previous (m ∷ ms) =
    (header_before t m previous ++ picture_unit t m previous) ++ units_of t (picture_length m) ms

-- the length of the last of these pictures' units; where there are no pictures, of the unit before them
abbrev pub last_length : ℕ → List Made → ℕ
last_length previous [] = previous
last_length previous (m ∷ ms) = last_length (picture_length m) ms

-- what stands behind all pictures: the end unit, and before it a sequence header where there is no picture
abbrev pub closing : Settings → List Made → List ℕ
closing t [] = header_unit t 0 ++ end_unit (header_length t)
closing t (m ∷ ms) = end_unit (last_length 0 (m ∷ ms))

-- the stream of coded pictures
abbrev pub stream_from : Settings → List Made → List ℕ
stream_from t ms = units_of t 0 ms ++ closing t ms

-- the stream of these sources under a rule for their indices
abbrev pub stream_under : IndexRule → Settings → List Picture → List ℕ
stream_under f t pictures = stream_from t (coding_under f t pictures)

-- the stream of these sources with the settings' index
abbrev pub stream_of : Settings → List Picture → List ℕ
stream_of t pictures = stream_under own_index t pictures

-- a sequence header's unit behind a unit of this length, as its parse info and its payload
unfoldable pub header_text : Settings → ℕ → UnitText
header_text t previous =
    record { info = info_for SEQUENCE_HEADER previous (sequence_payload t); payload = sequence_payload t }

-- a picture's unit, as its parse info and its payload
unfoldable pub picture_text : Settings → Made → ℕ → UnitText
picture_text t m previous = record {
  info = info_for m.coded.code (length_before t m previous) m.payload;
  payload = m.payload;
}

-- the end unit behind a unit of this length, as its parse info and a payload without bytes
unfoldable pub end_text : ℕ → UnitText
end_text previous = record { info = end_info previous; payload = [] }

-- the unit of the sequence header before an intra picture
abbrev pub header_texts : Settings → Made → ℕ → List UnitText
header_texts t m previous = if is_intra m.coded.code then header_text t previous ∷ [] else []

-- the units of pictures and the end unit, behind a unit of this length
unfoldable pub units_from : Settings → ℕ → List Made → List UnitText
units_from t previous [] = end_text previous ∷ []
units_from t previous (m ∷ ms) =
    header_texts t m previous ++ picture_text t m previous ∷ units_from t (picture_length m) ms

-- the units of the stream of coded pictures
abbrev pub units_in : Settings → List Made → List UnitText
units_in t [] = header_text t 0 ∷ end_text (header_length t) ∷ []
units_in t (m ∷ ms) = units_from t 0 (m ∷ ms)

-- the units of the stream of these sources under a rule for their indices
abbrev pub units_under : IndexRule → Settings → List Picture → List UnitText
units_under f t pictures = units_in t (coding_under f t pictures)

-- the units of the stream of these sources with the settings' index
abbrev pub stream_units : Settings → List Picture → List UnitText
stream_units t pictures = units_under own_index t pictures

-- a picture whose unit has a length that its offset can hold
pub record IsUnit (m : Made) : Type 0 where
  pub code : IsPictureCode m.coded.code
  pub short : picture_length m < 2 ^ 32

-- the sequence header of accepted settings is read as their sequence, and its unit's length fits its offset
abbrev pub HeadersAreRead : Type 0
HeadersAreRead =
    (t : Settings) → IsAccepted t
    → (sequence_read (sequence_payload t) ≡ Ok (sequence_of t)) × (header_length t < 2 ^ 32)

-- a stream is cut into just its units, and has no fault there
abbrev pub StreamsAreCut : Type 0
StreamsAreCut =
    (t : Settings) (ms : List Made) → AllByRecursion IsUnit ms
    → IsCut first_unit_place (stream_from t ms) (units_in t ms) None
