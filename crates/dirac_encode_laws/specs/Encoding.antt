-- What the encoding of raw pictures writes and answers.
use Rattle.std.specs.Prelude.{◌≡◌, ℕ, ◌*◌, ◌==◌, take, ⊤, nat_le, if◌then◌else◌, Bool, List, [], ◌∷◌, ◌++◌, length, map}
use Rattle.std.specs.Prelude.{Option, None, Some}
use Rattle.dirac_common.specs.declared.picture.Picture.{Picture}
use Rattle.dirac_types.specs.declared.settings.Settings.{Settings}
use Rattle.std.specs.Io.KnownBytes.{Appends}
use Rattle.dirac_io.specs.Writing.{AppendsFront}
use Rattle.dirac_units.specs.Cut.{IsCut, first_unit_place}
use Rattle.dirac_refs.specs.Delivery.{deliver}
use Rattle.dirac_content.specs.Raw.{raws}
use Rattle.dirac_sources.specs.Sources.{left_over, raw_length, sources, whole_pictures}
use Rattle.dirac_content.specs.Shown.{Outcome, IsShown}
use Rattle.dirac_encode_laws.specs.declared.answers.Encoded.{Encoded}
use Rattle.dirac_encode_laws.specs.declared.answers.Encoded.TheVariants as encoded
use Rattle.dirac_encode_laws.specs.Coding.{AreAtIndexZero, IndexRule, Made, coding_under, jobs_of, own_index}
use Rattle.dirac_encode_laws.specs.Coding.{keyed_reconstructions}
use Rattle.dirac_encode_laws.specs.Coding.{reconstructions, reconstructions_under, shown_of}
use Rattle.dirac_encode_laws.specs.Stream.{header_before, last_length, picture_length, stream_from, stream_of}
use Rattle.dirac_encode_laws.specs.Stream.{stream_under, stream_units, units_of, units_under}
use Rattle.dirac_plan_laws.specs.Order.{by_number}

-- the unit of a picture, parse info and payload, is no longer than the settings allow
abbrev pub is_short : Settings → Made → Bool
is_short t m = nat_le (picture_length m) t.unit_bytes

-- the first picture in coding order whose unit is too long
abbrev pub first_long : Settings → List Made → Option Made
first_long t [] = None
first_long t (m ∷ ms) = if is_short t m then first_long t ms else Some m

-- the pictures in coding order before the first whose unit is too long
abbrev pub before_long : Settings → List Made → List Made
before_long t [] = []
before_long t (m ∷ ms) = if is_short t m then m ∷ before_long t ms else []

-- the units before a picture whose unit is too long; a sequence header just before it is the last of them
abbrev pub stream_before : Settings → List Made → Made → List ℕ
stream_before t ms m = units_of t 0 ms ++ header_before t m (last_length 0 ms)

-- what is answered, written as the stream, and delivered beside it
pub record Encoding : Type 0 where
  pub answer : Encoded
  pub stream : List ℕ
  pub shown : List Picture

-- the encoding of these coded pictures, where this is the answer behind a whole stream: where the unit of a picture is
-- too long, the encoding stops before the first such picture, and what waits for delivery is lost
abbrev pub encoding_by : Settings → Encoded → List Made → Option Made → Encoding
encoding_by t answer ms None = record {
  answer = answer;
  stream = stream_from t ms;
  shown = by_number (length ms) (map shown_of ms);
}
encoding_by t answer ms (Some m) = record {
  answer = encoded.UnitTooLong m.coded.header.number;
  stream = stream_before t (before_long t ms) m;
  shown = deliver (keyed_reconstructions (before_long t ms));
}

-- the answer behind whole pictures, where that many bytes are left over
abbrev pub answer_behind : ℕ → Encoded
answer_behind n = if n == 0 then encoded.Done else encoded.PartialPicture n

-- the answer where no unit is too long: too many pictures are whole, or bytes are left over, or neither
abbrev pub ending : Settings → List ℕ → Encoded
ending t bytes =
    if nat_le (whole_pictures t bytes) t.pictures then answer_behind (left_over t bytes) else encoded.TooManyPictures

-- the encoding of raw pictures with these settings, under a rule for their indices
unfoldable pub encoding_under : IndexRule → Settings → List ℕ → Encoding
encoding_under f t bytes =
    encoding_by t (ending t bytes) (coding_under f t (sources t bytes))
    (first_long t (coding_under f t (sources t bytes)))

-- the encoding of raw pictures with these settings and the settings' index
abbrev pub encoding : Settings → List ℕ → Encoding
encoding t bytes = encoding_under own_index t bytes

-- what both sinks took: all of the stream, and all raw pictures delivered beside it
abbrev pub WritesAll : Encoding →
    Option (List ℕ) → Option (List ℕ) → Option (List ℕ) → Option (List ℕ) → Type 0
WritesAll e out out' side side' = Appends out out' e.stream × Appends side side' (raws e.shown)

-- what both sinks took: a front of the stream, and a front of the raw pictures delivered beside it
abbrev pub WritesFront : Encoding →
    Option (List ℕ) → Option (List ℕ) → Option (List ℕ) → Option (List ℕ) → Type 0
WritesFront e out out' side side' = AppendsFront out out' e.stream × AppendsFront side side' (raws e.shown)

-- what an answer says of the encoding, and of what both sinks took
abbrev pub AnswersEncodedStream : Encoded → Encoding →
    Option (List ℕ) → Option (List ℕ) → Option (List ℕ) → Option (List ℕ) → Type 0
AnswersEncodedStream encoded.ReadFault e out out' side side' = WritesFront e out out' side side'
AnswersEncodedStream encoded.WriteFault e out out' side side' = WritesFront e out out' side side'
AnswersEncodedStream encoded.SideFault e out out' side side' = WritesFront e out out' side side'
AnswersEncodedStream encoded.NoMemory e out out' side side' = WritesFront e out out' side side'
AnswersEncodedStream answer e out out' side side' = (answer ≡ e.answer) × WritesAll e out out' side side'

-- an answer behind a whole stream
abbrev pub EncodesToTheEnd : Encoded → Type 0
EncodesToTheEnd encoded.Done = ⊤
EncodesToTheEnd (encoded.PartialPicture n) = ⊤
EncodesToTheEnd encoded.TooManyPictures = ⊤
EncodesToTheEnd answer = ⊥

-- under a rule for their indices the stream of these bytes' pictures is cut into its units, has no fault and shows
-- their reconstructions; where each picture's index is 0 these are the pictures themselves; the raw bytes of the
-- pictures are the first of these bytes
pub record IsRecoveredUnder (f : IndexRule) (t : Settings) (bytes : List ℕ) : Type 0 where
  pub cut : IsCut first_unit_place (stream_under f t (sources t bytes)) (units_under f t (sources t bytes)) None
  pub shows : (o : Outcome) × IsShown (stream_under f t (sources t bytes)) o
      × (o.shown ≡ reconstructions_under f t (sources t bytes)) × (o.end ≡ None)
  pub lossless : AreAtIndexZero f t [] (jobs_of t (sources t bytes))
      → reconstructions_under f t (sources t bytes) ≡ sources t bytes
  pub raw : raws (sources t bytes) ≡ take (length (sources t bytes) * raw_length t) bytes

-- the stream of these bytes' pictures is cut into its units, has no fault and shows their reconstructions; with
-- quantiser index 0 these are the pictures themselves; the raw bytes of the pictures are the first of these bytes
pub record IsRecovered (t : Settings) (bytes : List ℕ) : Type 0 where
  pub cut : IsCut first_unit_place (stream_of t (sources t bytes)) (stream_units t (sources t bytes)) None
  pub shows : (o : Outcome) × IsShown (stream_of t (sources t bytes)) o
      × (o.shown ≡ reconstructions t (sources t bytes)) × (o.end ≡ None)
  pub lossless : t.index ≡ 0 → reconstructions t (sources t bytes) ≡ sources t bytes
  pub raw : raws (sources t bytes) ≡ take (length (sources t bytes) * raw_length t) bytes
