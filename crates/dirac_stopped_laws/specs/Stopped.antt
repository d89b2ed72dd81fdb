-- Streams that stop before a picture whose unit is too long.
use Rattle.std.specs.Prelude.{◌≡◌, ℕ, ◌<◌, ◌^◌, List, [], ◌∷◌, ◌++◌, length, Some}
use Rattle.std.specs.List.{AllByRecursion}
use Rattle.dirac_common.specs.declared.faults.Cause.TheVariants.{MissingEnd}
use Rattle.dirac_common.specs.declared.faults.Fault.{Fault}
use Rattle.dirac_types.specs.declared.settings.Settings.{Settings}
use Rattle.dirac_types.specs.Settings.{IsAccepted}
use Rattle.dirac_units.specs.Cut.{UnitText, IsCut, first_unit_place}
use Rattle.dirac_refs.specs.Delivery.{in_delivery_order}
use Rattle.dirac_content.specs.Shown.{IsShown, Outcome}
use Rattle.dirac_sources.specs.Sources.{sources}
use Rattle.dirac_encode_laws.specs.Coding.{IndexRule, Made, coding_under, keyed_reconstructions}
use Rattle.dirac_encode_laws.specs.Encoding.{before_long, encoding_under, first_long, stream_before}
use Rattle.dirac_encode_laws.specs.Laws.{AreMade, Begins, GivesIndices}
use Rattle.dirac_encode_laws.specs.Stream.{IsUnit, header_texts, last_length, picture_length, picture_text}

-- the units of pictures behind a unit of this length
abbrev pub texts_of : Settings → ℕ → List Made → List UnitText
texts_of t previous [] = []
texts_of t previous (m ∷ ms) =
    header_texts t m previous ++ picture_text t m previous ∷ texts_of t (picture_length m) ms

-- the units before a picture whose unit is too long; a sequence header just before it is the last of them
abbrev pub texts_before : Settings → List Made → Made → List UnitText
texts_before t ms m = texts_of t 0 ms ++ header_texts t m (last_length 0 ms)

-- the fault of a stream that stops before a picture: behind its units, at its length, the end unit is missing
abbrev pub end_missing : Settings → List Made → Made → Fault
end_missing t ms m =
    record { unit = length (texts_before t ms m); at = length (stream_before t ms m); cause = MissingEnd }

-- the stream before a picture is cut into just its units
abbrev pub StoppedStreamsAreCut : Type 0
StoppedStreamsAreCut =
    (t : Settings) (ms : List Made) (m : Made) → AllByRecursion IsUnit ms
    → IsCut first_unit_place (stream_before t ms m) (texts_before t ms m) (Some (end_missing t ms m))

-- these bytes show the pictures in the order of delivery, all that waited among them, up to the missing end unit
abbrev pub ShowsAllBefore : Settings → List Made → Made → List ℕ → Type 0
ShowsAllBefore t ms m bytes =
    (o : Outcome) × IsShown bytes o × (o.shown ≡ in_delivery_order (keyed_reconstructions ms))
    × (o.end ≡ Some (end_missing t ms m))

-- the stream before a picture shows the pictures before it in the order of delivery, all that waited among them, up to
-- the missing end unit
abbrev pub StoppedStreamsShowTheirPictures : Type 0
StoppedStreamsShowTheirPictures =
    (t : Settings) (ms : List Made) (m : Made) → IsAccepted t → AreMade t [] ms → Begins ms
    → ShowsAllBefore t ms m (stream_before t ms m)

-- what an encoding of raw pictures writes that stops before a picture whose unit is too long shows the pictures before
-- it in the order of delivery, all that waited among them, up to the missing end unit
abbrev pub StoppedEncodingsShowTheirPictures : Type 0
StoppedEncodingsShowTheirPictures =
    (f : IndexRule) → GivesIndices f → (t : Settings) (bytes : List ℕ) (m : Made)
    → IsAccepted t → AllByRecursion (λ b. b < 2 ^ 8) bytes → first_long t (coding_under f t (sources t bytes)) ≡ Some m
    → ShowsAllBefore t (before_long t (coding_under f t (sources t bytes))) m (encoding_under f t bytes).stream
