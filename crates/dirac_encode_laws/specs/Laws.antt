-- What holds of the streams of all sources.
use Rattle.std.specs.Prelude.{◌≡◌, ℕ, ◌+◌, ◌<◌, ◌^◌, ◌*◌, true, List, [], ◌∷◌, length, None, Ok}
use Rattle.std.specs.List.{AllByRecursion}
use Rattle.dirac_common.specs.declared.picture.Picture.{Picture}
use Rattle.dirac_types.specs.declared.settings.Settings.{Settings}
use Rattle.dirac_common.specs.Limits.{IsIndex}
use Rattle.dirac_types.specs.Settings.{IsAccepted}
use Rattle.dirac_sequence.specs.Written.{sequence_of}
use Rattle.dirac_refs.specs.Delivery.{in_delivery_order}
use Rattle.dirac_picture.specs.Grammar.{are_listed, is_intra, picture_read}
use Rattle.dirac_encode_laws.specs.Payloads.{payload_of}
use Rattle.dirac_content.specs.Content.{rebuilt}
use Rattle.dirac_content.specs.Shown.{Outcome, IsShown}
use Rattle.dirac_sources.specs.Sources.{sources}
use Rattle.dirac_encode_laws.specs.Coded.{IsSource, coded_of, motion_of, residual_of}
use Rattle.dirac_encode_laws.specs.Coding.{AreAtIndexZero, IndexRule, Job, Made, coding, coding_under, jobs_of, made}
use Rattle.dirac_encode_laws.specs.Coding.{made_under, keyed_reconstructions, reconstructions, reconstructions_under}
use Rattle.dirac_encode_laws.specs.Coding.{refs_after}
use Rattle.dirac_encode_laws.specs.Encoding.{IsRecovered, IsRecoveredUnder, first_long}
use Rattle.dirac_encode_laws.specs.Codable.{ResidualIsSmall}
use Rattle.dirac_encode_laws.specs.Stream.{IsUnit, picture_length, stream_from, stream_of, stream_under}
use Rattle.dirac_plan_laws.specs.Headers.{IsPlanned, header_of}

-- a picture whose payload is read as it was coded and rebuilt as it is shown, with these pictures listed
pub record IsMade (t : Settings) (refs : List Picture) (m : Made) : Type 0 where
  pub fits : IsUnit m
  pub found : are_listed refs m.coded.header ≡ true
  pub read : picture_read m.coded.code (sequence_of t) refs m.payload ≡ Ok m.coded
  pub shows : m.shown ≡ rebuilt (sequence_of t) refs m.coded

-- coded pictures, each of which is read as it was coded and rebuilt as it is shown, with what is listed by then
abbrev pub AreMade : Settings → List Picture → List Made → Type 0
AreMade t refs [] = Unit {0}
AreMade t refs (m ∷ ms) = IsMade t refs m × AreMade t (refs_after refs m) ms

-- the first of these coded pictures is an intra picture of number 0
abbrev pub Begins : List Made → Type 0
Begins [] = Unit {0}
Begins (m ∷ ms) = (is_intra m.coded.code ≡ true) × (m.coded.header.number ≡ 0)

-- a stream shows its pictures in the order of delivery, and has no fault
abbrev pub StreamsShowTheirPictures : Type 0
StreamsShowTheirPictures =
    (t : Settings) (ms : List Made) → IsAccepted t → AreMade t [] ms → Begins ms
    → (o : Outcome) × IsShown (stream_from t ms) o × (o.shown ≡ in_delivery_order (keyed_reconstructions ms))
    × (o.end ≡ None)

-- a planned source whose references are found is read as it was coded
abbrev pub JobsAreRead : Type 0
JobsAreRead =
    (t : Settings) (refs : List Picture) (j : Job)
    → IsAccepted t → AllByRecursion (IsSource t) refs → IsSource t j.source → IsPlanned j.planned
    → are_listed refs (header_of j.planned) ≡ true → picture_length (made t refs j) < 2 ^ 32
    → picture_read j.planned.code (sequence_of t) refs (payload_of t (coded_of t refs j.planned j.source))
    ≡ Ok (coded_of t refs j.planned j.source)

-- the coded coefficients of a planned source whose references are found stay below 2^38
abbrev pub JobsAreSmall : Type 0
JobsAreSmall =
    (t : Settings) (refs : List Picture) (j : Job)
    → IsAccepted t → AllByRecursion (IsSource t) refs → IsSource t j.source → IsPlanned j.planned
    → are_listed refs (header_of j.planned) ≡ true
    → ResidualIsSmall (residual_of t refs (header_of j.planned) (motion_of t refs j.planned j.source) j.source)

-- each plane of a picture has as many samples as its sizes tell
pub record IsWholePicture (p : Picture) : Type 0 where
  pub y : length p.y.values ≡ p.y.width * p.y.height
  pub u : length p.u.values ≡ p.u.width * p.u.height
  pub v : length p.v.values ≡ p.v.width * p.v.height

-- at index 0 a planned source with its number is shown again
abbrev pub JobsAreKept : Type 0
JobsAreKept =
    (t : Settings) (refs : List Picture) (j : Job) → IsAccepted t → IsSource t j.source → IsWholePicture j.source
    → IsPlanned j.planned → are_listed refs (header_of j.planned) ≡ true → j.source.number ≡ j.planned.number
    → t.index ≡ 0 → (made t refs j).shown ≡ j.source

-- these pictures are numbered one after another, from this number on
abbrev pub AreNumbered : ℕ → List Picture → Type 0
AreNumbered n [] = Unit {0}
AreNumbered n (p ∷ pictures) = (p.number ≡ n) × AreNumbered (n + 1) pictures

-- fewer than 2^31 sources of accepted settings, whose units have lengths that their offsets can hold
pub record AreSources (t : Settings) (pictures : List Picture) : Type 0 where
  pub accepted : IsAccepted t
  pub below_2_31 : length pictures < 2 ^ 31
  pub each : AllByRecursion (IsSource t) pictures
  pub short : AllByRecursion (λ m. picture_length m < 2 ^ 32) (coding t pictures)

-- with the settings' index the stream of sources has no fault, and shows their reconstructions by number
abbrev pub SourcesShowReconstructions : Type 0
SourcesShowReconstructions =
    (t : Settings) (pictures : List Picture) → AreSources t pictures
    → (o : Outcome) × IsShown (stream_of t pictures) o × (o.shown ≡ reconstructions t pictures) × (o.end ≡ None)

-- at index 0 the reconstructions of sources that are numbered from 0 on are the sources themselves
abbrev pub SourcesAreKept : Type 0
SourcesAreKept =
    (t : Settings) (pictures : List Picture) → AreSources t pictures
    → AreNumbered 0 pictures → AllByRecursion IsWholePicture pictures → t.index ≡ 0 → reconstructions t pictures
    ≡ pictures

-- raw pictures are recovered from their stream where no unit is longer than the settings allow
abbrev pub RawPicturesAreRecovered : Type 0
RawPicturesAreRecovered =
    (t : Settings) (bytes : List ℕ) → IsAccepted t → AllByRecursion (λ b. b < 2 ^ 8) bytes
    → first_long t (coding t (sources t bytes)) ≡ None → IsRecovered t bytes

-- ---- under a rule for the indices

-- a rule that gives each picture a quantiser index
abbrev pub GivesIndices : IndexRule → Type 0
GivesIndices f = (t : Settings) (refs : List Picture) (j : Job) → IsAccepted t → IsIndex (f t refs j)

-- a planned source whose references are found is read as it was coded under a rule
abbrev pub JobsAreReadUnder : Type 0
JobsAreReadUnder =
    (f : IndexRule) → GivesIndices f → (t : Settings) (refs : List Picture) (j : Job)
    → IsAccepted t → AllByRecursion (IsSource t) refs → IsSource t j.source → IsPlanned j.planned
    → are_listed refs (header_of j.planned) ≡ true → picture_length (made_under f t refs j) < 2 ^ 32
    → IsMade t refs (made_under f t refs j)

-- fewer than 2^31 sources of accepted settings, whose units under a rule have lengths that their offsets can hold
pub record AreSourcesUnder (f : IndexRule) (t : Settings) (pictures : List Picture) : Type 0 where
  pub accepted : IsAccepted t
  pub below_2_31 : length pictures < 2 ^ 31
  pub each : AllByRecursion (IsSource t) pictures
  pub short : AllByRecursion (λ m. picture_length m < 2 ^ 32) (coding_under f t pictures)

-- under a rule for the indices the stream of sources has no fault, and shows their reconstructions by number
abbrev pub SourcesShowReconstructionsUnder : Type 0
SourcesShowReconstructionsUnder =
    (f : IndexRule) → GivesIndices f → (t : Settings) (pictures : List Picture) → AreSourcesUnder f t pictures
    → (o : Outcome) × IsShown (stream_under f t pictures) o
    × (o.shown ≡ reconstructions_under f t pictures) × (o.end ≡ None)

-- where a rule gives each source index 0, the reconstructions of sources that are numbered from 0 on are the sources
-- themselves
abbrev pub SourcesAreKeptUnder : Type 0
SourcesAreKeptUnder =
    (f : IndexRule) → GivesIndices f → (t : Settings) (pictures : List Picture) → AreSourcesUnder f t pictures
    → AreNumbered 0 pictures → AllByRecursion IsWholePicture pictures
    → AreAtIndexZero f t [] (jobs_of t pictures) → reconstructions_under f t pictures ≡ pictures

-- under a rule for the indices raw pictures are recovered from their stream where no unit is longer than the settings
-- allow
abbrev pub RawPicturesAreRecoveredUnder : Type 0
RawPicturesAreRecoveredUnder =
    (f : IndexRule) → GivesIndices f → (t : Settings) (bytes : List ℕ)
    → IsAccepted t → AllByRecursion (λ b. b < 2 ^ 8) bytes
    → first_long t (coding_under f t (sources t bytes)) ≡ None → IsRecoveredUnder f t bytes
