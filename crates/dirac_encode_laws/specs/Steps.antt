-- One picture of a stream that is coded while pictures still come, and the end of a stream.
use Rattle.std.specs.Prelude.{◌≡◌, ℕ, ◌+◌, ◌==◌, if◌then◌else◌, true, false, List, [], ◌∷◌, ◌++◌, Option, ⊤, ◌⊎◌}
use Rattle.std.specs.Io.KnownBytes.{Appends, Keeps}
use Rattle.dirac_io.specs.Writing.{AppendsFront}
use Rattle.dirac_common.specs.declared.picture.Picture.{Picture}
use Rattle.dirac_types.specs.declared.settings.Settings.{Settings}
use Rattle.dirac_refs.specs.declared.waiting.Waiting.{Waiting}
use Rattle.dirac_refs.specs.Delivery.{Leaving, delivered, flushed}
use Rattle.dirac_content.specs.Raw.{raws}
use Rattle.dirac_encode_laws.specs.declared.answers.Encoded.{Encoded}
use Rattle.dirac_encode_laws.specs.declared.answers.Encoded.TheVariants as encoded
use Rattle.dirac_encode_laws.specs.Coding.{Made, refs_after, waiting_of}
use Rattle.dirac_encode_laws.specs.Encoding.{is_short}
use Rattle.dirac_encode_laws.specs.Stream.{end_unit, header_before, header_length, header_unit, picture_length}
use Rattle.dirac_encode_laws.specs.Stream.{picture_unit}

-- what is coded of a stream so far: how many pictures, the length of the last unit, the listed references, and the
-- reconstructions that wait for delivery
pub record Progress : Type 0 where
  pub count : ℕ
  pub previous : ℕ
  pub refs : List Picture
  pub delivery : List Waiting

-- the units of one picture: a sequence header before an intra picture, and its own
abbrev pub picture_units : Settings → ℕ → Made → List ℕ
picture_units t previous m = header_before t m previous ++ picture_unit t m previous

-- the units at the end: where no picture was coded a sequence header stands before the end unit
abbrev pub last_units : Settings → ℕ → ℕ → List ℕ
last_units t count previous =
    if count == 0 then header_unit t 0 ++ end_unit (header_length t) else end_unit previous

-- what leaves when the reconstruction of a picture joins those that wait
abbrev pub leaving_with : Made → List Waiting → Leaving
leaving_with m waiting = delivered (waiting ++ waiting_of m ∷ [])

-- a picture was coded: its units are written, and what left is delivered
pub record IsCoded (t : Settings) (m : Made) (old new : Progress) (out out' side side' : Option (List ℕ)) : Type 0 where
  pub short : is_short t m ≡ true
  pub count : new.count ≡ old.count + 1
  pub previous : new.previous ≡ picture_length m
  pub refs : new.refs ≡ refs_after old.refs m
  pub waiting : new.delivery ≡ (leaving_with m old.delivery).waiting
  pub written : Appends out out' (picture_units t old.previous m)
  pub delivered : Appends side side' (raws (leaving_with m old.delivery).gone)

-- a picture's unit is too long: the sequence header before it alone is written
pub record IsTooLong (t : Settings) (m : Made) (number : ℕ) (old : Progress)
    (out out' side side' : Option (List ℕ)) : Type 0 where
  pub same : number ≡ m.coded.header.number
  pub long : is_short t m ≡ false
  pub written : Appends out out' (header_before t m old.previous)
  pub kept : Keeps side side'

-- a fault or want of memory in a picture: in its sequence header or behind it, or once its unit was found short enough
abbrev pub PictureBreaksOff : Settings → Made → Progress →
    Option (List ℕ) → Option (List ℕ) → Option (List ℕ) → Option (List ℕ) → Type 0
PictureBreaksOff t m old out out' side side' =
    (AppendsFront out out' (header_before t m old.previous) × Keeps side side')
    ⊎ ((is_short t m ≡ true) × AppendsFront out out' (picture_units t old.previous m)
    × AppendsFront side side' (raws (leaving_with m old.delivery).gone))

-- a stream was ended: the last units are written, and all that waited is delivered
pub record IsEnded (t : Settings) (old : Progress) (out out' side side' : Option (List ℕ)) : Type 0 where
  pub written : Appends out out' (last_units t old.count old.previous)
  pub delivered : Appends side side' (raws (flushed old.delivery))

-- the end of a stream broke off: a front of the last units is written, and a front of all that waited is delivered
pub record EndsEarly (t : Settings) (old : Progress) (out out' side side' : Option (List ℕ)) : Type 0 where
  pub written : AppendsFront out out' (last_units t old.count old.previous)
  pub delivered : AppendsFront side side' (raws (flushed old.delivery))

-- what is coded of a stream before its first picture: nothing
abbrev pub no_progress : Progress
no_progress = record { count = 0; previous = 0; refs = []; delivery = [] }

-- why a picture isn't coded
abbrev pub StopsPicture : Settings → Made → Progress → Encoded →
    Option (List ℕ) → Option (List ℕ) → Option (List ℕ) → Option (List ℕ) → Type 0
StopsPicture t m old (encoded.UnitTooLong number) out out' side side' = IsTooLong t m number old out out' side side'
StopsPicture t m old encoded.WriteFault out out' side side' = PictureBreaksOff t m old out out' side side'
StopsPicture t m old encoded.SideFault out out' side side' = PictureBreaksOff t m old out out' side side'
StopsPicture t m old encoded.NoMemory out out' side side' = PictureBreaksOff t m old out out' side side'
StopsPicture t m old answer out out' side side' = ⊥

-- a fault of a sink, or want of memory
abbrev pub IsFault : Encoded → Type 0
IsFault encoded.WriteFault = ⊤
IsFault encoded.SideFault = ⊤
IsFault encoded.NoMemory = ⊤
IsFault answer = ⊥

-- a fault of a sink, want of memory, or a unit that is too long
abbrev pub StopsCoding : Encoded → Type 0
StopsCoding (encoded.UnitTooLong number) = ⊤
StopsCoding answer = IsFault answer
