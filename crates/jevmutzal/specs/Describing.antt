-- What C is told of a picture, of a fault and of a sequence.
use Rattle.std.specs.Prelude.{◌≡◌, ℕ, ℤ, ◌==◌, Bool, if◌then◌else◌, List, length, Option, None, Some, ◌⊎◌}
use Rattle.dirac_common.specs.declared.faults.Fault.{Fault}
use Rattle.dirac_common.specs.declared.formats.Chroma.{Chroma}
use Rattle.dirac_common.specs.declared.formats.Chroma.TheVariants.{C420, C422, C444}
use Rattle.dirac_common.specs.declared.picture.Picture.{Picture}
use Rattle.dirac_common.specs.Table.{Table}
use Rattle.dirac_sequence_header.specs.declared.sequence.Sequence.{Sequence}
use Rattle.dirac_push.specs.declared.answer.Answer.{Answer}
use Rattle.dirac_push.specs.declared.answer.Answer.TheVariants as answers
use Rattle.dirac_push.specs.Laid.{HasRoom, IsLaid}
use Rattle.dirac_push.specs.Pushing.{PushGives, Pushed, RepeatsAnswer, TakesUnits}
use Rattle.jevmutzal.specs.declared.codes.TheConstants.{NO_PICTURE, OK, SMALL, UNKNOWN}
use Rattle.jevmutzal.specs.declared.structs.Format.{Format}
use Rattle.jevmutzal.specs.declared.structs.Frame.{Frame}
use Rattle.jevmutzal.specs.Numbers.{number_of_answer, number_of_cause}

-- neither a picture nor a fault
abbrev pub empty_frame : Frame
empty_frame = record {
  number = 0;
  width = 0;
  height = 0;
  chroma_width = 0;
  chroma_height = 0;
  cause = 0;
  unit = 0;
  at = 0;
}

-- a picture's number and the sizes of its planes
abbrev pub picture_frame : Picture → Frame
picture_frame p = record empty_frame {
  number = p.number;
  width = p.y.width;
  height = p.y.height;
  chroma_width = p.u.width;
  chroma_height = p.u.height;
}

-- a fault's cause and place
abbrev pub fault_frame : Fault → Frame
fault_frame fault =
    record empty_frame { cause = number_of_cause fault.cause; unit = fault.unit; at = fault.at }

-- what is told of a picture, where there is one
abbrev pub shown_frame : Option Picture → Frame
shown_frame None = empty_frame
shown_frame (Some p) = picture_frame p

-- what is told of an answer
abbrev pub frame_told : Answer → Option Picture → Frame
frame_told answers.Shown shown = shown_frame shown
frame_told answers.Needs shown = empty_frame
frame_told answers.End shown = empty_frame
frame_told (answers.Fault fault) shown = fault_frame fault
frame_told answers.NoMemory shown = empty_frame
frame_told answers.Stopped shown = empty_frame

-- a number and a frame tell an answer that the decoder gave; the end, a fault and a stop are told again; no unit was
-- taken while a picture could be given, and the format is that of the sequence opened last among those taken; whether
-- the stream was finished stays, and how many bytes may still be sent
abbrev pub TellsNext : ℤ → Frame → Pushed → Pushed → Type 0
TellsNext code frame old new =
    (answer : Answer) × (code ≡ number_of_answer answer) × (frame ≡ frame_told answer new.shown)
    × PushGives answer old new × RepeatsAnswer answer old new × TakesUnits old new
    × (new.is_finished ≡ old.is_finished) × (new.room ≡ old.room)

-- the number of a chroma format, as sequence headers have it
abbrev pub chroma_number : Chroma → ℕ
chroma_number C444 = 0
chroma_number C422 = 1
chroma_number C420 = 2

-- a truth as a number
abbrev pub bit_of : Bool → ℕ
bit_of b = if b then 1 else 0

-- what is told of a sequence
abbrev pub format_told : Sequence → Format
format_told s = record {
  width = s.width;
  height = s.height;
  chroma = chroma_number s.chroma;
  interlaced = bit_of s.interlaced;
  fields = bit_of s.fields;
  base = s.base;
  rate_numerator = s.rate.0;
  rate_denominator = s.rate.1;
  aspect_numerator = s.aspect.0;
  aspect_denominator = s.aspect.1;
  luma_offset = s.luma.0;
  luma_excursion = s.luma.1;
  chroma_offset = s.colour.0;
  chroma_excursion = s.colour.1;
  clean_width = s.clean.0;
  clean_height = s.clean.1;
  clean_left = s.clean.2;
  clean_top = s.clean.3;
}

-- a number and a format tell the sequence, where one is known; else the format stays
abbrev pub TellsFormat : Option Sequence → ℤ → Format → Format → Type 0
TellsFormat None code old new = (code ≡ NO_PICTURE) × (new ≡ old)
TellsFormat (Some s) code old new = (code ≡ OK) × (new ≡ format_told s)

-- the planes of a picture by number: Y, U, V
abbrev pub plane_numbered : Picture → ℕ → Option Table
plane_numbered p number =
    if number == 0 then Some p.y else if number == 1 then Some p.u else if number == 2 then Some p.v else None

-- a plane stands in the buffer at this stride and nothing else was touched; or there is no room, and nothing was
abbrev pub CopiesPlane : Option Table → ℤ → ℕ → List ℕ → List ℕ → Type 0
CopiesPlane None code stride old new = (code ≡ UNKNOWN) × (new ≡ old)
CopiesPlane (Some t) code stride old new =
    (code ≡ OK) × HasRoom t (length old) stride × IsLaid t stride old new
    ⊎ (code ≡ SMALL) × (HasRoom t (length old) stride → ⊥) × (new ≡ old)

-- that of the picture that was given last, where there is one
abbrev pub CopiesShown : Option Picture → ℕ → ℤ → ℕ → List ℕ → List ℕ → Type 0
CopiesShown None number code stride old new = (code ≡ NO_PICTURE) × (new ≡ old)
CopiesShown (Some p) number code stride old new = CopiesPlane (plane_numbered p number) code stride old new
