-- The pictures of a stream, sequence by sequence: those that are pushed, and that they are shown in the order of
-- delivery.
use Rattle.std.specs.Prelude.{◌≡◌, ◌≢◌, ◌==◌, ◌&&◌, not, if◌then◌else◌, List, [], ◌∷◌, ◌++◌, Option, None, Some, Result}
use Rattle.std.specs.Prelude.{Ok, Err}
use Rattle.std.specs.List.{All}
use Rattle.dirac_common.specs.declared.faults.Fault.{Fault}
use Rattle.dirac_common.specs.declared.faults.Refusal.{Refusal}
use Rattle.dirac_common.specs.declared.picture.Picture.{Picture}
use Rattle.dirac_common.specs.declared.codes.TheConstants.{END_OF_SEQUENCE, SEQUENCE_HEADER}
use Rattle.dirac_units.specs.declared.unit_place.UnitPlace.{UnitPlace}
use Rattle.dirac_units.specs.Cut.{UnitText}
use Rattle.dirac_units.specs.Info.{fields_are_read}
use Rattle.dirac_refs.specs.declared.waiting.Waiting.{Waiting}
use Rattle.dirac_refs.specs.Delivery.{flushed, key_of, pushed_all}
use Rattle.dirac_picture.specs.declared.coded.CodedPicture.{CodedPicture}
use Rattle.dirac_picture.specs.Grammar.{picture_read}
use Rattle.dirac_content.specs.declared.opened.Opened.{Opened}
use Rattle.dirac_content.specs.Content.{rebuilt}
use Rattle.dirac_content.specs.StreamState.{StreamState, StreamStep, first_or, unit_step}
use Rattle.dirac_content.specs.Shown.{accepted, outcome}

-- a picture with its key
abbrev pub waiting_as : StreamState → Picture → Waiting
waiting_as state p = record { key = key_of (first_or state.first p.number) p.number; picture = p }

-- the picture that was read of a unit, rebuilt, with its key; where it is refused, none
abbrev pub pushed_of : StreamState → Opened → Result CodedPicture Refusal → List Waiting
pushed_of state o (Ok coded) = waiting_as state (rebuilt o.sequence state.list coded) ∷ []
pushed_of state o (Err refusal) = []

-- the picture of a unit of the open sequence
abbrev pub pushed_in : StreamState → Option Opened → UnitText → List Waiting
pushed_in state None unit = []
pushed_in state (Some o) unit = pushed_of state o (picture_read unit.info.code o.sequence state.list unit.payload)

-- the picture of a unit, where it has one
abbrev pub pushed_by : StreamState → UnitText → List Waiting
pushed_by state unit =
    if fields_are_read unit.info.code && not (unit.info.code == SEQUENCE_HEADER) then pushed_in state state.opened unit
    else []

-- a unit's picture and those behind it; a unit that is refused has none, and none is behind it
abbrev pub pushed_on : List Waiting → (StreamState → List Waiting) → Result StreamStep Refusal → List Waiting
pushed_on ws rest (Ok m) = ws ++ rest m.state
pushed_on ws rest (Err refusal) = []

-- the pictures of these units, in coding order, with their keys
unfoldable pub pushed : StreamState → List UnitText → List Waiting
pushed state [] = []
pushed state (unit ∷ units) =
    pushed_on (pushed_by state unit) (λ next. pushed next units) (unit_step state unit.info.code unit.payload)

-- pictures in the order of delivery, behind those that wait already, the rest at the end
abbrev pub flushed_behind : List Waiting → List Waiting → List Picture
flushed_behind waiting ws = let all = pushed_all waiting ws in all.gone ++ flushed all.waiting

-- units of one sequence: none of them ends it
abbrev pub AreOfOneSequence : List UnitText → Type 0
AreOfOneSequence units = All (λ (unit : UnitText). unit.info.code ≢ END_OF_SEQUENCE) units

-- up to the end of the stream or a fault a sequence shows its pictures in the order of delivery
abbrev pub LastIsFlushed : Type 0
LastIsFlushed =
    (state : StreamState) (unit_place : UnitPlace) (units : List UnitText) (end : Option Fault) → AreOfOneSequence units
    → (outcome state unit_place units end).shown ≡ flushed_behind state.waiting (pushed state units)

-- a state between sequences
pub record IsBetween (state : StreamState) : Type 0 where
  pub opened : state.opened ≡ None
  pub first : state.first ≡ None
  pub list : state.list ≡ []
  pub waiting : state.waiting ≡ []

-- what is shown behind an end unit begins a new sequence
pub record ShowsBehind (shown front : List Picture) (units : List UnitText) (end : Option Fault) : Type 0 where
  pub state : StreamState
  pub unit_place : UnitPlace
  pub between : IsBetween state
  pub shows : shown ≡ front ++ (outcome state unit_place units end).shown

-- a sequence that is accepted up to its end unit shows its pictures in the order of delivery, and the rest follows
abbrev pub EachIsFlushed : Type 0
EachIsFlushed =
    (state : StreamState) (unit_place : UnitPlace) (units rest : List UnitText) (last : UnitText) (end : Option Fault)
    → AreOfOneSequence units → accepted state units ≡ units → last.info.code ≡ END_OF_SEQUENCE
    → ShowsBehind (outcome state unit_place (units ++ last ∷ rest) end).shown
    (flushed_behind state.waiting (pushed state units)) rest end
