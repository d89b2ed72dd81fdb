-- What one step of a decoder gives: at most one unit is taken, and it may show nothing.
use Rattle.std.specs.Prelude.{◌≡◌, ℕ, ◌+◌, ◌<◌, ◌≤◌, ◌⊎◌, List, [], ◌∷◌, ◌++◌, length, take, drop, slice_range, Option}
use Rattle.std.specs.Prelude.{None, Some, Ok, Err, IfOk, IfSome}
use Rattle.std.specs.Io.KnownBytes.{append_known, prepend_known}
use Rattle.dirac_common.specs.declared.faults.Fault.{Fault}
use Rattle.dirac_common.specs.declared.faults.Refusal.{Refusal}
use Rattle.dirac_common.specs.declared.picture.Picture.{Picture}
use Rattle.dirac_sequence_header.specs.declared.sequence.Sequence.{Sequence}
use Rattle.dirac_units.specs.declared.info.ParseInfo.{ParseInfo}
use Rattle.dirac_units.specs.declared.unit.StreamEnd.{StreamEnd}
use Rattle.dirac_units.specs.declared.unit.StreamEnd.TheVariants as stream_end
use Rattle.dirac_units.specs.declared.unit_place.UnitPlace.{UnitPlace}
use Rattle.dirac_units.specs.Cut.{UnitText, after, fault_at, front_of}
use Rattle.dirac_units.specs.Info.{info_read, span_of}
use Rattle.dirac_units.specs.Progress.{CuttingProgress}
use Rattle.dirac_refs.specs.Delivery.{flushed}
use Rattle.dirac_decode.specs.declared.answers.Next.{Next}
use Rattle.dirac_decode.specs.declared.answers.Next.TheVariants as next
use Rattle.dirac_content.specs.declared.opened.Opened.{Opened}
use Rattle.dirac_decode.specs.Decoding.{Decoding, Gives, LeadsTo, Passed, emptied}
use Rattle.dirac_content.specs.StreamState.{StreamState, StreamStep, unit_step}

-- a parse info stands at the front of these bytes, and where it isn't refused its whole unit does
pub record IsWholeUnit (bytes : List ℕ) : Type 0 where
  pub header : 13 ≤ length bytes
  pub payload : IfOk (info_read (take 13 bytes)) (λ (info : ParseInfo). span_of info ≤ length bytes)

-- the next unit of a decoder is there, whatever follows the bytes that its source holds
abbrev pub IsThere : CuttingProgress → Option (List ℕ) → Type 0
IsThere units held = IfSome (prepend_known units.ahead held) IsWholeUnit

-- a unit was taken, or nothing is taken any more
abbrev pub IsFurther : Decoding → Decoding → Type 0
IsFurther old new = new.stream_end ≡ stream_end.Going → old.units.unit_place.at < new.units.unit_place.at

-- what an answer says of the decoder before and behind a step; where none is given no picture left with the unit
abbrev pub StepGives : Option Next → Decoding → Decoding → Option (List ℕ) → Option (List ℕ) → Type 0
StepGives None old new held held' =
    LeadsTo old new held held' [] × (old.stream_end ≡ stream_end.Going)
    × (new.stream_end ≡ stream_end.Stopped → ⊥) × (new.given ≡ old.given) × IsFurther old new
StepGives (Some next) old new held held' = Gives next old new held held'

-- what an answer says of the decoder before and behind a step, whatever follows the bytes held
abbrev pub StepGivesBefore : Option Next → Decoding → Decoding → Option (List ℕ) → Option (List ℕ) → Type 0
StepGivesBefore answer old new held held' =
    (more : List ℕ) → StepGives answer old new (append_known held more) (append_known held' more)

-- this unit stands at the front of these bytes
abbrev pub IsAtFront : UnitText → UnitPlace → List ℕ → Type 0
IsAtFront unit unit_place bytes =
    (front_of unit_place bytes ≡ Ok unit.info) × (unit.payload ≡ slice_range bytes 13 (span_of unit.info))

-- the unit at the front of these bytes was taken, and just what follows it is held: its content brought this
pub record StepTakesUnit (unit_place unit_place' : UnitPlace) (state : StreamState) (made : StreamStep) (bytes : List ℕ)
    (known : Option (List ℕ)) : Type 0 where
  pub unit : UnitText
  pub front : IsAtFront unit unit_place bytes
  pub holds : known ≡ Some (drop (span_of unit.info) bytes)
  pub next : unit_place' ≡ after unit_place unit.info
  pub content : unit_step state unit.info.code unit.payload ≡ Ok made

-- the content of the unit at the front of these bytes is refused with this fault
pub record RefusesUnit (unit_place : UnitPlace) (state : StreamState) (fault : Fault) (bytes : List ℕ) : Type 0 where
  pub unit : UnitText
  pub refusal : Refusal
  pub front : IsAtFront unit unit_place bytes
  pub content : unit_step state unit.info.code unit.payload ≡ Err refusal
  pub same : fault ≡ fault_at unit_place refusal.at refusal.cause

-- this fault stands at the front of these bytes in place of a unit, or its content is refused with it
abbrev pub FaultsAt : UnitPlace → StreamState → Fault → List ℕ → Type 0
FaultsAt unit_place state fault bytes =
    (front_of unit_place bytes ≡ Err (Some fault)) ⊎ RefusesUnit unit_place state fault bytes

-- the picture that an answer gives
abbrev pub given_by : Option Next → List Picture
given_by None = []
given_by (Some (next.Shown p)) = p ∷ []
given_by (Some next.End) = []
given_by (Some (next.Fault fault)) = []
given_by (Some next.ReadFault) = []
given_by (Some next.NoMemory) = []
given_by (Some next.Stopped) = []

-- all pictures that waited are due, and otherwise the state of the decoder stays
abbrev pub DrainsAll : Decoding → Decoding → Type 0
DrainsAll old new = (new.state ≡ emptied old.state) × (new.due ≡ flushed old.state.waiting)

-- what a step does by what it met: it took one unit, and what leaves at it was given or is due; or that end or fault
-- stands next, and none was given; or it was stopped, the state stays, and none was given or is due
abbrev pub TakesAs : StreamEnd → Option Next → Decoding → Decoding → Option (List ℕ) → Option (List ℕ) → Type 0
TakesAs stream_end.Going answer old new held held' =
    IfSome (prepend_known old.units.ahead held)
    (λ bytes. StepTakesUnit old.units.unit_place new.units.unit_place old.state
    (record { state = new.state; gone = given_by answer ++ new.due }) bytes (prepend_known new.units.ahead held'))
TakesAs stream_end.Ended answer old new held held' =
    DrainsAll old new
    × IfSome (prepend_known old.units.ahead held) (λ bytes. front_of old.units.unit_place bytes ≡ Err None)
    × (given_by answer ≡ [])
TakesAs (stream_end.Faulted fault) answer old new held held' =
    DrainsAll old new × IfSome (prepend_known old.units.ahead held) (FaultsAt old.units.unit_place old.state fault)
    × (given_by answer ≡ [])
TakesAs stream_end.Stopped answer old new held held' =
    (new.state ≡ old.state) × (new.due ≡ []) × (given_by answer ≡ [])

-- a step takes at most one unit: none while a picture is due, which it gives, nor once something was met
pub record TakesOne (answer : Option Next) (old new : Decoding) (held held' : Option (List ℕ)) : Type 0 where
  pub due : (p : Picture) (rest : List Picture) → (old.stream_end ≡ stream_end.Stopped → ⊥) → old.due ≡ p ∷ rest
      → (answer ≡ Some (next.Shown p)) × (new ≡ record old { due = rest; given = old.given + 1 }) × (held' ≡ held)
  pub met : (old.stream_end ≡ stream_end.Going → ⊥) → old.due ≡ [] → new ≡ old
  pub unit : old.stream_end ≡ stream_end.Going → old.due ≡ [] → TakesAs new.stream_end answer old new held held'

-- a call took units one behind another, and gave no picture before it answered this: whole units, each accepted and
-- none of them one with which a picture left, up to a decoder that goes on and at which none is due; and behind these
-- what one step takes, the pictures of which were given or are due
pub record TakesUpTo (answer : Option Next) (old new : Decoding) (held held' : Option (List ℕ)) : Type 0 where
  pub before : Decoding
  pub known : Option (List ℕ)
  pub going : before.stream_end ≡ stream_end.Going
  pub none_due : before.due ≡ []
  pub passed : IfSome (prepend_known old.units.ahead held)
      (λ bytes. Passed old before bytes (prepend_known before.units.ahead known) [])
  pub step : TakesAs new.stream_end None before (record new { due = given_by answer ++ new.due }) known held'

-- a due picture left, and nothing else changed; or none is due
abbrev pub DueGives : Option Picture → Decoding → Decoding → Type 0
DueGives (Some p) old new =
    (old.due ≡ p ∷ new.due) × (new ≡ record old { due = new.due; given = old.given + 1 })
DueGives None old new = (old.due ≡ []) × (new ≡ old)

-- the sequence that is open, where one is
abbrev pub opened_sequence : Option Opened → Option Sequence
opened_sequence None = None
opened_sequence (Some o) = Some o.sequence
