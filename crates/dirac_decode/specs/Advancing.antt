-- What one unit of a stream does to a decoder, whatever was given so far.
-- Inner: for the proofs of this crate.
use Rattle.std.specs.Prelude.{◌≡◌, ℕ, ◌<◌, Bool, true, false, List, [], ◌∷◌, Option, None, Some, IfSome}
use Rattle.std.specs.Prelude.{Result, Ok, Err, ⊤, ◌+◌}
use Rattle.std.specs.Io.KnownBytes.{append_known, prepend_known}
use Rattle.dirac_common.specs.declared.faults.Fault.{Fault}
use Rattle.dirac_common.specs.declared.faults.Refusal.{Refusal}
use Rattle.dirac_common.specs.declared.picture.Picture.{Picture}
use Rattle.dirac_units.specs.declared.unit.StreamEnd.{StreamEnd}
use Rattle.dirac_units.specs.declared.unit.StreamEnd.TheVariants as stream_end
use Rattle.dirac_units.specs.Cut.{front_of}
use Rattle.dirac_units.specs.declared.unit.Unit.{Unit}
use Rattle.dirac_units.specs.Progress.{CuttingProgress, Ends, GivesUnit, HoldsWhatFollows, TakesPart, TakesSome}
use Rattle.dirac_decode.specs.declared.answers.Next.{Next}
use Rattle.dirac_decode.specs.declared.answers.Next.TheVariants as next
use Rattle.dirac_decode.specs.declared.step.Halt.{Halt}
use Rattle.dirac_decode.specs.declared.step.Halt.TheVariants as halt
use Rattle.dirac_decode.specs.declared.step.Step.{Step}
use Rattle.dirac_decode.specs.declared.step.Turn.{Turn}
use Rattle.dirac_decode.specs.declared.step.Step.TheVariants as step
use Rattle.dirac_content.specs.StreamState.{StreamState, unit_step}
use Rattle.dirac_decode.specs.Stepping.{FaultsAt, IsThere, StepTakesUnit}
use Rattle.dirac_decode.specs.Decoding.{LeadsTo, decoding}
use Rattle.dirac_decode.specs.Taking.{IsTakenAs, made_by, shown_in}

-- the next unit was found, or this end or fault, or the search for it was stopped
abbrev pub FindsUnit : Result Unit Halt → CuttingProgress → CuttingProgress → Option (List ℕ) → Option (List ℕ) → Type 0
FindsUnit (Ok unit) units units' held held' =
    GivesUnit true unit units units' held held' × HoldsWhatFollows unit units held held'
    × (units'.stream_end ≡ stream_end.Going)
FindsUnit (Err halt.End) units units' held held' = Ends units held held' None
FindsUnit (Err (halt.Fault fault)) units units' held held' = Ends units held held' (Some fault)
FindsUnit (Err halt.ReadFault) units units' held held' = TakesPart units held held'
FindsUnit (Err halt.NoMemory) units units' held held' = TakesSome units held held'

-- the content of a unit is refused with this fault
pub record RefusesContent (unit : Unit) (state : StreamState) (fault : Fault) : Type 0 where
  pub refusal : Refusal
  pub content : unit_step state unit.info.code unit.payload ≡ Err refusal
  pub same : fault ≡ record { unit = unit.index; at = unit.at + refusal.at; cause = refusal.cause }

-- the content of a unit brings this step, or is refused with this fault; where memory was wanting the state stays
abbrev pub HasContent : Result Step Halt → Unit → StreamState → StreamState → Type 0
HasContent (Ok step) unit state state' =
    IsTakenAs (Ok step) (unit_step state unit.info.code unit.payload) state state'
HasContent (Err halt.End) unit state state' = ⊥
HasContent (Err (halt.Fault fault)) unit state state' = RefusesContent unit state fault × (state' ≡ state)
HasContent (Err halt.ReadFault) unit state state' = ⊥
HasContent (Err halt.NoMemory) unit state state' = state' ≡ state

-- from one place of a stream to another, at which the decoder drains or goes on, while these pictures leave
abbrev pub Brings : CuttingProgress → CuttingProgress → StreamState → StreamState → Option (List ℕ) → Option (List ℕ)
    → Bool
    → StreamEnd → List Picture → Type 0
Brings units units' state state' held held' drains stream_end' gone =
    (given given' : ℕ) → LeadsTo (decoding units state false given stream_end.Going)
    (decoding units' state' drains given' stream_end') held held' gone

-- what the content of the next unit, or the end or fault behind the last one, brings
abbrev pub Advances : Result Step Halt → CuttingProgress → CuttingProgress → StreamState → StreamState → Option (List ℕ)
    → Option (List ℕ) → Type 0
Advances (Ok step.On) units units' state state' held held' =
    Brings units units' state state' held held' false stream_end.Going []
Advances (Ok (step.Shown p)) units units' state state' held held' =
    Brings units units' state state' held held' false stream_end.Going (p ∷ [])
Advances (Ok step.Drains) units units' state state' held held' =
    Brings units units' state state' held held' true stream_end.Going []
Advances (Err halt.End) units units' state state' held held' =
    Brings units units' state state' held held' true stream_end.Ended []
Advances (Err (halt.Fault fault)) units units' state state' held held' =
    Brings units units' state state' held held' true (stream_end.Faulted fault) []
Advances (Err halt.ReadFault) units units' state state' held held' = ⊤
Advances (Err halt.NoMemory) units units' state state' held held' = ⊤

-- where the next unit is there, what its content, or the fault in its place, brings, whatever follows the bytes held
abbrev pub AdvancesBefore : Result Step Halt → CuttingProgress → CuttingProgress → StreamState → StreamState
    → Option (List ℕ)
    → Option (List ℕ) → Type 0
AdvancesBefore answer units units' state state' held held' =
    IsThere units held → (more : List ℕ)
    → Advances answer units units' state state' (append_known held more) (append_known held' more)

-- one unit was taken, whose content brings the step; or that end or fault stands next, or the taking was stopped, and
-- the state stays
abbrev pub TakesBy : Result Step Halt → CuttingProgress → CuttingProgress → StreamState → StreamState → Option (List ℕ)
    → Option (List ℕ) → Type 0
TakesBy (Ok step) units units' state state' held held' =
    IfSome (prepend_known units.ahead held) (λ bytes. StepTakesUnit units.unit_place units'.unit_place state
    (made_by step state') bytes (prepend_known units'.ahead held'))
TakesBy (Err halt.End) units units' state state' held held' =
    (state' ≡ state) × IfSome (prepend_known units.ahead held) (λ bytes. front_of units.unit_place bytes ≡ Err None)
TakesBy (Err (halt.Fault fault)) units units' state state' held held' =
    (state' ≡ state) × IfSome (prepend_known units.ahead held) (FaultsAt units.unit_place state fault)
TakesBy (Err halt.ReadFault) units units' state state' held held' = state' ≡ state
TakesBy (Err halt.NoMemory) units units' state state' held held' = state' ≡ state

-- a unit was passed, so the next one begins further on
abbrev pub GoesOn : Result Step Halt → CuttingProgress → CuttingProgress → Type 0
GoesOn (Ok step) units units' = (units'.stream_end ≡ stream_end.Going) × (units.unit_place.at < units'.unit_place.at)
GoesOn (Err halt) units units' = ⊤

-- how many pictures an answer gives
abbrev pub count_shown : Result Step Halt → ℕ
count_shown (Ok step) = shown_in step
count_shown (Err halt) = 0

-- what is answered at once: the picture that leaves, or why nothing more is taken
abbrev pub answered_at_once : Result Step Halt → Option Next
answered_at_once (Ok step.On) = None
answered_at_once (Ok (step.Shown p)) = Some (next.Shown p)
answered_at_once (Ok step.Drains) = None
answered_at_once (Err halt.End) = None
answered_at_once (Err (halt.Fault fault)) = None
answered_at_once (Err halt.ReadFault) = Some next.ReadFault
answered_at_once (Err halt.NoMemory) = Some next.NoMemory

-- whether all that wait leave: at the end of a sequence and of the stream, and at its first fault
abbrev pub all_leave : Result Step Halt → Bool
all_leave (Ok step.On) = false
all_leave (Ok (step.Shown p)) = false
all_leave (Ok step.Drains) = true
all_leave (Err halt.End) = true
all_leave (Err (halt.Fault fault)) = true
all_leave (Err halt.ReadFault) = false
all_leave (Err halt.NoMemory) = false

-- whether units go on, or the end, fault or stop that was met
abbrev pub met_by : Result Step Halt → StreamEnd
met_by (Ok step) = stream_end.Going
met_by (Err halt.End) = stream_end.Ended
met_by (Err (halt.Fault fault)) = stream_end.Faulted fault
met_by (Err halt.ReadFault) = stream_end.Stopped
met_by (Err halt.NoMemory) = stream_end.Stopped

-- what a decoder makes of what was taken
abbrev pub turn_by : Result Step Halt → Turn
turn_by taken = record {
  answer = answered_at_once taken;
  shown = count_shown taken;
  draining = all_leave taken;
  stream_end = met_by taken;
}

-- what is answered once this end, fault or stop was met and no picture is due
abbrev pub answer_by : StreamEnd → Next
answer_by stream_end.Going = next.Stopped
answer_by stream_end.Ended = next.End
answer_by (stream_end.Faulted fault) = next.Fault fault
answer_by stream_end.Stopped = next.Stopped
