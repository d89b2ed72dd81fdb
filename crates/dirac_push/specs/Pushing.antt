-- A decoder that bytes are sent to, and what its pictures say of the whole stream, whatever follows.
use Rattle.std.specs.Prelude.{◌≡◌, ℕ, ◌+◌, Bool, true, false, ◌-◌, ◌^◌, List, [], ◌∷◌, ◌++◌, drop, Option, None, Some}
use Rattle.std.specs.Prelude.{Result, Ok, Err, ⊤}
use Rattle.dirac_common.specs.declared.faults.Fault.{Fault}
use Rattle.dirac_common.specs.declared.faults.Refusal.{Refusal}
use Rattle.dirac_common.specs.declared.picture.Picture.{Picture}
use Rattle.dirac_sequence_header.specs.declared.sequence.Sequence.{Sequence}
use Rattle.dirac_units.specs.declared.unit.StreamEnd.{StreamEnd}
use Rattle.dirac_units.specs.declared.unit.StreamEnd.TheVariants as stream_end
use Rattle.dirac_units.specs.declared.unit_place.UnitPlace.{UnitPlace}
use Rattle.dirac_units.specs.Cut.{UnitText, after, front_of}
use Rattle.dirac_units.specs.Info.{span_of}
use Rattle.dirac_content.specs.declared.opened.Opened.{Opened}
use Rattle.dirac_decode.specs.Decoding.{ComesBehind, Decoding, decoder_begun}
use Rattle.dirac_content.specs.Leaving.{leaving}
use Rattle.dirac_content.specs.Shown.{IsShown}
use Rattle.dirac_decode.specs.Stepping.{FaultsAt, IsAtFront, IsFurther, IsWholeUnit, opened_sequence}
use Rattle.dirac_content.specs.StreamState.{StreamState, StreamStep, unit_step}
use Rattle.dirac_push.specs.declared.answer.Answer.{Answer}
use Rattle.dirac_push.specs.declared.answer.Answer.TheVariants as answers

-- a decoder, the bytes that were sent and not yet taken, how many more may be sent, whether none follows, the picture
-- that the last call gave, and the sequence that was opened last
pub record Pushed : Type 0 where
  pub decoder : Decoding
  pub there : List ℕ
  pub room : ℕ
  pub is_finished : Bool
  pub shown : Option Picture
  pub format : Option Sequence

-- before the first byte
abbrev pub push_begun : Pushed
push_begun = record {
  decoder = decoder_begun;
  there = [];
  room = 2 ^ 63 - 1;
  is_finished = false;
  shown = None;
  format = None;
}

-- of bytes sent or there those that are kept: all while units go on, none once an end, a fault or a stop was met
abbrev pub kept_bytes : StreamEnd → List ℕ → List ℕ
kept_bytes stream_end.Going bytes = bytes
kept_bytes stream_end.Ended bytes = []
kept_bytes (stream_end.Faulted fault) bytes = []
kept_bytes stream_end.Stopped bytes = []

-- the bytes there are just those that are kept, so none is once an end, a fault or a stop was met
abbrev pub HoldsJustKept : Pushed → Type 0
HoldsJustKept p = p.there ≡ kept_bytes p.decoder.stream_end p.there

-- these bytes may still be sent: none, once it was said that none follows
abbrev pub MayFollow : Pushed → List ℕ → Type 0
MayFollow p more = p.is_finished ≡ true → more ≡ []

-- these bytes were sent and these pictures given: whatever follows, what is then still to come came behind the pictures
pub record PushPasses (old new : Pushed) (sent : List ℕ) (given : List Picture) : Type 0 where
  pub leads : (more : List ℕ) → MayFollow new more
      → ComesBehind old.decoder new.decoder (Some (old.there ++ (sent ++ more))) (Some (new.there ++ more)) given
  pub finished : old.is_finished ≡ true → (new.is_finished ≡ true) × (sent ≡ [])

-- no picture and no fault is due, the next unit isn't there as a whole, and more bytes may follow
pub record NeedsMore (p : Pushed) : Type 0 where
  pub unfinished : p.is_finished ≡ false
  pub no_picture : p.decoder.due ≡ []
  pub going : p.decoder.stream_end ≡ stream_end.Going
  pub no_unit : IsWholeUnit p.there → ⊥

-- what an answer says of the decoder before and behind it
abbrev pub PushGives : Answer → Pushed → Pushed → Type 0
PushGives answers.Shown old new =
    (p : Picture) × (new.shown ≡ Some p) × PushPasses old new [] (p ∷ [])
    × (new.decoder.given ≡ old.decoder.given + 1) × (new.decoder.stream_end ≡ stream_end.Stopped → ⊥)
PushGives answers.Needs old new =
    PushPasses old new [] [] × (new.decoder.given ≡ old.decoder.given) × (new.shown ≡ None) × NeedsMore new
PushGives answers.End old new =
    PushPasses old new [] [] × (new.decoder.given ≡ old.decoder.given) × (new.shown ≡ None)
    × (new.decoder.stream_end ≡ stream_end.Ended) × (new.decoder.due ≡ [])
PushGives (answers.Fault fault) old new =
    PushPasses old new [] [] × (new.decoder.given ≡ old.decoder.given) × (new.shown ≡ None)
    × (new.decoder.stream_end ≡ stream_end.Faulted fault) × (new.decoder.due ≡ [])
PushGives answers.NoMemory old new =
    (new.decoder.given ≡ old.decoder.given) × (new.shown ≡ None) × (new.decoder.stream_end ≡ stream_end.Stopped)
PushGives answers.Stopped old new =
    (old.decoder.stream_end ≡ stream_end.Stopped) × (new ≡ record old { shown = None })

-- by what was met
abbrev pub RepeatsMet : StreamEnd → Answer → List Picture → Type 0 → Type 0
RepeatsMet stream_end.Going answer due Same = ⊤
RepeatsMet stream_end.Ended answer due Same = due ≡ [] → (answer ≡ answers.End) × Same
RepeatsMet (stream_end.Faulted fault) answer due Same = due ≡ [] → (answer ≡ answers.Fault fault) × Same
RepeatsMet stream_end.Stopped answer due Same = (answer ≡ answers.Stopped) × Same

-- once nothing is due, what was met is answered again and nothing changes but the picture shown; a stop at once
abbrev pub RepeatsAnswer : Answer → Pushed → Pushed → Type 0
RepeatsAnswer answer old new =
    RepeatsMet old.decoder.stream_end answer old.decoder.due (new ≡ record old { shown = None })

-- the sequence that is open is the one that was opened last
abbrev pub IsFormat : Option Opened → Option Sequence → Type 0
IsFormat None format = ⊤
IsFormat (Some o) format = format ≡ Some o.sequence

-- the sequence that is open, or the one before where none is
abbrev pub latest : Option Sequence → Option Sequence → Option Sequence
latest None before = before
latest (Some s) before = Some s

-- the sequence opened last behind a unit and those that follow it; nothing is taken behind one that is refused
abbrev pub opened_on : (StreamState → Option Sequence) → Option Sequence → Result StreamStep Refusal → Option Sequence
opened_on rest before (Ok m) = rest m.state
opened_on rest before (Err refusal) = before

-- the sequence opened last, while these units are taken
unfoldable pub opened_last : Option Sequence → StreamState → List UnitText → Option Sequence
opened_last before state [] = before
opened_last before state (unit ∷ units) =
    opened_on (λ next. opened_last (latest (opened_sequence next.opened) before) next units) before
    (unit_step state unit.info.code unit.payload)

-- these units stand at the front of these bytes, and each is accepted; behind them the state is this one, and these
-- bytes are left
abbrev pub AreTaken : UnitPlace → StreamState → List ℕ → List UnitText → UnitPlace → StreamState → List ℕ → Type 0
AreTaken unit_place state bytes [] unit_place' state' rest =
    (unit_place ≡ unit_place') × (state ≡ state') × (bytes ≡ rest)
AreTaken unit_place state bytes (unit ∷ units) unit_place' state' rest =
    (m : StreamStep) × IsAtFront unit unit_place bytes × (unit_step state unit.info.code unit.payload ≡ Ok m)
    × AreTaken (after unit_place unit.info) m.state (drop (span_of unit.info) bytes) units unit_place' state' rest

-- what was met behind the units that were taken: nothing yet, or that end or fault stands there; or memory was wanting,
-- and the state is what they brought
abbrev pub MeetsBehind : StreamEnd → Pushed → UnitPlace → StreamState → List ℕ → Type 0
MeetsBehind stream_end.Going new unit_place state rest =
    (unit_place ≡ new.decoder.units.unit_place) × (state ≡ new.decoder.state) × (rest ≡ new.there)
MeetsBehind stream_end.Ended new unit_place state rest = front_of unit_place rest ≡ Err None
MeetsBehind (stream_end.Faulted fault) new unit_place state rest = FaultsAt unit_place state fault rest
MeetsBehind stream_end.Stopped new unit_place state rest = state ≡ new.decoder.state

-- a call took just these units of the bytes there, none once something was met, and the format is that of the sequence
-- opened last among them; where it took one no picture was due, and none left with a unit before the last; where it met
-- the end, a fault or want of memory none was due and none left at all
pub record TakesUnits (old new : Pushed) : Type 0 where
  pub units : List UnitText
  pub unit_place : UnitPlace
  pub state : StreamState
  pub rest : List ℕ
  pub taken : AreTaken old.decoder.units.unit_place old.decoder.state old.there units unit_place state rest
  pub format : new.format ≡ opened_last old.format old.decoder.state units
  pub met : old.decoder.stream_end ≡ stream_end.Going → MeetsBehind new.decoder.stream_end new unit_place state rest
  pub still : (old.decoder.stream_end ≡ stream_end.Going → ⊥)
      → (units ≡ []) × (new.decoder.stream_end ≡ old.decoder.stream_end)
  pub up_to : (front : List UnitText) (last : UnitText) → units ≡ front ++ last ∷ []
      → old.decoder.due ++ leaving old.decoder.state front ≡ []
  pub none_left : old.decoder.stream_end ≡ stream_end.Going → (new.decoder.stream_end ≡ stream_end.Going → ⊥)
      → old.decoder.due ++ leaving old.decoder.state units ≡ []

-- a call took units and gave no picture: while units go on, those due before and those that left are due
-- Inner: for the proofs of this crate.
pub record TakesSilently (old new : Pushed) : Type 0 where
  pub takes : TakesUnits old new
  pub due : new.decoder.stream_end ≡ stream_end.Going
      → old.decoder.due ++ leaving old.decoder.state takes.units ≡ new.decoder.due

-- what one turn says: at `None` a unit was taken that showed nothing, or the end or a fault was met
abbrev pub TurnGives : Option Answer → Pushed → Pushed → Type 0
TurnGives None old new =
    PushPasses old new [] [] × (new.decoder.given ≡ old.decoder.given) × (new.shown ≡ None)
    × (old.decoder.stream_end ≡ stream_end.Going) × (new.decoder.stream_end ≡ stream_end.Stopped → ⊥)
    × IsFurther old.decoder new.decoder
TurnGives (Some answer) old new = PushGives answer old new

-- one call and then another
abbrev pub PassesOn : Type 0
PassesOn =
    (a b c : Pushed) (sent sent' : List ℕ) (given given' : List Picture)
    → PushPasses a b sent given → PushPasses b c sent' given' → PushPasses a c (sent ++ sent') (given ++ given')

-- from the first byte on: at the end the pictures given are those that the bytes sent show
abbrev pub ShowsToItsEnd : Type 0
ShowsToItsEnd =
    (p : Pushed) (sent : List ℕ) (given : List Picture)
    → PushPasses push_begun p sent given → p.decoder.due ≡ [] → p.decoder.stream_end ≡ stream_end.Ended
    → IsShown sent (record { shown = given; most = p.decoder.state.most; end = None })

-- and at a fault they and it are what the bytes sent show, whatever may follow
abbrev pub ShowsToItsFault : Type 0
ShowsToItsFault =
    (p : Pushed) (sent more : List ℕ) (given : List Picture) (fault : Fault)
    → PushPasses push_begun p sent given → p.decoder.due ≡ [] → p.decoder.stream_end ≡ stream_end.Faulted fault
    → MayFollow p more
    → IsShown (sent ++ more) (record { shown = given; most = p.decoder.state.most; end = Some fault })
