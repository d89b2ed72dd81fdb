-- A decoder as its contracts see it, and what its answers say of the pictures that are still to come.
use Rattle.std.specs.Prelude.{◌≡◌, ℕ, ◌+◌, Bool, if◌then◌else◌, List, [], ◌∷◌, ◌++◌, Option, None, Some, IfSome, ⊤}
use Rattle.std.specs.Io.KnownBytes.{prepend_known}
use Rattle.dirac_common.specs.declared.faults.Fault.{Fault}
use Rattle.dirac_common.specs.declared.picture.Picture.{Picture}
use Rattle.dirac_units.specs.declared.unit.StreamEnd.{StreamEnd}
use Rattle.dirac_units.specs.declared.unit.StreamEnd.TheVariants as stream_end
use Rattle.dirac_units.specs.Cut.{IsCut, IsEndOfBytes, UnitText}
use Rattle.dirac_units.specs.declared.unit_place.UnitPlace.{UnitPlace}
use Rattle.dirac_units.specs.Progress.{CuttingProgress, TakesSome, cutting_begun}
use Rattle.dirac_refs.specs.Delivery.{flushed}
use Rattle.dirac_decode.specs.declared.answers.Next.{Next}
use Rattle.dirac_decode.specs.declared.answers.Next.TheVariants as next
use Rattle.dirac_content.specs.declared.tally.Tally.{Tally}
use Rattle.dirac_content.specs.StreamState.{StreamState, stream_begun}
use Rattle.dirac_content.specs.Shown.{Outcome, Shows, accepted, with_front}
use Rattle.dirac_content.specs.Leaving.{leaving}

-- a decoder: the units cut so far, the state that their content brought, pictures that leave before the next unit is
-- read, how many were given, and the end, fault or stop that was met
pub record Decoding : Type 0 where
  pub units : CuttingProgress
  pub state : StreamState
  pub due : List Picture
  pub given : ℕ
  pub stream_end : StreamEnd

-- a decoder before the first unit of its stream
abbrev pub decoder_begun : Decoding
decoder_begun =
    record { units = cutting_begun; state = stream_begun; due = []; given = 0; stream_end = stream_end.Going }

-- the state of a stream once no picture waits
abbrev pub emptied : StreamState → StreamState
emptied state = record state { waiting = [] }

-- while a decoder drains, all that wait are due
abbrev pub due_of : Bool → StreamState → List Picture
due_of draining state = if draining then flushed state.waiting else []

-- a decoder by its parts
abbrev pub decoding : CuttingProgress → StreamState → Bool → ℕ → StreamEnd → Decoding
decoding units state draining given stream_end = record {
  units = units;
  state = if draining then emptied state else state;
  due = due_of draining state;
  given = given;
  stream_end = stream_end;
}

-- what comes behind the due pictures: the rest of the stream, or what was met
abbrev pub Remains : StreamEnd → StreamState → CuttingProgress → Option (List ℕ) → Outcome → Type 0
Remains stream_end.Going state units held o =
    IfSome (prepend_known units.ahead held) (λ bytes. Shows state units.unit_place bytes o)
Remains stream_end.Ended state units held o = o ≡ record { shown = []; most = state.most; end = None }
Remains (stream_end.Faulted fault) state units held o = o ≡ record { shown = []; most = state.most; end = Some fault }
Remains stream_end.Stopped state units held o = ⊥

-- what is still to come of a decoder: the due pictures, and behind them the rest of the stream, or what was met
pub record Comes (d : Decoding) (held : Option (List ℕ)) (o : Outcome) : Type 0 where
  pub rest : Outcome
  pub same : o ≡ with_front d.due rest
  pub remains : Remains d.stream_end d.state d.units held rest

-- what comes behind the due pictures of just these bytes: what they show, or what was met
abbrev pub RemainsIn : StreamEnd → StreamState → UnitPlace → List ℕ → Outcome → Type 0
RemainsIn stream_end.Going state unit_place bytes o = Shows state unit_place bytes o
RemainsIn stream_end.Ended state unit_place bytes o = o ≡ record { shown = []; most = state.most; end = None }
RemainsIn (stream_end.Faulted fault) state unit_place bytes o =
    o ≡ record { shown = []; most = state.most; end = Some fault }
RemainsIn stream_end.Stopped state unit_place bytes o = ⊥

-- what is still to come of a decoder and just these bytes: the due pictures, and behind them what the bytes show, or
-- what was met
pub record ComesIn (d : Decoding) (bytes : List ℕ) (o : Outcome) : Type 0 where
  pub rest : Outcome
  pub same : o ≡ with_front d.due rest
  pub remains : RemainsIn d.stream_end d.state d.units.unit_place bytes rest

-- of these bytes some were read and just the others are held; what comes of those read, by themselves, and while units
-- are taken whatever follows them, comes behind these pictures
pub record BringsAlone (old new : Decoding) (bytes : List ℕ) (known : Option (List ℕ)) (given : List Picture)
    : Type 0 where
  pub read : List ℕ
  pub rest : List ℕ
  pub parts : bytes ≡ read ++ rest
  pub holds : known ≡ Some rest
  pub still : (old.stream_end ≡ stream_end.Going → ⊥) → read ≡ []
  pub alone : (behind : List ℕ) → ((new.stream_end ≡ stream_end.Going → ⊥) → behind ≡ []) → (o : Outcome)
      → ComesIn new behind o → ComesIn old (read ++ behind) (with_front given o)

-- of these bytes whole units were read between two decoders and just the others are held, while these pictures were
-- given: what follows is cut behind those units, which are all accepted, and what leaves behind them is given behind
-- these pictures
pub record Passed (old new : Decoding) (bytes : List ℕ) (known : Option (List ℕ)) (given : List Picture) : Type 0 where
  pub read : List ℕ
  pub rest : List ℕ
  pub units : List UnitText
  pub parts : bytes ≡ read ++ rest
  pub holds : known ≡ Some rest
  pub cut : (behind : List ℕ) (more : List UnitText) (end : Option Fault)
      → IsCut new.units.unit_place behind more end → IsCut old.units.unit_place (read ++ behind) (units ++ more) end
  pub accepts : (more : List UnitText) → accepted old.state (units ++ more) ≡ units ++ accepted new.state more
  pub leaves : (more : List UnitText)
      → old.due ++ leaving old.state (units ++ more) ≡ given ++ (new.due ++ leaving new.state more)

-- whatever is still to come of the new decoder was still to come of the old one, behind these pictures
abbrev pub ComesBehind : Decoding → Decoding → Option (List ℕ) → Option (List ℕ) → List Picture → Type 0
ComesBehind old new held held' given = (o : Outcome) → Comes new held' o → Comes old held (with_front given o)

-- whatever is still to come of the new decoder was still to come of the old one, behind these pictures, also what comes
-- of the bytes read alone; while units are taken, whole ones were read meanwhile
pub record LeadsTo (old new : Decoding) (held held' : Option (List ℕ)) (given : List Picture) : Type 0 where
  pub comes : ComesBehind old new held held' given
  pub going : new.stream_end ≡ stream_end.Going → old.stream_end ≡ stream_end.Going
  pub passed : new.stream_end ≡ stream_end.Going → IfSome (prepend_known old.units.ahead held)
      (λ bytes. Passed old new bytes (prepend_known new.units.ahead held') given)
  pub alone : IfSome (prepend_known old.units.ahead held)
      (λ bytes. BringsAlone old new bytes (prepend_known new.units.ahead held') given)

-- of these bytes some were read and just the others are held; the whole units of those read are all accepted, no parse
-- info behind them is refused, and no picture leaves while they are taken
pub record BreaksIn (old : Decoding) (bytes : List ℕ) (held' : Option (List ℕ)) : Type 0 where
  pub read : List ℕ
  pub rest : List ℕ
  pub parts : bytes ≡ read ++ rest
  pub holds : held' ≡ Some rest
  pub units : List UnitText
  pub end : Option Fault
  pub cut : IsCut old.units.unit_place read units end
  pub bytes_end : IsEndOfBytes end
  pub accepts : accepted old.state units ≡ units
  pub none_due : old.due ++ leaving old.state units ≡ []

-- a decoder is stopped while it takes units
pub record BreaksOff (old : Decoding) (held held' : Option (List ℕ)) : Type 0 where
  pub going : old.stream_end ≡ stream_end.Going
  pub told : IfSome (prepend_known old.units.ahead held) (λ bytes. BreaksIn old bytes held')

-- memory was wanting while units were taken: some bytes were read, and just the others are held
abbrev pub StopsIn : Decoding → Option (List ℕ) → Option (List ℕ) → Type 0
StopsIn old held held' = (old.stream_end ≡ stream_end.Going) × TakesSome old.units held held'

-- what an answer says of the decoder before and behind it
abbrev pub Gives : Next → Decoding → Decoding → Option (List ℕ) → Option (List ℕ) → Type 0
Gives (next.Shown p) old new held held' =
    LeadsTo old new held held' (p ∷ []) × (new.given ≡ old.given + 1)
    × (new.stream_end ≡ stream_end.Stopped → old.stream_end ≡ stream_end.Stopped)
Gives next.End old new held held' =
    LeadsTo old new held held' [] × (new.stream_end ≡ stream_end.Ended) × (new.due ≡ []) × (new.given ≡ old.given)
Gives (next.Fault fault) old new held held' =
    LeadsTo old new held held' [] × (new.stream_end ≡ stream_end.Faulted fault) × (new.due ≡ [])
    × (new.given ≡ old.given)
Gives next.ReadFault old new held held' = (new.stream_end ≡ stream_end.Stopped) × (new.given ≡ old.given)
Gives next.NoMemory old new held held' = (new.stream_end ≡ stream_end.Stopped) × (new.given ≡ old.given)
Gives next.Stopped old new held held' = (old.stream_end ≡ stream_end.Stopped) × (new ≡ old)

-- an end or a fault is answered again once nothing is due, and a stop at once
abbrev pub AnswersWhatWasMet : StreamEnd → List Picture → Next → Type 0
AnswersWhatWasMet stream_end.Going due answer = ⊤
AnswersWhatWasMet stream_end.Ended due answer = due ≡ [] → answer ≡ next.End
AnswersWhatWasMet (stream_end.Faulted fault) due answer = due ≡ [] → answer ≡ next.Fault fault
AnswersWhatWasMet stream_end.Stopped due answer = answer ≡ next.Stopped

-- where pictures are due and the decoder wasn't stopped, the first of them is given and the others stay due; nothing
-- else changes but how many were given
abbrev pub GivesDue : Next → Decoding → Decoding → Type 0
GivesDue answer old new =
    (p : Picture) (rest : List Picture) → (old.stream_end ≡ stream_end.Stopped → ⊥) → old.due ≡ p ∷ rest
    → (answer ≡ next.Shown p) × (new ≡ record old { due = rest; given = old.given + 1 })

-- the number of pictures given, and the greatest length of a reference list
abbrev pub tally : Decoding → Tally
tally d = record { pictures = d.given; references = d.state.most }
