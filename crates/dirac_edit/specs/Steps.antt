-- What the steps of a cut and a joining answer.
-- Inner: for the proofs of this crate.
use Rattle.std.specs.Prelude.{◌≡◌, ℕ, List, Option, None, Some, ⊤, Result, Ok, Err}
use Rattle.dirac_io.specs.declared.sink.Unwritten.{Unwritten}
use Rattle.dirac_io.specs.declared.sink.Unwritten.TheVariants as unwritten
use Rattle.dirac_units.specs.Cut.{UnitText}
use Rattle.dirac_content.specs.Shown.{IsShown, Outcome}
use Rattle.dirac_edit_laws.specs.Cut.{end_point, part_of}
use Rattle.dirac_edit_laws.specs.Texts.{SequenceText, points_of, sequences, with_pictures}
use Rattle.dirac_edit.specs.declared.answers.Edited.{Edited}
use Rattle.dirac_edit.specs.declared.answers.Edited.TheVariants as edited
use Rattle.dirac_edit.specs.Edits.{ShowsPart, JoinedShowsSame, cut_refusal, join_refusal}

-- the answer where the writing ended so
abbrev pub ended_as : Result (Unit {0}) Unwritten → Edited
ended_as (Ok all) = edited.Done
ended_as (Err unwritten.Failed) = edited.WriteFault
ended_as (Err unwritten.NoMemory) = edited.NoMemory

-- the answers of a reading that stopped
abbrev pub StopsReading : Edited → Type 0
StopsReading edited.Done = ⊥
StopsReading (edited.Fault fault) = ⊥
StopsReading (edited.NoSuchPoint n) = ⊥
StopsReading (edited.OpenCut n) = ⊥
StopsReading edited.ReadFault = ⊤
StopsReading edited.WriteFault = ⊥
StopsReading edited.NoMemory = ⊤

-- the stream of these bytes has no fault
abbrev pub HasNoFault : List ℕ → Type 0
HasNoFault bytes = (o : Outcome) × IsShown bytes o × (o.end ≡ None)

-- this answer is why nothing is written, or memory was wanting
abbrev pub IsReason : Edited → Option Edited → Type 0
IsReason edited.Done refusal = ⊥
IsReason (edited.Fault fault) refusal = refusal ≡ Some (edited.Fault fault)
IsReason (edited.NoSuchPoint n) refusal = refusal ≡ Some (edited.NoSuchPoint n)
IsReason (edited.OpenCut n) refusal = refusal ≡ Some (edited.OpenCut n)
IsReason edited.ReadFault refusal = ⊥
IsReason edited.WriteFault refusal = ⊥
IsReason edited.NoMemory refusal = ⊤

-- the first fault of the stream of these bytes is the answer, or memory was wanting
abbrev pub IsStreamRefused : List ℕ → Edited → Type 0
IsStreamRefused bytes (edited.Fault fault) = (o : Outcome) × IsShown bytes o × (o.end ≡ Some fault)
IsStreamRefused bytes edited.NoMemory = (o : Outcome) × IsShown bytes o
IsStreamRefused bytes _ = ⊥

-- a stream without a fault, and its units
pub record IsChecked (bytes : List ℕ) (units : List UnitText) : Type 0 where
  pub outcome : Outcome
  pub stream : IsShown bytes outcome
  pub none : outcome.end ≡ None
  pub same : stream.units ≡ units

-- a cut of these bytes isn't refused, and has the pictures of these sequences
pub record IsCutPart (bytes : List ℕ) (from : ℕ) (to : Option ℕ) (part : List SequenceText) : Type 0 where
  pub outcome : Outcome
  pub stream : IsShown bytes outcome
  pub allowed : cut_refusal outcome.end stream.units from to ≡ None
  pub shows : ShowsPart bytes from to
  pub same : with_pictures part ≡ part_of from (end_point to (points_of stream.units)) stream.units

-- a cut of these bytes is refused by this answer, or memory was wanting
pub record RefusesCut (bytes : List ℕ) (from : ℕ) (to : Option ℕ) (answer : Edited) : Type 0 where
  pub outcome : Outcome
  pub stream : IsShown bytes outcome
  pub reason : IsReason answer (cut_refusal outcome.end stream.units from to)

-- these bytes have no fault and show the same when they're joined, and these are their sequences
pub record IsJoinable (bytes : List ℕ) (all : List SequenceText) : Type 0 where
  pub outcome : Outcome
  pub stream : IsShown bytes outcome
  pub allowed : join_refusal outcome.end ≡ None
  pub shows : JoinedShowsSame bytes
  pub same : all ≡ sequences stream.units

-- a joining of these bytes is refused by this answer, or memory was wanting
pub record RefusesJoin (bytes : List ℕ) (answer : Edited) : Type 0 where
  pub outcome : Outcome
  pub stream : IsShown bytes outcome
  pub reason : IsReason answer (join_refusal outcome.end)
