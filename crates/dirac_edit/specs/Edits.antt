-- What cutting and joining answer and write.
use Rattle.std.specs.Prelude.{◌≡◌, ℕ, List, [], Option, None, Some, option_map, ⊤}
use Rattle.std.specs.Option.{option_or}
use Rattle.std.specs.Io.KnownBytes.{Appends, Keeps}
use Rattle.dirac_common.specs.declared.faults.Fault.{Fault}
use Rattle.dirac_io.specs.Writing.{AppendsFront}
use Rattle.dirac_units.specs.Cut.{UnitText}
use Rattle.dirac_content.specs.Raw.{raws}
use Rattle.dirac_content.specs.Shown.{IsShown, Outcome}
use Rattle.dirac_edit_laws.specs.Cut.{cut_bytes, end_point, open_cut, part_shown, wrong_point}
use Rattle.dirac_edit_laws.specs.Joined.{joined_bytes}
use Rattle.dirac_edit_laws.specs.Laws.{ShowsJust}
use Rattle.dirac_edit_laws.specs.Texts.{points_of}
use Rattle.dirac_edit.specs.declared.answers.Edited.{Edited}
use Rattle.dirac_edit.specs.declared.answers.Edited.TheVariants as edited

-- why a cut is refused: the first fault of the stream, else a number that is no point, else an open unit
abbrev pub cut_refusal : Option Fault → List UnitText → ℕ → Option ℕ → Option Edited
cut_refusal fault units from to =
    option_or (option_map edited.Fault fault)
    (option_or (option_map edited.NoSuchPoint (wrong_point from to (points_of units)))
    (option_map edited.OpenCut (open_cut units from (end_point to (points_of units)))))

-- what may be written: nothing where it is refused
abbrev pub written_unless_refused : Option Edited → List ℕ → List ℕ
written_unless_refused None bytes = bytes
written_unless_refused (Some answer) bytes = []

-- what an answer says of why nothing is written, of what is else written whole, and of what a sink took
abbrev pub AnswersEdit : Edited → Option Edited → List ℕ → Option (List ℕ) → Option (List ℕ) → Type 0
AnswersEdit edited.Done refusal bytes out out' = (refusal ≡ None) × Appends out out' bytes
AnswersEdit (edited.Fault fault) refusal bytes out out' = (refusal ≡ Some (edited.Fault fault)) × Keeps out out'
AnswersEdit (edited.NoSuchPoint n) refusal bytes out out' = (refusal ≡ Some (edited.NoSuchPoint n)) × Keeps out out'
AnswersEdit (edited.OpenCut n) refusal bytes out out' = (refusal ≡ Some (edited.OpenCut n)) × Keeps out out'
AnswersEdit edited.ReadFault refusal bytes out out' = Keeps out out'
AnswersEdit edited.WriteFault refusal bytes out out' = (refusal ≡ None) × AppendsFront out out' bytes
AnswersEdit edited.NoMemory refusal bytes out out' = AppendsFront out out' (written_unless_refused refusal bytes)

-- the answer and what was written are those of the cut of these bytes
abbrev pub IsCutBy : List ℕ → ℕ → Option ℕ → Edited → Option (List ℕ) → Option (List ℕ) → Type 0
IsCutBy bytes from to answer out out' =
    (o : Outcome) × (stream : IsShown bytes o)
    × AnswersEdit answer (cut_refusal o.end stream.units from to)
    (cut_bytes stream.units from (end_point to (points_of stream.units))) out out'

-- the cut of these bytes has no fault, and shows just the pictures of the part as these bytes rebuild them
abbrev pub ShowsPart : List ℕ → ℕ → Option ℕ → Type 0
ShowsPart bytes from to =
    (o : Outcome) × (stream : IsShown bytes o)
    × ShowsJust (cut_bytes stream.units from (end_point to (points_of stream.units)))
    (part_shown stream.units from (end_point to (points_of stream.units)))

-- a fact, where the answer says that nothing was written
abbrev pub IfUnwritten : Edited → Type 0 → Type 0
IfUnwritten edited.Done P = ⊤
IfUnwritten (edited.Fault fault) P = P
IfUnwritten (edited.NoSuchPoint n) P = P
IfUnwritten (edited.OpenCut n) P = P
IfUnwritten edited.ReadFault P = P
IfUnwritten edited.WriteFault P = ⊤
IfUnwritten edited.NoMemory P = ⊤

-- why a joining is refused: the first fault of the stream
abbrev pub join_refusal : Option Fault → Option Edited
join_refusal fault = option_map edited.Fault fault

-- the answer and what was written are those of the joining of these bytes
abbrev pub IsJoinedBy : List ℕ → Edited → Option (List ℕ) → Option (List ℕ) → Type 0
IsJoinedBy bytes answer out out' =
    (o : Outcome) × (stream : IsShown bytes o)
    × AnswersEdit answer (join_refusal o.end) (joined_bytes stream.units) out out'

-- these bytes, joined, have no fault, and show the raw pictures of these bytes, in order
abbrev pub JoinedShowsSame : List ℕ → Type 0
JoinedShowsSame bytes =
    (o : Outcome) × (stream : IsShown bytes o) × (o' : Outcome) × IsShown (joined_bytes stream.units) o'
    × (raws o'.shown ≡ raws o.shown) × (o'.end ≡ None)

-- the answers of a joining
abbrev pub IsAnswerOfJoining : Edited → Type 0
IsAnswerOfJoining edited.Done = ⊤
IsAnswerOfJoining (edited.Fault fault) = ⊤
IsAnswerOfJoining (edited.NoSuchPoint n) = ⊥
IsAnswerOfJoining (edited.OpenCut n) = ⊥
IsAnswerOfJoining edited.ReadFault = ⊤
IsAnswerOfJoining edited.WriteFault = ⊤
IsAnswerOfJoining edited.NoMemory = ⊤
