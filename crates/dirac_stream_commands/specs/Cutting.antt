-- What `cut` answers and writes.
use Rattle.std.specs.Prelude.{◌≡◌, ℕ, List, Option, IfSome, ⊤}
use Rattle.std.specs.Io.KnownBytes.{IsAtEnd}
use Rattle.dirac_edit.specs.declared.answers.Edited.{Edited}
use Rattle.dirac_edit.specs.declared.answers.Edited.TheVariants as edited
use Rattle.dirac_edit.specs.Edits.{IsCutBy, ShowsPart}
use Rattle.dirac_command_line.specs.declared.ended.Ended.{Ended}
use Rattle.dirac_command_line.specs.declared.ended.Ended.TheVariants as ended
use Rattle.dirac_stream_commands.specs.Inside.{IsFaultInside}

-- how a run ends that edits a stream
abbrev pub ended_of_edit : Edited → Ended
ended_of_edit edited.Done = ended.Done
ended_of_edit (edited.Fault fault) = ended.Fault fault
ended_of_edit (edited.NoSuchPoint n) = ended.NoSuchPoint n
ended_of_edit (edited.OpenCut n) = ended.OpenCut n
ended_of_edit edited.ReadFault = ended.ReadFault
ended_of_edit edited.WriteFault = ended.WriteFault
ended_of_edit edited.NoMemory = ended.NoMemory

-- `cut`: from point `from` up to point `to`, of the bytes held; what was written of it shows its pictures
pub record Cuts (from : ℕ) (to : Option ℕ) (held held' out out' : Option (List ℕ)) (answer : Ended) : Type 0 where
  pub how : Edited
  pub ends : answer ≡ ended_of_edit how
  pub cut : IfSome held (λ bytes. IsCutBy bytes from to how out out')
  pub shows : IfSome held (λ bytes. how ≡ edited.Done → ShowsPart bytes from to)
  pub whole : answer ≡ ended.Done → IsAtEnd held'
  pub fault_inside : IfSome held (IsFaultInside answer)

-- the answers that `cut` may give, of whatever source
abbrev pub IsCutAnswer : Ended → Type 0
IsCutAnswer ended.Done = ⊤
IsCutAnswer (ended.Fault fault) = ⊤
IsCutAnswer (ended.NoSuchPoint n) = ⊤
IsCutAnswer (ended.OpenCut n) = ⊤
IsCutAnswer ended.ReadFault = ⊤
IsCutAnswer ended.WriteFault = ⊤
IsCutAnswer ended.NoMemory = ⊤
IsCutAnswer _ = ⊥

-- a fact, where the answer says that nothing was written
abbrev pub IfUnwrittenBy : Ended → Type 0 → Type 0
IfUnwrittenBy (ended.NoSuchPoint n) P = P
IfUnwrittenBy (ended.OpenCut n) P = P
IfUnwrittenBy (ended.Fault fault) P = P
IfUnwrittenBy ended.ReadFault P = P
IfUnwrittenBy _ P = ⊤
