-- What `join` answers and writes.
use Rattle.std.specs.Prelude.{◌≡◌, ℕ, List, Option, IfSome, ⊤}
use Rattle.std.specs.Io.KnownBytes.{IsAtEnd}
use Rattle.dirac_edit.specs.declared.answers.Edited.{Edited}
use Rattle.dirac_edit.specs.declared.answers.Edited.TheVariants as edited
use Rattle.dirac_edit.specs.Edits.{IsJoinedBy, JoinedShowsSame}
use Rattle.dirac_command_line.specs.declared.ended.Ended.{Ended}
use Rattle.dirac_command_line.specs.declared.ended.Ended.TheVariants as ended
use Rattle.dirac_stream_commands.specs.Cutting.{ended_of_edit}
use Rattle.dirac_stream_commands.specs.Inside.{IsFaultInside}

-- the answers that `join` may give, of whatever source: none names a point or an open unit
abbrev pub IsJoinAnswer : Ended → Type 0
IsJoinAnswer ended.Done = ⊤
IsJoinAnswer (ended.Fault fault) = ⊤
IsJoinAnswer ended.ReadFault = ⊤
IsJoinAnswer ended.WriteFault = ⊤
IsJoinAnswer ended.NoMemory = ⊤
IsJoinAnswer _ = ⊥

-- `join`: the sequences of the bytes held, joined; what was written shows the same raw pictures
pub record Joins (held held' out out' : Option (List ℕ)) (answer : Ended) : Type 0 where
  pub how : Edited
  pub ends : answer ≡ ended_of_edit how
  pub answers : IsJoinAnswer answer
  pub joined : IfSome held (λ bytes. IsJoinedBy bytes how out out')
  pub shows : IfSome held (λ bytes. how ≡ edited.Done → JoinedShowsSame bytes)
  pub whole : answer ≡ ended.Done → IsAtEnd held'
  pub fault_inside : IfSome held (IsFaultInside answer)
