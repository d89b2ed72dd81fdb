-- What `list` answers and writes.
use Rattle.std.specs.Prelude.{◌≡◌, ℕ, List, ◌++◌, Option, None, Some, ⊤}
use Rattle.std.specs.Io.KnownBytes.{Appends}
use Rattle.dirac_io.specs.Writing.{AppendsFront}
use Rattle.dirac_common.specs.declared.faults.Fault.{Fault}
use Rattle.dirac_units.specs.Cut.{UnitText, first_unit_place, IsCut, IsEndOfBytes}
use Rattle.dirac_command_line.specs.declared.ended.Ended.{Ended}
use Rattle.dirac_command_line.specs.declared.ended.Ended.TheVariants as ended
use Rattle.dirac_stream_commands.specs.Line.{lines}

-- what an answer says, where the cutting has this end or fault and all its lines are this text
abbrev pub AnswersList : Ended → Option Fault → List ℕ → Option (List ℕ) → Option (List ℕ) → Type 0
AnswersList ended.Done end text out out' = (end ≡ None) × Appends out out' text
AnswersList (ended.Fault fault) end text out out' = (end ≡ Some fault) × Appends out out' text
AnswersList ended.ReadFault end text out out' = AppendsFront out out' text
AnswersList ended.WriteFault end text out out' = AppendsFront out out' text
AnswersList ended.NoMemory end text out out' = AppendsFront out out' text
AnswersList _ end text out out' = ⊥

-- the lines of the one cut of the bytes, and its end or fault
abbrev pub IsListed : List ℕ → Ended → Option (List ℕ) → Option (List ℕ) → Type 0
IsListed bytes answer out out' =
    (units : List UnitText) × (end : Option Fault) × IsCut first_unit_place bytes units end
    × AnswersList answer end (lines first_unit_place units) out out'

-- of these bytes some were read and just the others are held, and of the lines of the units in those read a sink took a
-- front
pub record IsFrontListed (bytes : List ℕ) (held' out out' : Option (List ℕ)) : Type 0 where
  pub read : List ℕ
  pub rest : List ℕ
  pub parts : bytes ≡ read ++ rest
  pub holds : held' ≡ Some rest
  pub units : List UnitText
  pub end : Option Fault
  pub cut : IsCut first_unit_place read units end
  pub listed : AppendsFront out out' (lines first_unit_place units)

-- of these bytes some were read and just the others are held, and a sink took the lines of all units in those read, of
-- which no parse info is refused
pub record IsReadListed (bytes : List ℕ) (held' out out' : Option (List ℕ)) : Type 0 where
  pub read : List ℕ
  pub rest : List ℕ
  pub parts : bytes ≡ read ++ rest
  pub holds : held' ≡ Some rest
  pub units : List UnitText
  pub end : Option Fault
  pub cut : IsCut first_unit_place read units end
  pub bytes_end : IsEndOfBytes end
  pub listed : Appends out out' (lines first_unit_place units)

-- the answers that `list` may give, of whatever source
abbrev pub IsListAnswer : Ended → Type 0
IsListAnswer ended.Done = ⊤
IsListAnswer (ended.Fault fault) = ⊤
IsListAnswer ended.ReadFault = ⊤
IsListAnswer ended.WriteFault = ⊤
IsListAnswer ended.NoMemory = ⊤
IsListAnswer _ = ⊥
