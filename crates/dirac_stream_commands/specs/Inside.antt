-- Where the fault lies that a run answers.
use Rattle.std.specs.Prelude.{ℕ, List, ⊤}
use Rattle.dirac_reading_laws.specs.Places.{LiesIn}
use Rattle.dirac_command_line.specs.declared.ended.Ended.{Ended}
use Rattle.dirac_command_line.specs.declared.ended.Ended.TheVariants as ended

-- a fault of the stream lies in the bytes that the source held, in one of their units or right behind it, or behind the
-- last
abbrev pub IsFaultInside : Ended → List ℕ → Type 0
IsFaultInside (ended.Fault fault) bytes = LiesIn bytes fault
IsFaultInside answer bytes = ⊤
