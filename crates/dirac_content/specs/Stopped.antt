-- What stopped a reader of a unit's content.
use Rattle.std.specs.Prelude.{⊤}
use Rattle.dirac_common.specs.declared.faults.Refusal.{Refusal}
use Rattle.dirac_common.specs.declared.faults.Stop.{Stop}
use Rattle.dirac_common.specs.declared.faults.Stop.TheVariants as stop

-- a fact on the refusal that stopped a reader, where it is one
abbrev pub IfStopped : Stop → (Refusal → Type 0) → Type 0
IfStopped (stop.Refused refusal) P = P refusal
IfStopped stop.NoMemory P = ⊤
