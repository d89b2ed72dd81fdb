-- Taking the next unit of a source, and no byte beyond it.
-- Inner: for the proofs of this crate.
use Rattle.std.specs.Prelude.{◌≡◌, ℕ, ◌+◌, ◌<◌, ◌≤◌, Bool, if◌then◌else◌, List, [], length, Option, None, Some, IfSome}
use Rattle.std.specs.Prelude.{Ok, Err}
use Rattle.std.specs.Io.KnownBytes.{Consumes, IsAtEnd}
use Rattle.dirac_common.specs.declared.faults.Cause.TheVariants.{Truncated}
use Rattle.dirac_common.specs.declared.faults.Fault.{Fault}
use Rattle.dirac_units.specs.declared.info.ParseInfo.{ParseInfo}
use Rattle.dirac_units.specs.declared.unit_place.UnitPlace.{UnitPlace}
use Rattle.dirac_units.specs.declared.unit.Unit.{Unit}
use Rattle.dirac_units.specs.declared.take.NoUnit.{NoUnit}
use Rattle.dirac_units.specs.declared.take.NoUnit.TheVariants as none
use Rattle.dirac_units.specs.Info.{IsLawful, info_read, span_of}
use Rattle.dirac_units.specs.Cut.{fault_at, front_of, IsEndOfBytes}
use Rattle.dirac_units.specs.Progress.{IsFirstUnit, IsPartTaken}

-- a parse info was taken
abbrev pub TakesInfo : ParseInfo → Option (List ℕ) → Option (List ℕ) → Type 0
TakesInfo info held held' =
    (bytes : List ℕ) × (length bytes ≡ 13) × (info_read bytes ≡ Ok info) × Consumes held held' bytes

-- that many bytes were taken, and where they are kept they are the payload
abbrev pub TakesPayload : ℕ → Bool → List ℕ → Option (List ℕ) → Option (List ℕ) → Type 0
TakesPayload count keep payload held held' =
    (bytes : List ℕ) × (length bytes ≡ count) × (payload ≡ (if keep then bytes else [])) × Consumes held held' bytes

-- the input ends, or a read of it failed, behind fewer bytes of a payload; where memory was wanting some were taken
abbrev pub CutsPayload : NoUnit → UnitPlace → ℕ → Option (List ℕ) → Option (List ℕ) → Type 0
CutsPayload (none.End end) unit_place count held held' =
    (bytes : List ℕ) × (length bytes < count) × (end ≡ Some (fault_at unit_place (13 + length bytes) Truncated))
    × Consumes held held' bytes × IsAtEnd held'
CutsPayload none.ReadFault unit_place count held held' =
    (bytes : List ℕ) × (length bytes < count) × Consumes held held' bytes
CutsPayload none.NoMemory unit_place count held held' = (bytes : List ℕ) × Consumes held held' bytes

-- the unit that begins there was taken, and exactly what follows it is held
pub record TakesUnit (keep : Bool) (unit : Unit) (unit_place : UnitPlace) (held held' : Option (List ℕ)) : Type 0 where
  pub index : unit.index ≡ unit_place.index
  pub at : unit.at ≡ unit_place.at
  pub lawful : IsLawful unit.info
  pub short : length unit.payload + 13 ≤ span_of unit.info
  pub told : IfSome held (λ bytes. IsFirstUnit keep unit unit_place bytes held')

-- no whole unit begins there, but this end or fault does, also in what was taken; at the lawful end the source was
-- read to its end; where a read failed no whole unit was taken and no parse info refused, and where memory was wanting
-- some bytes were taken
abbrev pub TakesNone : NoUnit → UnitPlace → Option (List ℕ) → Option (List ℕ) → Type 0
TakesNone (none.End end) unit_place held held' =
    IfSome held (λ bytes. front_of unit_place bytes ≡ Err end) × (end ≡ None → IsAtEnd held')
    × IfSome held (λ bytes. IsPartTaken unit_place end bytes held')
TakesNone none.ReadFault unit_place held held' =
    IfSome held (λ bytes. (end : Option Fault) × IsPartTaken unit_place end bytes held' × IsEndOfBytes end)
TakesNone none.NoMemory unit_place held held' = (bytes : List ℕ) × Consumes held held' bytes
