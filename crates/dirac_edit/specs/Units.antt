-- The units of bytes that stand in memory.
-- Inner: for the proofs of this crate.
use Rattle.std.specs.Prelude.{◌≡◌, ℕ, List, drop, slice_range, Option, Ok, Err}
use Rattle.dirac_common.specs.declared.faults.Fault.{Fault}
use Rattle.dirac_units.specs.declared.unit_place.UnitPlace.{UnitPlace}
use Rattle.dirac_units.specs.Info.{span_of}
use Rattle.dirac_units.specs.Cut.{IsCut, UnitText, front_of, first_unit_place}

-- wherever these bytes stand, this unit begins them, and these bytes are left behind it
pub record IsBegun (bytes : List ℕ) (unit : UnitText) (rest : List ℕ) : Type 0 where
  pub front : (unit_place : UnitPlace) → front_of unit_place bytes ≡ Ok unit.info
  pub payload : unit.payload ≡ slice_range bytes 13 (span_of unit.info)
  pub rest_is : rest ≡ drop (span_of unit.info) bytes

-- wherever they stand, no whole unit begins them
abbrev pub NoneIsBegun : List ℕ → Type 0
NoneIsBegun bytes = (unit_place : UnitPlace) → (end : Option Fault) × (front_of unit_place bytes ≡ Err end)

-- these are the units of a stream
abbrev pub IsCutInto : List ℕ → List UnitText → Type 0
IsCutInto bytes units = (end : Option Fault) × IsCut first_unit_place bytes units end
