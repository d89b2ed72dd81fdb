-- How bytes are cut into units, and the end or the fault that stands behind the last one.
use Rattle.std.specs.Prelude.{◌≡◌, ℕ, ◌+◌, ◌≤◌, ◌==◌, nat_lt, false, if◌then◌else◌, List, [], ◌∷◌, length, take, drop}
use Rattle.std.specs.Prelude.{slice_range, Option, None, Some, Result, Ok, Err, ◌⊎◌, ⊤}
use Rattle.dirac_common.specs.declared.faults.Cause.{Cause}
use Rattle.dirac_common.specs.declared.faults.Cause.TheVariants.{MissingEnd, Truncated}
use Rattle.dirac_common.specs.declared.faults.Refusal.{Refusal}
use Rattle.dirac_common.specs.declared.faults.Fault.{Fault}
use Rattle.dirac_common.specs.declared.codes.TheConstants.{END_OF_SEQUENCE}
use Rattle.dirac_units.specs.declared.info.ParseInfo.{ParseInfo}
use Rattle.dirac_units.specs.declared.unit_place.UnitPlace.{UnitPlace}
use Rattle.dirac_units.specs.Info.{info_read, span_of}

-- a unit as it stands in the bytes
pub record UnitText : Type 0 where
  pub info : ParseInfo
  pub payload : List ℕ

-- where the first unit of an input begins
abbrev pub first_unit_place : UnitPlace
first_unit_place = record { index = 0; at = 0; closed = false }

-- where the next unit begins
abbrev pub after : UnitPlace → ParseInfo → UnitPlace
after unit_place info =
    record { index = unit_place.index + 1; at = unit_place.at + span_of info; closed = info.code == END_OF_SEQUENCE }

-- a fault of the unit that begins there, that many bytes behind its first
abbrev pub fault_at : UnitPlace → ℕ → Cause → Fault
fault_at unit_place at cause = record { unit = unit_place.index; at = unit_place.at + at; cause = cause }

-- the bytes end there: between units or within one, and no parse info is refused
abbrev pub IsEndOfBytes : Option Fault → Type 0
IsEndOfBytes None = ⊤
IsEndOfBytes (Some fault) = (fault.cause ≡ MissingEnd) ⊎ (fault.cause ≡ Truncated)

-- a parse info was read, and the input may end in the payload; or it was refused
abbrev pub unit_front : UnitPlace → List ℕ → Result ParseInfo Refusal → Result ParseInfo (Option Fault)
unit_front unit_place bytes (Err refusal) = Err (Some (fault_at unit_place refusal.at refusal.cause))
unit_front unit_place bytes (Ok info) =
    if nat_lt (length bytes) (span_of info) then Err (Some (fault_at unit_place (length bytes) Truncated)) else Ok info

-- what stands at the front: the parse info of a whole unit, else the lawful end (None) or a fault
abbrev pub front_of : UnitPlace → List ℕ → Result ParseInfo (Option Fault)
front_of unit_place bytes =
    if length bytes == 0 then Err (if unit_place.closed then None else Some (fault_at unit_place 0 MissingEnd))
    else if nat_lt (length bytes) 13 then Err (Some (fault_at unit_place (length bytes) Truncated))
    else unit_front unit_place bytes (info_read (take 13 bytes))

-- from there on the bytes are these units, and then the lawful end or a fault
abbrev pub IsCut : UnitPlace → List ℕ → List UnitText → Option Fault → Type 0
IsCut unit_place bytes [] end = front_of unit_place bytes ≡ Err end
IsCut unit_place bytes (unit ∷ units) end =
    (front_of unit_place bytes ≡ Ok unit.info) × (unit.payload ≡ slice_range bytes 13 (span_of unit.info))
    × IsCut (after unit_place unit.info) (drop (span_of unit.info) bytes) units end

-- each list of bytes has a cut, from each place
abbrev pub EachHasACut : Type 0
EachHasACut =
    (unit_place : UnitPlace) (bytes : List ℕ) → (units : List UnitText) × (end : Option Fault)
    × IsCut unit_place bytes units end

-- no list of bytes has two
abbrev pub NoneHasTwoCuts : Type 0
NoneHasTwoCuts =
    (unit_place : UnitPlace) (bytes : List ℕ) (units units' : List UnitText) (end end' : Option Fault)
    → IsCut unit_place bytes units end → IsCut unit_place bytes units' end' → (units ≡ units') × (end ≡ end')

-- bytes at whose front a parse info is refused don't end there: the causes of refusals are others
abbrev pub EndsRefuseNone : Type 0
EndsRefuseNone =
    (unit_place : UnitPlace) (bytes : List ℕ) (refusal : Refusal) (end : Option Fault) → 13 ≤ length bytes
    → info_read (take 13 bytes) ≡ Err refusal → front_of unit_place bytes ≡ Err end → IsEndOfBytes end → ⊥
