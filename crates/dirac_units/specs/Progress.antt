-- How far the cutting of a source came, and what its next step gives.
use Rattle.std.specs.Prelude.{◌≡◌, ℕ, ◌+◌, ◌≤◌, length, Bool, ◌&&◌, if◌then◌else◌, List, [], ◌++◌, drop, slice_range}
use Rattle.std.specs.Prelude.{Option, None, Some, IfSome, Ok, Err, ⊤}
use Rattle.std.specs.Io.KnownBytes.{prepend_known, Consumes, IsAtEnd}
use Rattle.dirac_common.specs.declared.faults.Fault.{Fault}
use Rattle.dirac_units.specs.declared.info.ParseInfo.{ParseInfo}
use Rattle.dirac_units.specs.declared.unit_place.UnitPlace.{UnitPlace}
use Rattle.dirac_units.specs.declared.unit.StreamEnd.{StreamEnd}
use Rattle.dirac_units.specs.declared.unit.StreamEnd.TheVariants as stream_end
use Rattle.dirac_units.specs.declared.unit.Unit.{Unit}
use Rattle.dirac_units.specs.declared.unit.UnitStep.{UnitStep}
use Rattle.dirac_units.specs.declared.unit.UnitStep.TheVariants as step
use Rattle.dirac_units.specs.Info.{IsLawful, fields_are_read, span_of}
use Rattle.dirac_units.specs.Cut.{first_unit_place, after, front_of, IsEndOfBytes}

-- the bytes taken beyond the units given, where the next unit begins, and what later calls answer
pub record CuttingProgress : Type 0 where
  pub ahead : List ℕ
  pub unit_place : UnitPlace
  pub stream_end : StreamEnd

-- before the first unit
abbrev pub cutting_begun : CuttingProgress
cutting_begun = record { ahead = []; unit_place = first_unit_place; stream_end = stream_end.Going }

-- the payload of the unit at the front, where it is kept
abbrev pub kept_payload : Bool → ParseInfo → List ℕ → List ℕ
kept_payload keep info bytes = if keep && fields_are_read info.code then slice_range bytes 13 (span_of info) else []

-- this unit stands at the front of the bytes, and these are left behind it
abbrev pub IsFirstUnit : Bool → Unit → UnitPlace → List ℕ → Option (List ℕ) → Type 0
IsFirstUnit keep unit unit_place bytes rest =
    (front_of unit_place bytes ≡ Ok unit.info) × (unit.payload ≡ kept_payload keep unit.info bytes)
    × (rest ≡ Some (drop (span_of unit.info) bytes))

-- the next unit was given: the bytes ahead, then those held, begin with it
pub record GivesUnit (keep : Bool) (unit : Unit) (old new : CuttingProgress) (held held' : Option (List ℕ)) : Type 0
  where
    pub going : old.stream_end ≡ stream_end.Going
    pub index : unit.index ≡ old.unit_place.index
    pub at : unit.at ≡ old.unit_place.at
    pub lawful : IsLawful unit.info
    pub short : length unit.payload + 13 ≤ span_of unit.info
    pub next : new.unit_place ≡ after old.unit_place unit.info
    pub told : IfSome (prepend_known old.ahead held) (λ bytes. IsFirstUnit keep unit old.unit_place bytes
        (prepend_known new.ahead held'))

-- the source holds exactly what follows this unit
abbrev pub HoldsWhatFollows : Unit → CuttingProgress → Option (List ℕ) → Option (List ℕ) → Type 0
HoldsWhatFollows unit old held held' =
    IfSome (prepend_known old.ahead held) (λ bytes. held' ≡ Some (drop (span_of unit.info) bytes))

-- in what was taken of these bytes no whole unit stands, but this end or fault, and just what follows it is held
pub record IsPartTaken (unit_place : UnitPlace) (end : Option Fault) (bytes : List ℕ) (held' : Option (List ℕ))
    : Type 0 where
  pub part : List ℕ
  pub rest : List ℕ
  pub no_unit : front_of unit_place part ≡ Err end
  pub parts : bytes ≡ part ++ rest
  pub holds : held' ≡ Some rest

-- so it is with the bytes ahead and those held, and what was taken ends there: no parse info in it is refused
abbrev pub TakesPart : CuttingProgress → Option (List ℕ) → Option (List ℕ) → Type 0
TakesPart old held held' =
    IfSome (prepend_known old.ahead held)
    (λ bytes. (end : Option Fault) × IsPartTaken old.unit_place end bytes held' × IsEndOfBytes end)

-- some of the bytes ahead and those held were taken, and just the others are held
abbrev pub TakesSome : CuttingProgress → Option (List ℕ) → Option (List ℕ) → Type 0
TakesSome old held held' = (part : List ℕ) × Consumes (prepend_known old.ahead held) held' part

-- no unit is left, but this end or fault, which stands in what was taken too; at the lawful end the source was read to
-- its end
pub record Ends (old : CuttingProgress) (held held' : Option (List ℕ)) (end : Option Fault) : Type 0 where
  pub told : IfSome (prepend_known old.ahead held) (λ bytes. front_of old.unit_place bytes ≡ Err end)
  pub whole : end ≡ None → IsAtEnd held'
  pub taken : IfSome (prepend_known old.ahead held) (λ bytes. IsPartTaken old.unit_place end bytes held')

-- a fact on the unit, where one was given
abbrev pub IfUnit : UnitStep → (Unit → Type 0) → Type 0
IfUnit (step.Unit unit) P = P unit
IfUnit step.End P = ⊤
IfUnit (step.Fault fault) P = ⊤
IfUnit step.ReadFault P = ⊤
IfUnit step.NoMemory P = ⊤
IfUnit step.Stopped P = ⊤

-- what later calls answer after this one
abbrev pub met_after : UnitStep → StreamEnd
met_after (step.Unit unit) = stream_end.Going
met_after step.End = stream_end.Ended
met_after (step.Fault fault) = stream_end.Faulted fault
met_after step.ReadFault = stream_end.Stopped
met_after step.NoMemory = stream_end.Stopped
met_after step.Stopped = stream_end.Stopped

-- what was met is answered again, and nothing is read
abbrev pub Repeats : StreamEnd → UnitStep → Type 0 → Type 0
Repeats stream_end.Going answer Same = ⊤
Repeats stream_end.Ended answer Same = (answer ≡ step.End) × Same
Repeats (stream_end.Faulted fault) answer Same = (answer ≡ step.Fault fault) × Same
Repeats stream_end.Stopped answer Same = (answer ≡ step.Stopped) × Same
