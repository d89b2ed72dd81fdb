-- A step takes at most one unit.
use Rattle.std.proofs.Common.{◌≡◌, ◌∙◌, ℕ, ◌+◌, true, List, Option, None, Some, Ok, Err, refl, ap, ap₂, inl, inr}
use Rattle.std.specs.Prelude.{IfSome}
use Rattle.std.specs.Io.KnownBytes.{prepend_known}
use Rattle.dirac_common.specs.declared.faults.Fault.{Fault}
use Rattle.dirac_common.specs.declared.faults.Refusal.{Refusal}
use Rattle.dirac_units.specs.declared.unit.Unit.{Unit}
use Rattle.dirac_units.specs.declared.unit_place.UnitPlace.{UnitPlace}
use Rattle.dirac_units.specs.Cut.{after, fault_at, front_of}
use Rattle.dirac_units.specs.Progress.{GivesUnit, IsFirstUnit, CuttingProgress}
use Rattle.dirac_decode.specs.declared.step.Halt.TheVariants as halt
use Rattle.dirac_decode.specs.declared.step.Step.{Step}
use Rattle.dirac_decode.specs.Advancing.{TakesBy}
use Rattle.dirac_decode.specs.Stepping.{FaultsAt, StepTakesUnit}
use Rattle.dirac_content.specs.StreamState.{StreamState, StreamStep, unit_step}
use Rattle.dirac_decode.specs.Taking.{IsTakenAs, made_by}
use Rattle.dirac_content.proofs.Passing.{moved_text, text_of}

-- ---- what one unit brought

taken_unit : (known known' : Option (List ℕ)) (unit : Unit) (unit_place unit_place' : UnitPlace) (state : StreamState) (made : StreamStep) → IfSome known (λ bytes. IsFirstUnit true unit unit_place bytes known') → unit_place' ≡ after unit_place unit.info
    → unit_step state unit.info.code unit.payload ≡ Ok made → IfSome known (λ bytes. StepTakesUnit unit_place unit_place' state made bytes known')
taken_unit None known' unit unit_place unit_place' state made first next is = tt
taken_unit (Some bytes) known' unit unit_place unit_place' state made first next is = record {
  unit = text_of unit.info bytes;
  front = (first.0, refl);
  holds = first.2;
  next = next;
  content = moved_text state unit bytes (Ok made) first.1 is;
}

pub takes_unit : (step : Step) (unit : Unit) (units units' : CuttingProgress) (state state' : StreamState) (held held' : Option (List ℕ)) → GivesUnit true unit units units' held held' → IsTakenAs (Ok step) (unit_step state unit.info.code unit.payload) state state' → TakesBy (Ok step) units units' state state' held held'
takes_unit step unit units units' state state' held held' gives took =
    taken_unit (prepend_known units.ahead held) (prepend_known units'.ahead held') unit units.unit_place units'.unit_place state (made_by step state') gives.told gives.next (took.1 ∙ ap Ok took.2)

refused_unit : (known known' : Option (List ℕ)) (unit : Unit) (unit_place : UnitPlace) (state : StreamState) (refusal : Refusal) (fault : Fault) → IfSome known (λ bytes. IsFirstUnit true unit unit_place bytes known') → unit_step state unit.info.code unit.payload ≡ Err refusal
    → fault ≡ fault_at unit_place refusal.at refusal.cause → IfSome known (FaultsAt unit_place state fault)
refused_unit None known' unit unit_place state refusal fault first is same = tt
refused_unit (Some bytes) known' unit unit_place state refusal fault first is same = inr (record {
  unit = text_of unit.info bytes;
  refusal = refusal;
  front = (first.0, refl);
  content = moved_text state unit bytes (Err refusal) first.1 is;
  same = same;
})

-- a fault of content
pub takes_refused : (unit : Unit) (units units' : CuttingProgress) (state state' : StreamState) (held held' : Option (List ℕ)) (refusal : Refusal) (index at : ℕ) → GivesUnit true unit units units' held held' → (unit_step state unit.info.code unit.payload ≡ Err refusal) × (state' ≡ state) → index ≡ units.unit_place.index → at ≡ units.unit_place.at
    → TakesBy (Err (halt.Fault (record { unit = index; at = at + refusal.at; cause = refusal.cause }))) units units' state state' held held'
takes_refused unit units units' state state' held held' refusal index at gives is same_index same_at =
    let make : ℕ → ℕ → Fault = λ i a. record { unit = i; at = a + refusal.at; cause = refusal.cause } in (
      is.1,
      refused_unit (prepend_known units.ahead held) (prepend_known units'.ahead held') unit units.unit_place state refusal (make index at) gives.told is.0 (ap₂ make same_index same_at),
    )

faulted_front : (known : Option (List ℕ)) (unit_place : UnitPlace) (state : StreamState) (fault : Fault) → IfSome known (λ bytes. front_of unit_place bytes ≡ Err (Some fault)) → IfSome known (FaultsAt unit_place state fault)
faulted_front None unit_place state fault front = tt
faulted_front (Some bytes) unit_place state fault front = inl front

-- a fault of the cutting
pub takes_fault : (units units' : CuttingProgress) (state : StreamState) (held held' : Option (List ℕ)) (fault : Fault) → IfSome (prepend_known units.ahead held) (λ bytes. front_of units.unit_place bytes ≡ Err (Some fault)) → TakesBy (Err (halt.Fault fault)) units units' state state held held'
takes_fault units units' state held held' fault front =
    (refl, faulted_front (prepend_known units.ahead held) units.unit_place state fault front)
