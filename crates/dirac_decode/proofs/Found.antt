-- What was found in the place of the next unit, and what the content of a unit brings.
use Rattle.std.proofs.Common.{◌≡◌, ◌∙◌, ℕ, ◌+◌, ◌≤◌, true, List, [], length, Option, Result, Ok, Err, refl, sym, ap, subst, arith}
use Rattle.std.specs.Io.KnownBytes.{append_known, IsAtEnd}
use Rattle.dirac_common.specs.declared.faults.Fault.{Fault}
use Rattle.dirac_units.specs.declared.unit.StreamEnd.TheVariants as stream_end
use Rattle.dirac_units.specs.declared.unit.Unit.{Unit}
use Rattle.dirac_units.specs.declared.unit_place.UnitPlace.{UnitPlace}
use Rattle.dirac_units.specs.Cut.{EachHasACut}
use Rattle.dirac_units.specs.Progress.{CuttingProgress, GivesUnit, TakesPart, TakesSome}
use Rattle.dirac_decode.specs.declared.step.Halt.{Halt}
use Rattle.dirac_decode.specs.declared.step.Halt.TheVariants as halt
use Rattle.dirac_decode.specs.declared.step.Step.{Step}
use Rattle.dirac_content.specs.StreamState.{StreamState}
use Rattle.dirac_decode.specs.Advancing.{Advances, AdvancesBefore, Brings, FindsUnit, GoesOn, HasContent, TakesBy}
use Rattle.dirac_decode.proofs.Following.{brings_end_more, brings_fault_more, unit_more}
use Rattle.dirac_decode.proofs.Leading.{brings_end, brings_fault, brings_refused, brings_step}
use Rattle.dirac_decode.proofs.Stepped.{takes_fault, takes_refused, takes_unit}

-- ---- a read failed, or not

pub found_read : {A : Type 0} (a : A) → Ok a ≡ Err halt.ReadFault → ⊥
found_read a is = cc

pub end_read : (A : Type 0) (r : Result A Halt) → r ≡ Err halt.End → r ≡ Err halt.ReadFault → ⊥
end_read A r of is = let both : Err halt.End ≡ Err halt.ReadFault = sym of ∙ is in cc

pub fault_read : (A : Type 0) (r : Result A Halt) (fault : Fault) → r ≡ Err (halt.Fault fault) → r ≡ Err halt.ReadFault → ⊥
fault_read A r fault of is = let both : Err (halt.Fault fault) ≡ Err halt.ReadFault = sym of ∙ is in cc

pub memory_read : (A : Type 0) (r : Result A Halt) → r ≡ Err halt.NoMemory → r ≡ Err halt.ReadFault → ⊥
memory_read A r of is = let both : Err halt.NoMemory ≡ Err halt.ReadFault = sym of ∙ is in cc

-- ---- no unit was found

pub halt_advances : (h : Halt) (units units' : CuttingProgress) (state : StreamState) (held held' : Option (List ℕ)) → units'.ahead ≡ [] → FindsUnit (Err h) units units' held held' → Advances (Err h) units units' state state held held'
halt_advances halt.End units units' state held held' none finds = brings_end units units' state held held' none finds
halt_advances (halt.Fault fault) units units' state held held' none finds = brings_fault units units' state held held' fault none finds
halt_advances halt.ReadFault units units' state held held' none finds = tt
halt_advances halt.NoMemory units units' state held held' none finds = tt

pub halt_advances_before : (h : Halt) (units units' : CuttingProgress) (state : StreamState) (held held' : Option (List ℕ)) → units'.ahead ≡ [] → FindsUnit (Err h) units units' held held' → AdvancesBefore (Err h) units units' state state held held'
halt_advances_before halt.End units units' state held held' none finds there more =
    brings_end_more units units' state held held' more none there finds
halt_advances_before (halt.Fault fault) units units' state held held' none finds there more =
    brings_fault_more units units' state held held' more fault none there finds
halt_advances_before halt.ReadFault units units' state held held' none finds there more = tt
halt_advances_before halt.NoMemory units units' state held held' none finds there more = tt

pub halt_takes : (h : Halt) (units units' : CuttingProgress) (state : StreamState) (held held' : Option (List ℕ)) → FindsUnit (Err h) units units' held held' → TakesBy (Err h) units units' state state held held'
halt_takes halt.End units units' state held held' finds = (refl, finds.told)
halt_takes (halt.Fault fault) units units' state held held' finds = takes_fault units units' state held held' fault finds.told
halt_takes halt.ReadFault units units' state held held' finds = refl
halt_takes halt.NoMemory units units' state held held' finds = refl

pub halt_whole : (h : Halt) (units units' : CuttingProgress) (held held' : Option (List ℕ)) → FindsUnit (Err h) units units' held held' → h ≡ halt.End → IsAtEnd held'
halt_whole h units units' held held' finds is =
    (subst (λ (x : Halt). FindsUnit (Err x) units units' held held') is finds).whole refl

pub halt_part : (h : Halt) (units units' : CuttingProgress) (held held' : Option (List ℕ)) → FindsUnit (Err h) units units' held held' → h ≡ halt.ReadFault → TakesPart units held held'
halt_part h units units' held held' finds is = subst (λ (x : Halt). FindsUnit (Err x) units units' held held') is finds

pub halt_taken : (h : Halt) (units units' : CuttingProgress) (held held' : Option (List ℕ)) → FindsUnit (Err h) units units' held held' → h ≡ halt.NoMemory → TakesSome units held held'
halt_taken h units units' held held' finds is = subst (λ (x : Halt). FindsUnit (Err x) units units' held held') is finds

pub halt_same : (a b : Result Step Halt) (h k : Halt) → a ≡ Err h → b ≡ Err k → a ≡ b → h ≡ k
halt_same a b h k of_h of_k is = let both : Err h ≡ Err k = sym of_h ∙ is ∙ of_k in cc

-- ---- a unit was found

pub content_advances : (answer : Result Step Halt) (unit : Unit) (units units' : CuttingProgress) (state state' : StreamState) (held held' : Option (List ℕ)) → EachHasACut → GivesUnit true unit units units' held held' → HasContent answer unit state state' → Advances answer units units' state state' held held'
content_advances (Ok step) unit units units' state state' held held' cuts gives has = brings_step step unit units units' state state' held held' gives has
content_advances (Err halt.End) unit units units' state state' held held' cuts gives has = absurd has
content_advances (Err (halt.Fault fault)) unit units units' state state' held held' cuts gives has =
    subst (λ (f : Fault). Brings units units' state state' held held' true (stream_end.Faulted f) []) (sym has.0.same)
    (brings_refused unit units units' state state' held held' has.0.refusal unit.index unit.at cuts gives (has.0.content, has.1) gives.index gives.at)
content_advances (Err halt.ReadFault) unit units units' state state' held held' cuts gives has = absurd has
content_advances (Err halt.NoMemory) unit units units' state state' held held' cuts gives has = tt

pub content_advances_before : (answer : Result Step Halt) (unit : Unit) (units units' : CuttingProgress) (state state' : StreamState) (held held' : Option (List ℕ)) → EachHasACut → GivesUnit true unit units units' held held' → HasContent answer unit state state' → AdvancesBefore answer units units' state state' held held'
content_advances_before answer unit units units' state state' held held' cuts gives has there more =
    content_advances answer unit units units' state state' (append_known held more) (append_known held' more) cuts (unit_more unit units units' held held' more gives) has

pub content_takes : (answer : Result Step Halt) (unit : Unit) (units units' : CuttingProgress) (state state' : StreamState) (held held' : Option (List ℕ)) → GivesUnit true unit units units' held held' → HasContent answer unit state state' → TakesBy answer units units' state state' held held'
content_takes (Ok step) unit units units' state state' held held' gives has = takes_unit step unit units units' state state' held held' gives has
content_takes (Err halt.End) unit units units' state state' held held' gives has = absurd has
content_takes (Err (halt.Fault fault)) unit units units' state state' held held' gives has =
    subst (λ (f : Fault). TakesBy (Err (halt.Fault f)) units units' state state' held held') (sym has.0.same)
    (takes_refused unit units units' state state' held held' has.0.refusal unit.index unit.at gives (has.0.content, has.1) gives.index gives.at)
content_takes (Err halt.ReadFault) unit units units' state state' held held' gives has = absurd has
content_takes (Err halt.NoMemory) unit units units' state state' held held' gives has = has

-- the next unit begins further on
pub content_goes_on : (answer : Result Step Halt) (unit : Unit) (units units' : CuttingProgress) (held held' : Option (List ℕ)) → GivesUnit true unit units units' held held' → units'.stream_end ≡ stream_end.Going → GoesOn answer units units'
content_goes_on (Ok step) unit units units' held held' gives going =
    (going, let next = ap (λ (p : UnitPlace). p.at) gives.next in omega (arith, gives.short, next))
content_goes_on (Err h) unit units units' held held' gives going = tt

pub next_index : (unit : Unit) (units units' : CuttingProgress) (held held' : Option (List ℕ)) → GivesUnit true unit units units' held held' → units'.unit_place.index ≡ units.unit_place.index + 1
next_index unit units units' held held' gives = ap (λ (p : UnitPlace). p.index) gives.next

pub next_at : (unit : Unit) (units units' : CuttingProgress) (held held' : Option (List ℕ)) → GivesUnit true unit units units' held held' → unit.at + 13 + length unit.payload ≤ units'.unit_place.at
next_at unit units units' held held' gives =
    let next = ap (λ (p : UnitPlace). p.at) gives.next in omega (arith, gives.at, gives.short, next)

-- neither the end nor a failed read
pub content_no_end : (answer : Result Step Halt) (unit : Unit) (state state' : StreamState) → HasContent answer unit state state' → answer ≡ Err halt.End → ⊥
content_no_end answer unit state state' has is = subst (λ (a : Result Step Halt). HasContent a unit state state') is has

pub content_no_read : (answer : Result Step Halt) (unit : Unit) (state state' : StreamState) → HasContent answer unit state state' → answer ≡ Err halt.ReadFault → ⊥
content_no_read answer unit state state' has is = subst (λ (a : Result Step Halt). HasContent a unit state state') is has
