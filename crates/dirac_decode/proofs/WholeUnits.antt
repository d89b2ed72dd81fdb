-- What stands at the front of bytes that hold a whole unit.
use Rattle.std.proofs.Common.{◌≡◌, ◌∙◌, ℕ, false, List, ◌++◌, length, take, ◌≤◌, ◌==◌, nat_lt, Some, Result, Ok, Err, refl, sym, ap, arith, length-append}
use Rattle.std.specs.Prelude.{IfOk}
use Rattle.std.proofs.lemmas.Bool.{le-ltb, ne_eqb}
use Rattle.std.proofs.lemmas.List.{take-append-le}
use Rattle.dirac_common.specs.declared.faults.Refusal.{Refusal}
use Rattle.dirac_units.specs.declared.info.ParseInfo.{ParseInfo}
use Rattle.dirac_units.specs.declared.unit_place.UnitPlace.{UnitPlace}
use Rattle.dirac_units.specs.Info.{info_read, span_of}
use Rattle.dirac_units.specs.Cut.{front_of, unit_front}
use Rattle.dirac_units.proofs.Fronts.{front_is, front_more, not_chosen}
use Rattle.dirac_decode.specs.Stepping.{IsWholeUnit}
use Rattle.dirac_content.proofs.Passing.{fault_of}

-- a refused parse info is a fault
front_refused : (unit_place : UnitPlace) (bytes : List ℕ) (refusal : Refusal) → 13 ≤ length bytes → info_read (take 13 bytes) ≡ Err refusal → front_of unit_place bytes ≡ Err (Some (fault_of unit_place refusal))
front_refused unit_place bytes refusal long read =
    let some : (length bytes == 0) ≡ false = ne_eqb (length bytes) 0 (λ e. omega arith) in
    let header : nat_lt (length bytes) 13 ≡ false = le-ltb (length bytes) 13 long in
    not_chosen (length bytes == 0) _ _ some ∙ not_chosen (nat_lt (length bytes) 13) _ _ header ∙ ap (unit_front unit_place bytes) read

-- a refused parse info is refused whatever follows it
refused_more : (unit_place : UnitPlace) (bytes more : List ℕ) (refusal : Refusal) → 13 ≤ length bytes → info_read (take 13 bytes) ≡ Err refusal → front_of unit_place (bytes ++ more) ≡ front_of unit_place bytes
refused_more unit_place bytes more refusal long read =
    let longer : 13 ≤ length (bytes ++ more) = omega (arith, length-append bytes more, long) in
    let again : info_read (take 13 (bytes ++ more)) ≡ Err refusal = ap info_read (take-append-le 13 bytes more long) ∙ read in
    front_refused unit_place (bytes ++ more) refusal longer again ∙ sym (front_refused unit_place bytes refusal long read)

-- what stands at the front of bytes that hold it as a whole is the same whatever follows
front_before_by : (unit_place : UnitPlace) (bytes more : List ℕ) (read : Result ParseInfo Refusal) → info_read (take 13 bytes) ≡ read → 13 ≤ length bytes → IfOk read (λ (info : ParseInfo). span_of info ≤ length bytes) → front_of unit_place (bytes ++ more) ≡ front_of unit_place bytes
front_before_by unit_place bytes more (Ok info) is long fits =
    let whole : front_of unit_place bytes ≡ Ok info = front_is unit_place bytes info long is fits in
    front_more unit_place bytes more info whole ∙ sym whole
front_before_by unit_place bytes more (Err refusal) is long fits = refused_more unit_place bytes more refusal long is

pub front_before : (unit_place : UnitPlace) (bytes more : List ℕ) → IsWholeUnit bytes → front_of unit_place (bytes ++ more) ≡ front_of unit_place bytes
front_before unit_place bytes more is = front_before_by unit_place bytes more (info_read (take 13 bytes)) refl is.header is.payload
