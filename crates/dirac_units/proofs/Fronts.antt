-- What stands at the front of bytes: a whole unit is lawful, fits, and is the same with more bytes behind.
use Rattle.std.proofs.Common.{◌≡◌, ℕ, ◌≤◌, List, ◌++◌, length, take, ap, ◌∙◌, refl, subst, arith, Option, None, Some, Result, Ok, Err, length-append, Bool, true, false, ◌⊎◌, inl, inr, nat_lt, ◌==◌, if◌then◌else◌}
use Rattle.std.proofs.lemmas.Bool.{ltb-false, le-ltb, ne_eqb}
use Rattle.std.proofs.lemmas.List.{take-append-le}
use Rattle.dirac_common.specs.declared.faults.Refusal.{Refusal}
use Rattle.dirac_common.specs.declared.faults.Fault.{Fault}
use Rattle.dirac_units.specs.declared.info.ParseInfo.{ParseInfo}
use Rattle.dirac_units.specs.declared.unit_place.UnitPlace.{UnitPlace}
use Rattle.dirac_units.specs.Info.{IsLawful, refusal_of, unless_refused, info_read, span_of, info_of, prefix}
use Rattle.dirac_common.specs.declared.faults.Cause.TheVariants.{BadPrefix, MissingEnd, Truncated}
use Rattle.std.specs.Prelude.{nat_eq}
use Rattle.std.specs.List.{starts_with}
use Rattle.dirac_units.specs.Cut.{front_of, unit_front, fault_at}

-- which branch gave a value
pub chosen : {A : Type 0} (b : Bool) (x y z : A) → (if b then x else y) ≡ z → ((b ≡ true) × (x ≡ z)) ⊎ ((b ≡ false) × (y ≡ z))
chosen true x y z is = inl (refl, is)
chosen false x y z is = inr (refl, is)

pub not_chosen : {A : Type 0} (b : Bool) (x y : A) → b ≡ false → (if b then x else y) ≡ y
not_chosen true x y is = cc
not_chosen false x y is = refl

pub ok_same : {A B : Type 0} (r : Result A B) (a b : A) → r ≡ Ok a → r ≡ Ok b → a ≡ b
ok_same r a b p q = cc

pub err_is_no_ok : {A B : Type 0} (r : Result A B) (a : A) (b : B) → r ≡ Err b → r ≡ Ok a → ⊥
err_is_no_ok r a b p q = cc

-- a parse info that was read isn't refused
unless_refused-lawful : (i info : ParseInfo) (o : Option Refusal) → refusal_of i ≡ o → unless_refused i o ≡ Ok info → IsLawful info
unless_refused-lawful i info None is read = subst IsLawful (ok_same (unless_refused i None) i info refl read) is
unless_refused-lawful i info (Some r) is read = absurd (err_is_no_ok (unless_refused i (Some r)) info r refl read)

pub info_read-lawful : (bytes : List ℕ) (info : ParseInfo) → info_read bytes ≡ Ok info → IsLawful info
info_read-lawful bytes info read =
    elim (chosen (starts_with nat_eq bytes prefix) (unless_refused (info_of bytes) (refusal_of (info_of bytes))) (Err (record { at = 0; cause = BadPrefix })) (Ok info) read) [
      | inl p ↦ unless_refused-lawful (info_of bytes) info (refusal_of (info_of bytes)) refl p.1
      | inr p ↦ absurd (err_is_no_ok (Err (record { at = 0; cause = BadPrefix })) info (record { at = 0; cause = BadPrefix }) refl p.1)
    ]

-- a unit at the front was read from 13 bytes, and lies in the bytes
unit_front-whole : (unit_place : UnitPlace) (bytes : List ℕ) (r : Result ParseInfo Refusal) (info : ParseInfo) → unit_front unit_place bytes r ≡ Ok info
    → (r ≡ Ok info) × (span_of info ≤ length bytes)
unit_front-whole unit_place bytes (Ok i) info is =
    let short : Option Fault = Some (fault_at unit_place (length bytes) Truncated) in
    elim (chosen (nat_lt (length bytes) (span_of i)) (Err short) (Ok i) (Ok info) is) [
      | inl p ↦ absurd (err_is_no_ok (Err short) info short refl p.1)
      | inr p ↦
          let same = ok_same (Ok i) i info refl p.1 in
          (ap Ok same, subst (λ (j : ParseInfo). span_of j ≤ length bytes) same (ltb-false (length bytes) (span_of i) p.0))
    ]
unit_front-whole unit_place bytes (Err e) info is =
    absurd (err_is_no_ok (unit_front unit_place bytes (Err e)) info (Some (fault_at unit_place e.at e.cause)) refl is)

pub front_whole : (unit_place : UnitPlace) (bytes : List ℕ) (info : ParseInfo) → front_of unit_place bytes ≡ Ok info
    → (13 ≤ length bytes) × (info_read (take 13 bytes) ≡ Ok info) × (span_of info ≤ length bytes)
front_whole unit_place bytes info is =
    let none : Option Fault = if unit_place.closed then None else Some (fault_at unit_place 0 MissingEnd) in
    let few : Option Fault = Some (fault_at unit_place (length bytes) Truncated) in
    let whole = unit_front unit_place bytes (info_read (take 13 bytes)) in
    let longer : Result ParseInfo (Option Fault) = if nat_lt (length bytes) 13 then Err few else whole in
    elim (chosen (length bytes == 0) (Err none) longer (Ok info) is) [
      | inl p ↦ absurd (err_is_no_ok (Err none) info none refl p.1)
      | inr p ↦ elim (chosen (nat_lt (length bytes) 13) (Err few) whole (Ok info) p.1) [
        | inl q ↦ absurd (err_is_no_ok (Err few) info few refl q.1)
        | inr q ↦
            let read = unit_front-whole unit_place bytes (info_read (take 13 bytes)) info q.1 in
            (ltb-false (length bytes) 13 q.0, read.0, read.1)
      ]
    ]

-- what makes a whole unit
pub front_is : (unit_place : UnitPlace) (bytes : List ℕ) (info : ParseInfo) → 13 ≤ length bytes → info_read (take 13 bytes) ≡ Ok info → span_of info ≤ length bytes
    → front_of unit_place bytes ≡ Ok info
front_is unit_place bytes info long read fits =
    let some : (length bytes == 0) ≡ false = ne_eqb (length bytes) 0 (λ e. omega arith) in
    let header : nat_lt (length bytes) 13 ≡ false = le-ltb (length bytes) 13 long in
    let whole : nat_lt (length bytes) (span_of info) ≡ false = le-ltb (length bytes) (span_of info) fits in
    not_chosen (length bytes == 0) _ _ some ∙ not_chosen (nat_lt (length bytes) 13) _ _ header
    ∙ ap (unit_front unit_place bytes) read ∙ not_chosen (nat_lt (length bytes) (span_of info)) _ _ whole

-- a whole unit is the same with more bytes behind it
pub front_more : (unit_place : UnitPlace) (bytes more : List ℕ) (info : ParseInfo) → front_of unit_place bytes ≡ Ok info → front_of unit_place (bytes ++ more) ≡ Ok info
front_more unit_place bytes more info is =
    let whole = front_whole unit_place bytes info is in
    let longer = length-append bytes more in
    front_is unit_place (bytes ++ more) info (omega (arith, longer, whole.0))
    (ap info_read (take-append-le 13 bytes more whole.0) ∙ whole.1)
    (omega (arith, longer, whole.2))
