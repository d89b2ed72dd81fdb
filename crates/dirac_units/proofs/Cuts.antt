-- Each list of bytes has exactly one cut.
use Rattle.std.proofs.Common.{◌≡◌, ℕ, zero, suc, ◌+◌, ◌≤◌, List, [], ◌∷◌, length, drop, sym, ap, ◌∙◌, refl, subst, arith, Option, Result, Ok, Err, length-drop}
use Rattle.std.specs.Prelude.{slice_range}
use Rattle.dirac_common.specs.declared.faults.Fault.{Fault}
use Rattle.dirac_units.specs.declared.info.ParseInfo.{ParseInfo}
use Rattle.dirac_units.specs.declared.unit_place.UnitPlace.{UnitPlace}
use Rattle.dirac_units.specs.Info.{span_of}
use Rattle.dirac_units.specs.Cut.{UnitText, after, front_of, IsCut}
use Rattle.dirac_units.proofs.Fronts.{front_whole, ok_same, err_is_no_ok}

-- behind a whole unit fewer bytes are left
pub fewer_behind : (unit_place : UnitPlace) (bytes : List ℕ) (info : ParseInfo) → front_of unit_place bytes ≡ Ok info
    → length (drop (span_of info) bytes) + 13 ≤ length bytes
fewer_behind unit_place bytes info is =
    let whole = front_whole unit_place bytes info is in
    omega (arith, length-drop (span_of info) bytes, whole.2)

-- a cut of at most n bytes, by what stands at their front
pub cut_by : (n : ℕ) (unit_place : UnitPlace) (bytes : List ℕ) (front : Result ParseInfo (Option Fault)) → front_of unit_place bytes ≡ front → length bytes ≤ n
    → (units : List UnitText) × (end : Option Fault) × IsCut unit_place bytes units end
cut_by n unit_place bytes (Err end) is few = ([], end, is)
cut_by zero unit_place bytes (Ok info) is few = absurd (omega (arith, fewer_behind unit_place bytes info is))
cut_by (suc n) unit_place bytes (Ok info) is few =
    let rest = drop (span_of info) bytes in
    let later = cut_by n (after unit_place info) rest (front_of (after unit_place info) rest) refl (omega (arith, fewer_behind unit_place bytes info is)) in
    let unit : UnitText = record { info = info; payload = slice_range bytes 13 (span_of info) } in
    (unit ∷ later.0, later.1, (is, refl, later.2))

same_err : {A B : Type 0} (r : Result A B) (a b : B) → r ≡ Err a → r ≡ Err b → a ≡ b
same_err r a b p q = cc

same_cons : {A : Type 0} (x y : A) (xs ys : List A) → x ≡ y → xs ≡ ys → (x ∷ xs) ≡ (y ∷ ys)
same_cons x y xs ys p q = cc

same_unit : (u v : UnitText) → u.info ≡ v.info → u.payload ≡ v.payload → u ≡ v
same_unit u v is_info is_payload =
    let make : ParseInfo → List ℕ → UnitText = λ i p. record { info = i; payload = p } in
    ap (λ i. make i u.payload) is_info ∙ ap (λ p. make v.info p) is_payload

-- no list of bytes has two cuts
pub one_cut : (unit_place : UnitPlace) (bytes : List ℕ) (units units' : List UnitText) (end end' : Option Fault)
    → IsCut unit_place bytes units end → IsCut unit_place bytes units' end' → (units ≡ units') × (end ≡ end')
one_cut unit_place bytes [] [] end end' p q = (refl, same_err (front_of unit_place bytes) end end' p q)
one_cut unit_place bytes [] (v ∷ vs) end end' p q = absurd (err_is_no_ok (front_of unit_place bytes) v.info end p q.0)
one_cut unit_place bytes (u ∷ us) [] end end' p q = absurd (err_is_no_ok (front_of unit_place bytes) u.info end' q p.0)
one_cut unit_place bytes (u ∷ us) (v ∷ vs) end end' p q =
    let same = ok_same (front_of unit_place bytes) u.info v.info p.0 q.0 in
    let whole : u ≡ v = same_unit u v same (p.1 ∙ ap (λ i. slice_range bytes 13 (span_of i)) same ∙ sym q.1) in
    let P : ParseInfo → Type 0 = λ i. IsCut (after unit_place i) (drop (span_of i) bytes) vs end' in
    let later = one_cut (after unit_place u.info) (drop (span_of u.info) bytes) us vs end end' p.2 (subst P (sym same) q.2) in
    (same_cons u v us vs whole later.0, later.1)
