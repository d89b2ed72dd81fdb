-- Settings in their ranges.
use Rattle.std.proofs.Common.{◌≡◌, ◌%◌, ◌==◌, ◌&&◌, if◌then◌else◌, Bool, true, List, [], ◌∷◌, Some, None, Option, sym, ap, ap₂, ◌∙◌, inl, inr}
use Rattle.std.specs.Prelude.{nat_le}
use Rattle.std.specs.List.{AllByRecursion}
use Rattle.std.proofs.lemmas.Bool.{cases_Bool, and_parts, leb-true, le-leb, eq-eqb, eqb-true}
use Rattle.dirac_types.specs.declared.settings.BadSetting.{BadSetting}
use Rattle.dirac_types.specs.declared.ranges.Ranged.{Ranged}
use Rattle.dirac_types.specs.Settings.{is_in_range, first_bad, IsInRange}

in_range : (r : Ranged) → is_in_range r ≡ true → IsInRange r
in_range r good =
    let parts = and_parts (nat_le r.least r.value && nat_le r.value r.most) (r.value % r.step == 0) good in
    let two = and_parts (nat_le r.least r.value) (nat_le r.value r.most) parts.0 in
    (leb-true r.least r.value two.0, leb-true r.value r.most two.1, eqb-true (r.value % r.step) 0 parts.1)

test_of : (r : Ranged) → IsInRange r → is_in_range r ≡ true
test_of r is =
    ap₂ (λ (a b : Bool). a && b) (ap₂ (λ (a b : Bool). a && b) (le-leb r.least r.value is.0) (le-leb r.value r.most is.1)) (eq-eqb (r.value % r.step) 0 is.2)

-- where none is bad, each is in its range
pub none_bad : (rows : List Ranged) → first_bad rows ≡ None → AllByRecursion IsInRange rows
none_bad [] none = tt
none_bad (r ∷ rows) none =
    let found : Bool → Option BadSetting = λ good. if good then first_bad rows else Some (record { name = r.name; value = r.value }) in
    elim (cases_Bool (is_in_range r)) [
      | inl good ↦ (in_range r good, none_bad rows (sym (ap found good) ∙ none))
      | inr bad ↦ let clash : Some (record { name = r.name; value = r.value }) ≡ None = sym (ap found bad) ∙ none in absurd cc
    ]

-- and where one is, some isn't
pub some_bad : (rows : List Ranged) (bad : BadSetting) → first_bad rows ≡ Some bad → AllByRecursion IsInRange rows → ⊥
some_bad [] bad e all = cc
some_bad (r ∷ rows) bad e all =
    let found : Bool → Option BadSetting = λ good. if good then first_bad rows else Some (record { name = r.name; value = r.value }) in
    some_bad rows bad (sym (ap found (test_of r all.0)) ∙ e) all.1
