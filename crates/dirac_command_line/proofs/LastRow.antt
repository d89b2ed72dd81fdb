-- A setting that is checked behind the table of settings.
use Rattle.std.proofs.Common.{if◌then◌else◌, ◌≡◌, Bool, true, false, List, [], ◌∷◌, ◌++◌, refl, sym, ap, ◌∙◌, Option}
use Rattle.std.proofs.Common.{Some, None, Ok, Err}
use Rattle.std.specs.Option.{option_or}
use Rattle.dirac_types.specs.declared.ranges.Ranged.{Ranged}
use Rattle.dirac_types.specs.declared.settings.BadSetting.{BadSetting}
use Rattle.dirac_types.specs.Settings.{first_bad, is_in_range, verdict}

-- one row more
behind_bad : (here : Bool) (rest last all : Option BadSetting) (bad : BadSetting) → all ≡ option_or rest last
    → (if here then all else Some bad) ≡ option_or (if here then rest else Some bad) last
behind_bad true rest last all bad e = e
behind_bad false rest last all bad e = refl

pub last_row : (rows : List Ranged) (r : Ranged)
    → first_bad (rows ++ r ∷ []) ≡ option_or (first_bad rows) (first_bad (r ∷ []))
last_row [] r = refl
last_row (x ∷ rows) r =
    behind_bad (is_in_range x) (first_bad rows) (first_bad (r ∷ [])) (first_bad (rows ++ r ∷ [])) (record { name = x.name; value = x.value }) (last_row rows r)

behind_good : (o last : Option BadSetting) → Ok tt ≡ verdict o → verdict (option_or o last) ≡ verdict last
behind_good None last ok = refl
behind_good (Some bad) last ok = cc

behind_refused : (o last : Option BadSetting) (bad : BadSetting) → Err bad ≡ verdict o
    → Err bad ≡ verdict (option_or o last)
behind_refused None last bad refused = cc
behind_refused (Some b) last bad refused = refused

abbrev alone : Ranged → Bool → Option BadSetting
alone r good = if good then None else Some (record { name = r.name; value = r.value })

-- all rows are in their ranges, and so is the last
pub all_accepted : (rows : List Ranged) (r : Ranged) → Ok tt ≡ verdict (first_bad rows) → is_in_range r ≡ true
    → Ok tt ≡ verdict (first_bad (rows ++ r ∷ []))
all_accepted rows r good fits = sym (ap verdict (last_row rows r) ∙ behind_good (first_bad rows) (first_bad (r ∷ [])) good ∙ ap (λ b. verdict (alone r b)) fits)

-- the last alone isn't
pub last_refused : (rows : List Ranged) (r : Ranged) → Ok tt ≡ verdict (first_bad rows) → is_in_range r ≡ false
    → Err (record { name = r.name; value = r.value }) ≡ verdict (first_bad (rows ++ r ∷ []))
last_refused rows r good out = sym (ap verdict (last_row rows r) ∙ behind_good (first_bad rows) (first_bad (r ∷ [])) good ∙ ap (λ b. verdict (alone r b)) out)

-- one before it isn't
pub row_refused : (rows : List Ranged) (r : Ranged) (bad : BadSetting) → Err bad ≡ verdict (first_bad rows)
    → Err bad ≡ verdict (first_bad (rows ++ r ∷ []))
row_refused rows r bad refused =
    behind_refused (first_bad rows) (first_bad (r ∷ [])) bad refused ∙ sym (ap verdict (last_row rows r))
