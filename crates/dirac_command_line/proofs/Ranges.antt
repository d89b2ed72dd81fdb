-- How the numbers that words give beside settings are checked.
use Rattle.std.proofs.Common.{if◌then◌else◌, ◌≡◌, ℕ, ◌%◌, ◌^◌, ◌<◌, ◌≤◌, ◌==◌, ◌&&◌, nat_le, Bool, true, false, Option}
use Rattle.std.proofs.Common.{Some, None, Ok, Err, sym, ap, ap₂, arith}
use Rattle.std.proofs.lemmas.Bool.{le-leb, lt-leb, eq-eqb}
use Rattle.dirac_types.specs.declared.settings.BadSetting.{BadSetting}
use Rattle.dirac_types.specs.declared.settings.Name.TheVariants as name
use Rattle.dirac_types.specs.Settings.{is_in_range, setting, verdict}
use Rattle.dirac_command_line.specs.Checks.{bad_workers}

abbrev alone : ℕ → Bool → Option BadSetting
alone workers good = if good then None else Some (record { name = name.Workers; value = workers })

inside : (n : ℕ) → 1 ≤ n → n ≤ 64 → is_in_range (setting name.Workers n 1 64 1) ≡ true
inside n some few =
    ap₂ (λ (a b : Bool). a && b) (ap₂ (λ (a b : Bool). a && b) (le-leb 1 n some) (le-leb n 64 few))
    (eq-eqb (n % 1) 0 (omega arith))

below : (n : ℕ) → n < 1 → is_in_range (setting name.Workers n 1 64 1) ≡ false
below n few = ap (λ (a : Bool). (a && nat_le n 64) && (n % 1 == 0)) (lt-leb 1 n few)

above : (n : ℕ) → 64 < n → is_in_range (setting name.Workers n 1 64 1) ≡ false
above n more = ap₂ (λ (a b : Bool). (a && b) && (n % 1 == 0)) (le-leb 1 n (omega arith)) (lt-leb n 64 more)

-- from 1 to 64
pub accepted : (n : ℕ) → 1 ≤ n → n ≤ 64 → Ok tt ≡ verdict (bad_workers n)
unfolding bad_workers
accepted n some few = sym (ap (λ b. verdict (alone n b)) (inside n some few))

-- none, and too many
pub none : (n : ℕ) → n < 1 → Err (record { name = name.Workers; value = n }) ≡ verdict (bad_workers n)
unfolding bad_workers
none n few = sym (ap (λ b. verdict (alone n b)) (below n few))

pub many : (n : ℕ) → 64 < n → Err (record { name = name.Workers; value = n }) ≡ verdict (bad_workers n)
unfolding bad_workers
many n more = sym (ap (λ b. verdict (alone n b)) (above n more))

-- the number of pictures, which is checked behind the settings
pub count_in : (count : ℕ) → count ≤ 1000 → is_in_range (setting name.Count count 0 1000 1) ≡ true
count_in count few =
    ap₂ (λ (a b : Bool). a && b) (ap₂ (λ (a b : Bool). a && b) (le-leb 0 count (omega arith)) (le-leb count 1000 few)) (eq-eqb (count % 1) 0 (omega arith))

pub count_out : (count : ℕ) → 1000 < count → is_in_range (setting name.Count count 0 1000 1) ≡ false
count_out count many =
    ap₂ (λ (a b : Bool). (a && b) && (count % 1 == 0)) (le-leb 0 count (omega arith)) (lt-leb count 1000 many)

-- the budget, which is
pub budget_in : (budget : ℕ) → 14 ≤ budget → budget < 2 ^ 32
    → is_in_range (setting name.Budget budget 14 4294967295 1) ≡ true
budget_in budget some few =
    ap₂ (λ (a b : Bool). a && b) (ap₂ (λ (a b : Bool). a && b) (le-leb 14 budget some) (le-leb budget 4294967295 (omega (arith, few)))) (eq-eqb (budget % 1) 0 (omega arith))

pub budget_out : (budget : ℕ) → budget < 14 → is_in_range (setting name.Budget budget 14 4294967295 1) ≡ false
budget_out budget few = ap (λ (a : Bool). (a && nat_le budget 4294967295) && (budget % 1 == 0)) (lt-leb 14 budget few)
