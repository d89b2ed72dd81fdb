-- What the tail of an encoder keeps as bits and bytes move.
use Rattle.std.proofs.Common.{◌≡◌, ℕ, suc, ◌+◌, ◌-◌, ◌*◌, ◌/◌, ◌%◌, ◌^◌, ◌<◌, ◌≤◌, List, [], ◌∷◌, ◌++◌, length, get_or, set, inl, inr, sym, ap, ◌∙◌, arith, subst, mul-le-mul_right, mod-eq_of_lt, length-set}
use Rattle.std.proofs.Math.Nat.{pow-le-pow_right}
use Rattle.std.proofs.lemmas.Bool.{cases_lt}
use Rattle.std.proofs.lemmas.Nat.{pow_pos, pow-add, shr_split, shr_below, shl_below, mod_below}
use Rattle.dirac_arith.specs.Interval.{doublings_for}
use Rattle.dirac_arith.specs.Tail.{Waiting, bytes_from}
use Rattle.dirac_arith.specs.Written.{number_in_bytes}
use Rattle.dirac_arith.proofs.Bytes.{bytes_push, bytes_of_number, bytes_set, pow_byte}
use Rattle.dirac_arith.proofs.Doublings.{widens}
use Rattle.dirac_arith.proofs.Fronts.{twice_pow}

-- the register has one bit more than waits, for a carry
pub pow17 : (p : ℕ) → 2 ^ (17 + p) ≡ 2 * 2 ^ (16 + p)
pow17 p = let e : 17 + p ≡ suc (16 + p) = omega arith in rw e (twice_pow (16 + p))

pub roomy : (register p range : ℕ) → register < 2 ^ (16 + p) → range ≤ 0xFFFF → register + range ≤ 2 ^ (17 + p)
roomy register p range below most =
    let full = pow-add 2 16 p in
    let some = pow_pos p in
    let double = pow17 p in
    omega arith

-- a carry out of the register finds a byte that takes it
pub carry_room : (bytes register p n : ℕ) → 2 ^ (16 + p) ≤ register → bytes * 2 ^ (16 + p) + register < 0xFFFF * 2 ^ (8 * n + p) → bytes + 1 < 2 ^ (8 * n)
carry_room bytes register p n above below =
    let low = pow-add 2 16 p in
    let all = pow-add 2 (8 * n) p in
    let over = rw low at above in
    let under = rw (low, all) at below in
    elim (cases_lt (bytes + 1) (2 ^ (8 * n))) [
      | inl fits ↦ fits
      | inr full ↦ let h = mul-le-mul_right {m = 2 ^ (8 * n)} {n = bytes + 1} (2 ^ p) full in absurd (omega arith)
    ]

-- one byte of the register written
pub record Writes (bs : List ℕ) (register p value : ℕ) : Type 0 where
  pub byte : register / 2 ^ (8 + p) < 256
  pub kept : bytes_from 0 (bs ++ (register / 2 ^ (8 + p)) ∷ []) * 2 ^ (16 + (p - 8)) + (register - register / 2 ^ (8 + p) * 2 ^ (8 + p) % 18446744073709551616) ≡ value
  pub below : register - register / 2 ^ (8 + p) * 2 ^ (8 + p) % 18446744073709551616 < 2 ^ (16 + (p - 8))

pub writes : (bs : List ℕ) (register p value : ℕ) → 8 ≤ p → p ≤ 47 → register < 2 ^ (16 + p) → bytes_from 0 bs * 2 ^ (16 + p) + register ≡ value → Writes bs register p value
writes bs register p value some most below is =
    let w = 2 ^ (8 + p) in
    let d = register / w in
    let exponent : 16 + (p - 8) ≡ 8 + p = omega arith in
    let eight : 8 + p + 8 ≡ 16 + p = omega arith in
    let grown = pow-add 2 (8 + p) 8 in
    let whole : 2 ^ (16 + p) ≡ w * 256 = rw eight at grown in
    let split = shr_split register (8 + p) in
    let rest = mod_below register w (pow_pos (8 + p)) in
    let high = pow-le-pow_right {n = 2} (omega arith) {i = 16 + p} {j = 63} (omega arith) in
    let exact : d * w % 18446744073709551616 ≡ d * w = mod-eq_of_lt (omega arith) in
    let turned : 16 + p ≡ 8 + (8 + p) = omega arith in
    let inside : register < 2 ^ (8 + (8 + p)) = rw (← turned) below in
    let same = rw whole at is in
    let pushed = bytes_push 0 bs d in
    record {
      byte = shr_below register 8 (8 + p) inside;
      kept = rw (exponent, exact, pushed) (omega arith);
      below = rw (exponent, exact) (omega arith);
    }

-- the register moved and doubled
pub record Advances (bytes register p amount count : ℕ) : Type 0 where
  pub exact : (register + amount) * 2 ^ count % 18446744073709551616 ≡ (register + amount) * 2 ^ count
  pub fits : (register + amount) * 2 ^ count < 2 ^ (17 + (p + count))
  pub value : bytes * 2 ^ (16 + (p + count)) + (register + amount) * 2 ^ count ≡ (bytes * 2 ^ (16 + p) + register + amount) * 2 ^ count

pub advances : (bytes register p amount count : ℕ) → register + amount < 2 ^ (17 + p) → p + count ≤ 47 → Advances bytes register p amount count
advances bytes register p amount count below room =
    let sum : 17 + p + count ≡ 17 + (p + count) = omega arith in
    let sum' : 16 + p + count ≡ 16 + (p + count) = omega arith in
    let doubled = shl_below (register + amount) (17 + p) count below in
    let fits = rw sum at doubled in
    let high = pow-le-pow_right {n = 2} (omega arith) {i = 17 + (p + count)} {j = 64} (omega arith) in
    let grown = pow-add 2 (16 + p) count in
    let whole = rw sum' at grown in
    record {
      exact = mod-eq_of_lt (omega arith);
      fits = fits;
      value = rw whole (omega arith);
    }

-- a view by its parts
pub same_waiting : (value value' doublings doublings' register register' pending pending' : ℕ)
    → value ≡ value' → doublings ≡ doublings' → register ≡ register' → pending ≡ pending'
    → let made : Waiting = record { value = value; doublings = doublings; register = register; pending = pending } in
    made ≡ record { value = value'; doublings = doublings'; register = register'; pending = pending' }
same_waiting value value' doublings doublings' register register' pending pending' v d r p =
    let make : ℕ → ℕ → ℕ → ℕ → Waiting = λ x y z w. record { value = x; doublings = y; register = z; pending = w } in
    ap (λ x. make x doublings register pending) v
    ∙ ap (λ x. make value' x register pending) d
    ∙ ap (λ x. make value' doublings' x pending) r
    ∙ ap (λ x. make value' doublings' register' x) p

-- where no bit waits the bytes hold the value
pub whole_bytes : (bs : List ℕ) (register p : ℕ) → ((i : ℕ) → get_or bs i 0 < 256) → p ≡ 0 → register < 65536
    → bs ≡ number_in_bytes ((8 * length bs + p) / 8) ((bytes_from 0 bs * 2 ^ (16 + p) + register) / 65536)
whole_bytes bs register p fits none below =
    let P : ℕ → Type 0 = λ q. bs ≡ number_in_bytes ((8 * length bs + q) / 8) ((bytes_from 0 bs * 2 ^ (16 + q) + register) / 65536) in
    let count : (8 * length bs + 0) / 8 ≡ length bs = omega arith in
    let number : (bytes_from 0 bs * 65536 + register) / 65536 ≡ bytes_from 0 bs = omega arith in
    let here : bs ≡ number_in_bytes ((8 * length bs + 0) / 8) ((bytes_from 0 bs * 65536 + register) / 65536) = rw (count, number) (sym (bytes_of_number bs fits)) in
    subst P (sym none) here

-- a part of a range after its doublings
pub part_widens : (part count : ℕ) → 32 < part → part ≤ 0xFFFF → count ≡ doublings_for part → (0x4000 < part * 2 ^ count % 4294967296) × (part * 2 ^ count % 4294967296 ≤ 0xFFFF)
part_widens part count some most counted =
    let moved = widens part (omega arith) most in
    let wide : 0x4000 < part * 2 ^ count = rw counted moved.wide in
    let narrow : part * 2 ^ count ≤ 0xFFFF = rw counted moved.narrow in
    let exact : part * 2 ^ count % 4294967296 ≡ part * 2 ^ count = mod-eq_of_lt (omega arith) in
    (rw exact wide, rw exact narrow)

-- one is added in this byte, or in one before it
pub carry_ends : (bs : List ℕ) (place old : ℕ) → 0 < place → place ≤ length bs → bytes_from 0 bs + 2 ^ (8 * (length bs - place)) ≡ old + 1
    → bytes_from 0 (set bs (place - 1) (get_or bs (place - 1) 0 + 1)) ≡ old + 1
carry_ends bs place old some inside sum =
    let p = place - 1 in
    let changed = bytes_set 0 bs p (get_or bs p 0 + 1) (length bs - place) (omega arith) in
    omega arith

pub carry_goes : (bs : List ℕ) (place old : ℕ) → 0 < place → place ≤ length bs → get_or bs (place - 1) 0 ≡ 255 → bytes_from 0 bs + 2 ^ (8 * (length bs - place)) ≡ old + 1
    → bytes_from 0 (set bs (place - 1) 0) + 2 ^ (8 * (length (set bs (place - 1) 0) - (place - 1))) ≡ old + 1
carry_goes bs place old some inside full sum =
    let p = place - 1 in
    let changed = bytes_set 0 bs p 0 (length bs - place) (omega arith) in
    let known = rw full at changed in
    let same = length-set bs p 0 in
    let e : length (set bs p 0) - p ≡ suc (length bs - place) = omega arith in
    rw (e, pow_byte (length bs - place)) (omega arith)
