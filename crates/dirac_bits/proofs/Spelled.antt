-- A field is read exactly where the bits left begin with its spelling.
use Rattle.std.proofs.Common.{◌≡◌, ℕ, zero, suc, ◌+◌, ◌-◌, ◌*◌, ◌<◌, ◌≤◌, ◌^◌, ◌==◌, ℤ, pos, negsuc, Bool, true, false, List, [], ◌∷◌, ◌++◌, length, refl, sym, ap, subst, ◌∙◌, arith, pow_mono, Result, Ok, Err}
use Rattle.std.specs.Prelude.{unsigned_abs}
use Rattle.std.proofs.lemmas.Bool.{ne_eqb}
use Rattle.dirac_common.specs.declared.faults.Cause.{Cause}
use Rattle.dirac_common.specs.Bits.{bit_value, number_from}
use Rattle.dirac_common.specs.Numbers.{digits_of, followed, uint, sint}
use Rattle.dirac_common.proofs.Digits.{digits_value, digits_few, digits_are, number_from-below, number_from-some}
use Rattle.dirac_common.specs.Chain.{◌>>=◌}
use Rattle.dirac_bits.specs.Cursor.{Cursor, skip, bit_next, Passes}
use Rattle.dirac_bits.specs.Fields.{number_on, sign_on, signed_on, with_sign, from, flag_at, uint_at, sint_at}
use Rattle.dirac_bits.proofs.Doublings.{goes_on, ends_number}
use Rattle.dirac_bits.proofs.Passing.{same_answer, passes_bit, bit_passed, none_passed, passes_join, passes_front}

-- a field that isn't refused
pub from_ok : {A : Type 0} (c : Cursor) (r : Result (A × Cursor) Cause) (x : A) (d : Cursor) → from c r ≡ Ok (x, d) → r ≡ Ok (x, d)
from_ok c (Ok y) x d e = cc
from_ok c (Err cause) x d e = absurd cc

-- ---- digits

pub number_spelled : (bs : List Bool) (left value : ℕ) (c d : Cursor) → length bs ≤ left → Passes c (followed bs ++ true ∷ []) d
    → number_on left value c ≡ Ok (number_from value bs - 1, d)
number_spelled [] left value c d few p =
    let next = passes_bit true [] c d p in
    rw (none_passed (skip 1 c) d next.1) (ends_number left value c (skip 1 c) next.0)
number_spelled (b ∷ bs) left value c d few p =
    let follow = passes_bit false (b ∷ (followed bs ++ true ∷ [])) c d p in
    let digit = passes_bit b (followed bs ++ true ∷ []) (skip 1 c) d follow.1 in
    goes_on left value c (skip 1 c) (skip 1 (skip 1 c)) b (omega arith) follow.0 digit.0
    ∙ number_spelled bs (left - 1) (2 * value + bit_value b) (skip 1 (skip 1 c)) d (omega arith) digit.1

-- a number that was read: its digits
pub record Digits (left value : ℕ) (c : Cursor) (v : ℕ) (d : Cursor) : Type 0 where
  pub digits : List Bool
  pub few : length digits ≤ left
  pub value_is : v ≡ number_from value digits - 1
  pub passes : Passes c (followed digits ++ true ∷ []) d

-- a follow bit 1 ends it
no_more : (left value : ℕ) (c e : Cursor) (v : ℕ) (d : Cursor) → bit_next c ≡ Ok (true, e) → v ≡ value - 1 → e ≡ d → Digits left value c v d
no_more left value c e v d next is same = record {
  digits = [];
  few = omega arith;
  value_is = is;
  passes = subst (λ (m : Cursor). Passes c (true ∷ []) m) same (bit_passed true c e next);
}

one_more : (left value : ℕ) (b : Bool) (c e m : Cursor) (v : ℕ) (d : Cursor) → bit_next c ≡ Ok (false, e) → bit_next e ≡ Ok (b, m)
    → Digits left (2 * value + bit_value b) m v d → Digits (suc left) value c v d
one_more left value b c e m v d follow digit more = record {
  digits = b ∷ more.digits;
  few = omega (arith, more.few);
  value_is = more.value_is;
  passes =
      passes_join (false ∷ []) (b ∷ (followed more.digits ++ true ∷ [])) c e d (bit_passed false c e follow)
      (passes_join (b ∷ []) (followed more.digits ++ true ∷ []) e m d (bit_passed b e m digit) more.passes);
}

digit_cases : (left value : ℕ) (c e : Cursor) (v : ℕ) (d : Cursor) (next : Result (Bool × Cursor) Cause) → bit_next c ≡ Ok (false, e) → bit_next e ≡ next
    → (next >>= λ digit. number_on left (2 * value + bit_value digit.0) digit.1) ≡ Ok (v, d)
    → ((value : ℕ) (c : Cursor) → number_on left value c ≡ Ok (v, d) → Digits left value c v d)
    → Digits (suc left) value c v d
digit_cases left value c e v d (Ok x) follow digit is more =
    one_more left value x.0 c e x.1 v d follow digit (more (2 * value + bit_value x.0) x.1 is)
digit_cases left value c e v d (Err cause) follow digit is more = absurd cc

last_cases : (value : ℕ) (c : Cursor) (v : ℕ) (d : Cursor) (next : Result (Bool × Cursor) Cause) → bit_next c ≡ next
    → number_on 0 value c ≡ Ok (v, d) → Digits 0 value c v d
unfolding number_on
last_cases value c v d (Ok (true, e)) is whole =
    let same = same_answer (value - 1) v e d (number_on 0 value c) (rw is refl) whole in
    no_more 0 value c e v d is (sym same.0) same.1
last_cases value c v d (Ok (false, e)) is whole =
    let long = rw is at whole in
    absurd cc
last_cases value c v d (Err cause) is whole =
    let none = rw is at whole in
    absurd cc

follow_cases : (left value : ℕ) (c : Cursor) (v : ℕ) (d : Cursor) (next : Result (Bool × Cursor) Cause) → bit_next c ≡ next
    → number_on (suc left) value c ≡ Ok (v, d)
    → ((value : ℕ) (c : Cursor) → number_on left value c ≡ Ok (v, d) → Digits left value c v d)
    → Digits (suc left) value c v d
unfolding number_on
follow_cases left value c v d (Ok (true, e)) is whole more =
    let same = same_answer (value - 1) v e d (number_on (suc left) value c) (rw is refl) whole in
    no_more (suc left) value c e v d is (sym same.0) same.1
follow_cases left value c v d (Ok (false, e)) is whole more =
    digit_cases left value c e v d (bit_next e) is refl (rw is at whole) more
follow_cases left value c v d (Err cause) is whole more =
    let none = rw is at whole in
    absurd cc

pub number_read : (left value : ℕ) (c : Cursor) (v : ℕ) (d : Cursor) → number_on left value c ≡ Ok (v, d) → Digits left value c v d
number_read zero value c v d e = last_cases value c v d (bit_next c) refl e
number_read (suc left) value c v d e = follow_cases left value c v d (bit_next c) refl e (λ value' c'. number_read left value' c' v d)

-- ---- unsigned numbers

pub uint_on_spelled : (v : ℕ) (c d : Cursor) → v + 1 < 2 ^ 39 → Passes c (uint v) d → number_on 38 1 c ≡ Ok (v, d)
uint_on_spelled v c d below p =
    let same : number_from 1 (digits_of v) - 1 ≡ v = omega (arith, digits_value v below) in
    number_spelled (digits_of v) 38 1 c d (digits_few v) p ∙ ap (λ n. Ok (n, d)) same

pub uint_on_read : (v : ℕ) (c d : Cursor) → number_on 38 1 c ≡ Ok (v, d) → (v + 1 < 2 ^ 39) × Passes c (uint v) d
uint_on_read v c d e =
    let n = number_read 38 1 c v d e in
    let same : n.digits ≡ digits_of v = sym (ap digits_of n.value_is ∙ digits_are n.digits n.few) in
    let below = number_from-below 1 (length n.digits + 1) 1 n.digits (omega arith) (omega arith) in
    let some = number_from-some 1 n.digits (omega arith) in
    let few : length n.digits + 1 ≤ 39 = omega (arith, n.few) in
    let most : 2 ^ (length n.digits + 1) ≤ 2 ^ 39 = pow_mono few in
    (omega (arith, n.value_is), subst (λ (bs : List Bool). Passes c (followed bs ++ true ∷ []) d) same n.passes)

-- ---- signed numbers

-- a number above 0 has a sign
has_sign : (n : ℕ) → (suc n == 0) ≡ false
has_sign n = ne_eqb (suc n) 0 (λ e. absurd (omega (arith, e)))

pub sint_on_spelled : (v : ℤ) (c d : Cursor) → unsigned_abs v + 1 < 2 ^ 39 → Passes c (sint v) d → (number_on 38 1 c >>= sign_on) ≡ Ok (v, d)
unfolding sign_on
sint_on_spelled (pos zero) c d below p = rw (uint_on_spelled 0 c d below p) refl
sint_on_spelled (pos (suc n)) c d below p =
    let parts = passes_front (uint (suc n)) (false ∷ []) c d p in
    let m = skip (length (uint (suc n))) c in
    let sign = passes_bit false [] m d parts.1 in
    rw (uint_on_spelled (suc n) c m below parts.0, has_sign, sign.0, none_passed (skip 1 m) d sign.1) refl
sint_on_spelled (negsuc n) c d below p =
    let parts = passes_front (uint (suc n)) (true ∷ []) c d p in
    let m = skip (length (uint (suc n))) c in
    let sign = passes_bit true [] m d parts.1 in
    rw (uint_on_spelled (suc n) c m below parts.0, has_sign, sign.0, none_passed (skip 1 m) d sign.1) refl

-- a signed number that was read
pub record Signed (c : Cursor) (v : ℤ) (d : Cursor) : Type 0 where
  pub below : unsigned_abs v + 1 < 2 ^ 39
  pub passes : Passes c (sint v) d

sign_cases : (n : ℕ) (c m : Cursor) (v : ℤ) (d : Cursor) (next : Result (Bool × Cursor) Cause) → suc n + 1 < 2 ^ 39 → Passes c (uint (suc n)) m
    → bit_next m ≡ next → (next >>= with_sign (suc n)) ≡ Ok (v, d) → Signed c v d
sign_cases n c m v d (Ok (true, e)) below p is whole =
    let same = same_answer (negsuc n) v e d (with_sign (suc n) (true, e)) refl whole in
    let value : negsuc n ≡ v = same.0 in
    let behind : e ≡ d = same.1 in
    let passes = passes_join (uint (suc n)) (true ∷ []) c m e p (bit_passed true m e is) in
    subst (λ (z : ℤ). Signed c z d) value (record { below = below; passes = subst (λ (x : Cursor). Passes c (sint (negsuc n)) x) behind passes })
sign_cases n c m v d (Ok (false, e)) below p is whole =
    let same = same_answer (pos (suc n)) v e d (with_sign (suc n) (false, e)) refl whole in
    let value : pos (suc n) ≡ v = same.0 in
    let behind : e ≡ d = same.1 in
    let passes = passes_join (uint (suc n)) (false ∷ []) c m e p (bit_passed false m e is) in
    subst (λ (z : ℤ). Signed c z d) value (record { below = below; passes = subst (λ (x : Cursor). Passes c (sint (pos (suc n))) x) behind passes })
sign_cases n c m v d (Err cause) below p is whole = absurd cc

magnitude_cases : (n : ℕ) (c m : Cursor) (v : ℤ) (d : Cursor) → n + 1 < 2 ^ 39 → Passes c (uint n) m → sign_on (n, m) ≡ Ok (v, d) → Signed c v d
unfolding sign_on
magnitude_cases zero c m v d below p whole =
    let same = same_answer (pos 0) v m d (sign_on (0, m)) refl whole in
    let value : pos 0 ≡ v = same.0 in
    let behind : m ≡ d = same.1 in
    subst (λ (z : ℤ). Signed c z d) value (record { below = below; passes = subst (λ (x : Cursor). Passes c (uint 0) x) behind p })
magnitude_cases (suc n) c m v d below p whole = sign_cases n c m v d (bit_next m) below p refl (rw has_sign at whole)

signed_cases : (c : Cursor) (v : ℤ) (d : Cursor) (r : Result (ℕ × Cursor) Cause) → number_on 38 1 c ≡ r → (r >>= sign_on) ≡ Ok (v, d) → Signed c v d
signed_cases c v d (Ok x) is whole =
    let number = uint_on_read x.0 c x.1 is in
    magnitude_cases x.0 c x.1 v d number.0 number.1 whole
signed_cases c v d (Err cause) is whole = absurd cc

pub sint_on_read : (v : ℤ) (c d : Cursor) → (number_on 38 1 c >>= sign_on) ≡ Ok (v, d) → Signed c v d
sint_on_read v c d e = signed_cases c v d (number_on 38 1 c) refl e

-- ---- fields

pub flag_spelled : (b : Bool) (rest : List Bool) (c d : Cursor) → Passes c (b ∷ rest) d → flag_at c ≡ Ok (b, skip 1 c)
unfolding flag_at
flag_spelled b rest c d p = ap (from c) (passes_bit b rest c d p).0

pub flag_read : (b : Bool) (c d : Cursor) → flag_at c ≡ Ok (b, d) → Passes c (b ∷ []) d
unfolding flag_at
flag_read b c d e = bit_passed b c d (from_ok c (bit_next c) b d e)

pub uint_spelled : (v : ℕ) (c d : Cursor) → v + 1 < 2 ^ 39 → Passes c (uint v) d → uint_at c ≡ Ok (v, d)
unfolding uint_at
uint_spelled v c d below p = ap (from c) (uint_on_spelled v c d below p)

pub uint_read : (v : ℕ) (c d : Cursor) → uint_at c ≡ Ok (v, d) → (v + 1 < 2 ^ 39) × Passes c (uint v) d
unfolding uint_at
uint_read v c d e = uint_on_read v c d (from_ok c (number_on 38 1 c) v d e)

pub sint_spelled : (v : ℤ) (c d : Cursor) → unsigned_abs v + 1 < 2 ^ 39 → Passes c (sint v) d → sint_at c ≡ Ok (v, d)
unfolding sint_at
sint_spelled v c d below p = ap (from c) (sint_on_spelled v c d below p)

pub sint_read : (v : ℤ) (c d : Cursor) → sint_at c ≡ Ok (v, d) → Signed c v d
unfolding sint_at
sint_read v c d e = sint_on_read v c d (from_ok c (signed_on c) v d e)
