-- Runs of bits behind bytes.
use Rattle.std.proofs.Common.{◌≡◌, ℕ, zero, suc, ◌+◌, ◌-◌, ◌*◌, ◌/◌, ◌%◌, ◌<◌, ◌≤◌, ◌^◌, ◌==◌, Bool, true, false, List, [], ◌∷◌, ◌++◌, length, take, set, refl, sym, ap, ◌∙◌, arith, append_assoc, length-append, pow_mono}
use Rattle.std.specs.Prelude.{replicate}
use Rattle.std.specs.Int.{from_bool}
use Rattle.std.proofs.lemmas.List.{append-nil}
use Rattle.std.proofs.lemmas.Grind.{take-set_at}
use Rattle.std.proofs.lemmas.Nat.{shl_whole, pow-add}
use Rattle.std.proofs.Math.Nat.{mul-le-mul_right}
use Rattle.dirac_common.specs.Bits.{byte_bits, bits_of}
use Rattle.dirac_common.proofs.Digits.{power_doubled}
use Rattle.dirac_bits.specs.Writing.{bits_below}
use Rattle.dirac_bits.proofs.Bits.{length-bits_of}
use Rattle.dirac_bits.proofs.Runs.{length-bits_below, bits_below-parts, bits_below-byte, bits_below-rest, bits_of-append}

-- ---- one bit more

from_bool-bit : (b : Bool) → (from_bool b == 1) ≡ b
from_bool-bit true = refl
from_bool-bit false = refl

pub from_bool-below : (b : Bool) → from_bool b < 2
from_bool-below true = omega arith
from_bool-below false = omega arith

pub bits_below-bit : (count n : ℕ) (b : Bool) → bits_below (count + 1) (2 * n + from_bool b) ≡ bits_below count n ++ b ∷ []
unfolding bits_below
bits_below-bit count n b =
    let below = from_bool-below b in
    let next : count + 1 ≡ suc count = omega arith in
    let half : (2 * n + from_bool b) / 2 ≡ n = omega arith in
    let last : (2 * n + from_bool b) % 2 ≡ from_bool b = omega arith in
    rw (next, half, last, from_bool-bit) refl

-- one bit
pub one_bit : (b : Bool) → bits_below 1 (from_bool b) ≡ b ∷ []
unfolding bits_below
one_bit true = refl
one_bit false = refl

pub bit_fits : (count n : ℕ) (b : Bool) → count ≤ 77 → n < 2 ^ count → (2 * n + from_bool b < 2 ^ (count + 1)) × (2 * n + from_bool b < 2 ^ 128)
bit_fits count n b few fits =
    let below = from_bool-below b in
    let twice = power_doubled (count + 1) count refl in
    let wide : count + 1 ≤ 128 = omega arith in
    let most : 2 ^ (count + 1) ≤ 2 ^ 128 = pow_mono wide in
    (omega arith, omega arith)

-- ---- bits in front

pub bits_joined : (used pending count n : ℕ) → used < 8 → pending < 2 ^ used → count ≤ 80 → n < 2 ^ count
    → (pending * 2 ^ count % 2 ^ 128 ≡ pending * 2 ^ count) × (pending * 2 ^ count + n < 2 ^ (used + count)) × (pending * 2 ^ count + n < 2 ^ 128)
bits_joined used pending count n small below few fits =
    let wide : used + count ≤ 128 = omega arith in
    let most : 2 ^ (used + count) ≤ 2 ^ 128 = pow_mono wide in
    let power : 2 ^ (used + count) ≡ 2 ^ used * 2 ^ count = pow-add 2 used count in
    let next : pending + 1 ≤ 2 ^ used = omega arith in
    let more : (pending + 1) * 2 ^ count ≤ 2 ^ used * 2 ^ count = mul-le-mul_right (2 ^ count) next in
    (shl_whole pending used count 128 below wide, omega arith, omega arith)

-- ---- whole bytes

pub byte_step : (bytes : List ℕ) (index left n : ℕ) (all : List Bool) → index < length bytes → 8 ≤ left
    → bits_of (take index bytes) ++ bits_below left n ≡ all
    → bits_of (take (index + 1) (set bytes index (n / 2 ^ (left - 8) % 256))) ++ bits_below (left - 8) n ≡ all
byte_step bytes index left n all inside some is =
    let byte = n / 2 ^ (left - 8) % 256 in
    let front = take-set_at bytes index (index + 1) byte refl inside in
    let count : 8 + (left - 8) ≡ left = omega arith in
    let parts : bits_below left n ≡ byte_bits byte [] ++ bits_below (left - 8) n =
    ap (λ k. bits_below k n) (sym count) ∙ bits_below-parts 8 (left - 8) n ∙ ap (λ bits. bits ++ bits_below (left - 8) n) (bits_below-byte (n / 2 ^ (left - 8))) in
    ap (λ xs. bits_of xs ++ bits_below (left - 8) n) front
    ∙ ap (λ bits. bits ++ bits_below (left - 8) n) (bits_of-append (take index bytes) (byte ∷ []))
    ∙ append_assoc (bits_of (take index bytes)) (byte_bits byte []) (bits_below (left - 8) n)
    ∙ ap (λ bits. bits_of (take index bytes) ++ bits) (sym parts)
    ∙ is

-- ---- what a writer holds

pub put_view : (items front : List ℕ) (used pending used' pending' : ℕ) (old run : List Bool)
    → bits_of items ++ bits_below used pending ≡ old
    → bits_of front ++ bits_below used' pending' ≡ bits_below used pending ++ run
    → bits_of (items ++ front) ++ bits_below used' pending' ≡ old ++ run
put_view items front used pending used' pending' old run is more =
    ap (λ bits. bits ++ bits_below used' pending') (bits_of-append items front)
    ∙ append_assoc (bits_of items) (bits_of front) (bits_below used' pending')
    ∙ ap (λ bits. bits_of items ++ bits) more
    ∙ sym (append_assoc (bits_of items) (bits_below used pending) run)
    ∙ ap (λ bits. bits ++ run) is

-- how many bits stand behind the whole bytes
pub used_is : (items : List ℕ) (used pending : ℕ) (old : List Bool) → used < 8 → bits_of items ++ bits_below used pending ≡ old → length old % 8 ≡ used
used_is items used pending old small is =
    let all = sym (ap length is) ∙ length-append (bits_of items) (bits_below used pending) in
    omega (arith, all, length-bits_of items, length-bits_below used pending)

no_bits : (used pending : ℕ) → used ≡ 0 → bits_below used pending ≡ []
unfolding bits_below
no_bits used pending e = rw e refl

pub whole_view : (items : List ℕ) (used pending : ℕ) (old : List Bool) → used < 8 → bits_of items ++ bits_below used pending ≡ old → length old % 8 ≡ 0 → bits_of items ≡ old
whole_view items used pending old small is whole =
    let none = no_bits used pending (sym (used_is items used pending old small is) ∙ whole) in
    sym (append-nil (bits_of items)) ∙ ap (λ bits. bits_of items ++ bits) (sym none) ∙ is

pub block_view : (items bytes : List ℕ) (used pending : ℕ) (old : List Bool) → used < 8 → bits_of items ++ bits_below used pending ≡ old → length old % 8 ≡ 0
    → bits_of (items ++ bytes) ++ bits_below used pending ≡ old ++ bits_of bytes
block_view items bytes used pending old small is whole =
    let none = no_bits used pending (sym (used_is items used pending old small is) ∙ whole) in
    put_view items bytes used pending used pending old (bits_of bytes) is
    (ap (λ bits. bits_of bytes ++ bits) none ∙ append-nil (bits_of bytes) ∙ ap (λ bits. bits ++ bits_of bytes) (sym none))

-- ---- gaps

one_more : (n : ℕ) → replicate n false ++ false ∷ [] ≡ false ∷ replicate n false
one_more zero = refl
one_more (suc n) = ap (λ bits. false ∷ bits) (one_more n)

pub bits_below-zero : (n : ℕ) → bits_below n 0 ≡ replicate n false
unfolding bits_below
bits_below-zero zero = refl
bits_below-zero (suc n) = ap (λ bits. bits ++ false ∷ []) (bits_below-zero n) ∙ one_more n

-- ---- a last part of a byte

-- what is left behind the whole bytes
pub rest_is : (left number used : ℕ) → left ≤ 7 → left ≡ used
    → (bits_below used (number % (1 * 2 ^ left % 2 ^ 128)) ≡ bits_below left number)
rest_is left number used few same =
    let power : 1 * 2 ^ left % 2 ^ 128 ≡ 2 ^ left = shl_whole 1 1 left 128 (omega arith) (omega arith) ∙ omega arith in
    rw (← same, power) (bits_below-rest left number)
