-- What the registers stand for as they move.
use Rattle.std.proofs.Common.{◌≡◌, ℕ, suc, ◌+◌, ◌*◌, ◌^◌, ◌<◌, ◌≤◌, List, get_or, inl, inr, arith, mul-le-mul_right}
use Rattle.std.proofs.Math.Nat.{pow-le-pow_right}
use Rattle.std.proofs.lemmas.Nat.{pow_pos, pow-add}
use Rattle.std.proofs.lemmas.Bool.{cases_lt}
use Rattle.dirac_arith.specs.declared.registers.Registers.{Registers}
use Rattle.dirac_arith.specs.Front.{front, first_bits}
use Rattle.dirac_arith.specs.Interval.{Interval}
use Rattle.dirac_arith.specs.Carried.{Lies}
use Rattle.dirac_arith.specs.Registers.{Stands}
use Rattle.dirac_arith.proofs.Fronts.{front_longer, rest_below, front_byte, front_below}

pow8 : (n : ℕ) → 2 ^ (n + 8) ≡ 2 ^ n * 256
pow8 n = pow-add 2 n 8

-- one byte more behind the window
pub stands_byte : (block : List ℕ) (r : Registers) (low k byte : ℕ) → byte ≡ get_or block r.next 255 → byte < 256 → Stands block r low k
    → Stands block (record { window = r.window * 256 + byte; range = r.range; ahead = r.ahead + 8; next = r.next + 1 }) low k
stands_byte block r low k byte is fits stands =
    let known : get_or block r.next 255 < 256 = rw (← is) fits in
    let grown = front_byte block r.next known in
    let code = stands.code in
    let bits = stands.bits in
    record { code = rw (pow8 r.ahead) (omega arith); bits = omega arith }

-- a byte more fits behind the window
pub byte_fits : (window ahead byte : ℕ) → ahead ≤ 40 → byte < 256 → window < 65536 * 2 ^ ahead → window * 256 + byte < 18446744073709551616
byte_fits window ahead byte most fits below =
    let high = pow-le-pow_right {n = 2} (omega arith) {i = ahead} {j = 40} most in
    omega arith

-- a window below or not below a range stays so with one byte more
pub below_byte : (window range ahead byte : ℕ) → byte < 256 → window < range * 2 ^ ahead → window * 256 + byte < range * 2 ^ (ahead + 8)
below_byte window range ahead byte fits below = rw (pow8 ahead) (omega arith)

pub above_byte : (window range ahead byte : ℕ) → range * 2 ^ ahead ≤ window → range * 2 ^ (ahead + 8) ≤ window * 256 + byte
above_byte window range ahead byte above = rw (pow8 ahead) (omega arith)

-- a decision moves the low end by `lift`, and then doubles
pub stands_decided : (block : List ℕ) (r r' : Registers) (low k lift d : ℕ)
    → lift * 2 ^ r.ahead ≤ r.window → r'.window + lift * 2 ^ r.ahead ≡ r.window → r'.ahead + d ≡ r.ahead → r'.next ≡ r.next
    → Stands block r low k → Stands block r' ((low + lift) * 2 ^ d) (k + d)
stands_decided block r r' low k lift d fits window ahead next stands =
    let code : front block (8 * r'.next) ≡ low * 2 ^ r.ahead + r.window = rw next stands.code in
    let bits = stands.bits in
    let full : 2 ^ (r'.ahead + d) ≡ 2 ^ r'.ahead * 2 ^ d = pow-add 2 r'.ahead d in
    let whole : 2 ^ r.ahead ≡ 2 ^ r'.ahead * 2 ^ d = rw ahead at full in
    let moved = rw whole at code in
    let taken = rw whole at window in
    record { code = omega arith; bits = omega arith }

-- where the code lies, a window below the range is the front in the interval
pub lies_from_window : (block : List ℕ) (r : Registers) (s : Interval) → Stands block r s.low s.doublings → r.window < s.range * 2 ^ r.ahead → Lies block s
lies_from_window block r s stands below =
    let longer = front_longer block (16 + s.doublings) r.ahead in
    let rest = rest_below block (16 + s.doublings) r.ahead in
    let bits = stands.bits in
    let code = rw bits at stands.code in
    let positive = pow_pos r.ahead in
    record {
      above =
          elim (cases_lt (front block (16 + s.doublings)) s.low) [
            | inl less ↦ let h = mul-le-mul_right {m = suc (front block (16 + s.doublings))} {n = s.low} (2 ^ r.ahead) (omega arith) in absurd (omega arith)
            | inr more ↦ more
          ];
      below =
          elim (cases_lt (front block (16 + s.doublings)) (s.low + s.range)) [
            | inl less ↦ less
            | inr more ↦ let h = mul-le-mul_right {m = s.low + s.range} {n = front block (16 + s.doublings)} (2 ^ r.ahead) more in absurd (omega arith)
          ];
    }

-- and the other way round
pub window_from_lies : (block : List ℕ) (r : Registers) (s : Interval) → Stands block r s.low s.doublings → Lies block s → r.window < s.range * 2 ^ r.ahead
window_from_lies block r s stands lies =
    let longer = front_longer block (16 + s.doublings) r.ahead in
    let rest = rest_below block (16 + s.doublings) r.ahead in
    let bits = stands.bits in
    let code = rw bits at stands.code in
    let h = mul-le-mul_right {m = suc (front block (16 + s.doublings))} {n = s.low + s.range} (2 ^ r.ahead) (omega (arith, lies.below)) in
    omega arith

-- two bytes are the first sixteen bits of code
pub begins : (block : List ℕ) (first second : ℕ) → first ≡ get_or block 0 255 → second ≡ get_or block 1 255 → first < 256 → second < 256
    → front block 16 ≡ first * 256 + second
unfolding front first_bits
begins block first second first_is second_is first_fits second_fits =
    let a : get_or block 0 255 < 256 = rw (← first_is) first_fits in
    let b : get_or block 1 255 < 256 = rw (← second_is) second_fits in
    let one : front block 8 ≡ 0 * 256 + get_or block 0 255 = front_byte block 0 a in
    let two : front block 16 ≡ front block 8 * 256 + get_or block 1 255 = front_byte block 1 b in
    omega arith

-- the code is past the first range exactly where the block begins with sixteen ones
pub past_is_ones : (block : List ℕ) (r : Registers) → Stands block r 0 0 → 65535 * 2 ^ r.ahead ≤ r.window → front block 16 ≡ 65535
past_is_ones block r stands past =
    let longer = front_longer block 16 r.ahead in
    let rest = rest_below block 16 r.ahead in
    let code = rw stands.bits at stands.code in
    let high = front_below block 16 in
    elim (cases_lt (front block 16) 65535) [
      | inl less ↦ let h = mul-le-mul_right {m = suc (front block 16)} {n = 65535} (2 ^ r.ahead) less in absurd (omega arith)
      | inr more ↦ omega arith
    ]

pub inside_not_ones : (block : List ℕ) (r : Registers) → Stands block r 0 0 → r.window < 65535 * 2 ^ r.ahead → front block 16 ≡ 65535 → ⊥
inside_not_ones block r stands inside ones =
    let longer = front_longer block 16 r.ahead in
    let whole = rw ones at longer in
    let code = rw stands.bits at stands.code in
    omega arith
