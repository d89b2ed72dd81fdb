use Rattle.std.proofs.Common.{◌≡◌, ◌+◌, ◌-◌, ◌≤◌, ◌^◌, arith, sym, ◌∙◌, pow_mono}
use Rattle.std.proofs.lemmas.Result.{err_from_is_err_and}
use Rattle.dirac_common.proofs.Digits.{power_doubled, bit_value-below}
use Rattle.dirac_common.specs.Bits.{bit_value}
use Rattle.dirac_bits.proofs.Doublings.{goes_on, ends_number, too_long, no_follow, no_digit, from_bool-bit_value}
use Rattle.dirac_bits.proofs.numbers.next_number.Goals as goal

pub returns-in_err-ends-clause-value : goal.returns-in_err-ends-clause-value
returns-in_err-ends-clause-value c =
    let p = err_from_is_err_and c.from_residual.result c.from_residual.ensures.1 in
    rw (p.1, p.2) (sym c.digits.invariant.0 ∙ no_follow _ _ _ _ c.in_err-ends.ensures.value)

pub returns-then-ends-clause-value : goal.returns-then-ends-clause-value
returns-then-ends-clause-value c =
    sym c.digits.invariant.0 ∙ ends_number _ _ _ _ (rw c.if-ends.true at c.in_ok-ends.ensures.value)

pub returns-then-ends-clause-below_2_39 : goal.returns-then-ends-clause-below_2_39
returns-then-ends-clause-below_2_39 c =
    let last : c.digits.doublings + 1 ≤ 38 = omega arith in
    let most : 2 ^ (c.digits.doublings + 1) ≤ 2 ^ 38 = pow_mono last in
    omega arith

pub returns-in_err-digit-clause-value : goal.returns-in_err-digit-clause-value
returns-in_err-digit-clause-value c =
    let p = err_from_is_err_and c.from_residual-in_err-digit.result c.from_residual-in_err-digit.ensures.1 in
    rw (p.1, p.2)
    (sym c.digits.invariant.0 ∙ no_digit _ _ _ _ _ (omega arith) (rw c.if-ends.false at c.in_ok-ends.ensures.value) c.in_err-digit.ensures.value)

pub digits-preserved : goal.digits-preserved
digits-preserved c =
    let digit = from_bool-bit_value c.in_ok-digit.digit in
    let same : c.from.result ≡ bit_value c.in_ok-digit.digit = c.from.ensures ∙ digit in
    let below = bit_value-below c.in_ok-digit.digit in
    let twice = power_doubled (c.digits.doublings + 1 + 1) (c.digits.doublings + 1) (omega arith) in
    let left : 38 - (c.digits.doublings + 1) ≡ 38 - c.digits.doublings - 1 = omega arith in (
      rw (left, same)
          (sym (goes_on (38 - c.digits.doublings) c.digits.value _ _ _ c.in_ok-digit.digit (omega arith) (rw c.if-ends.false at c.in_ok-ends.ensures.value) c.in_ok-digit.ensures.value) ∙ c.digits.invariant.0),
      omega arith,
      omega arith,
    )

pub returns-in_err-ends-2-clause-value : goal.returns-in_err-ends-2-clause-value
returns-in_err-ends-2-clause-value c =
    let p = err_from_is_err_and c.from_residual-in_err-ends-2.result c.from_residual-in_err-ends-2.ensures.1 in
    rw (p.1, p.2) (sym c.digits.invariant.0 ∙ no_follow _ _ _ _ c.in_err-ends-2.ensures.value)

pub returns-then-ends-2-clause-value : goal.returns-then-ends-2-clause-value
returns-then-ends-2-clause-value c =
    sym c.digits.invariant.0 ∙ ends_number _ _ _ _ (rw c.if-ends-2.true at c.in_ok-ends-2.ensures.value)

pub returns-else-ends-2-clause-value : goal.returns-else-ends-2-clause-value
returns-else-ends-2-clause-value c =
    let none : 38 - c.digits.doublings ≡ 0 = omega arith in
    sym c.digits.invariant.0 ∙ (rw none (too_long _ _ _ (rw c.if-ends-2.false at c.in_ok-ends-2.ensures.value)))
