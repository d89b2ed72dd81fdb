use Rattle.std.proofs.Common.{◌≡◌, ◌+◌, ◌-◌, ◌/◌, ◌≤◌, ◌^◌, ◌++◌, refl, arith, sym, ap, ◌∙◌, pow_mono}
use Rattle.dirac_common.specs.Numbers.{followed, digits_of, uint}
use Rattle.dirac_common.proofs.Digits.{power_doubled}
use Rattle.dirac_bits.specs.Writing.{bits_below}
use Rattle.dirac_bits.proofs.Runs.{uint_step, last_bit, digits_of-none, some_room}
use Rattle.dirac_bits.proofs.spelling.unsigned.Goals as goal

pub digits-init : goal.digits-init
digits-init c =
    let same : c.args.value + 1 - 1 ≡ c.args.value = omega arith in
    (rw (same, last_bit) refl, omega arith, omega arith, refl, omega arith, omega arith)

pub behind_digit-run-requires-clause-at_most_75 : goal.behind_digit-run-requires-clause-at_most_75
behind_digit-run-requires-clause-at_most_75 c =
    let room = some_room c.digits.rest (39 - c.digits.run.count / 2) (omega arith) c.digits.invariant.2 in
    omega arith

pub digits-preserved : goal.digits-preserved
digits-preserved c =
    let room = some_room c.digits.rest (39 - c.digits.run.count / 2) (omega arith) c.digits.invariant.2 in
    let most : 39 - c.digits.run.count / 2 ≤ 39 = omega arith in
    let power : 2 ^ (39 - c.digits.run.count / 2) ≤ 2 ^ 39 = pow_mono most in
    let twice = power_doubled (39 - c.digits.run.count / 2) (39 - c.digits.run.count / 2 - 1) (omega arith) in
    let left : 39 - c.behind_digit-run.result.count / 2 ≡ 39 - c.digits.run.count / 2 - 1 = omega (arith, c.behind_digit-run.ensures.count) in (
      rw (c.behind_digit-run.ensures.count, c.behind_digit-run.ensures.number)
          (uint_step c.digits.rest c.digits.run.count c.digits.run.number (uint c.args.value) (omega arith) (omega arith) c.digits.invariant.5 c.digits.invariant.0),
      omega arith,
      rw left (omega arith),
      omega (arith, c.behind_digit-run.ensures.count),
      omega (arith, c.behind_digit-run.ensures.count),
      c.behind_digit-run.ensures.fits,
    )

pub returns-clause-spelled : goal.returns-clause-spelled
returns-clause-spelled c =
    let none : c.digits.rest - 1 ≡ 0 = omega arith in
    let no_more = ap followed (ap digits_of none ∙ digits_of-none) in
    sym (ap (λ front. front ++ bits_below c.digits.run.count c.digits.run.number) no_more) ∙ c.digits.invariant.0
