use Rattle.std.proofs.Common.{◌≡◌, ◌+◌, ◌-◌, ◌^◌, ◌<◌, Bool, length, ap, subst, ◌∙◌, arith}
use Rattle.std.proofs.Math.Nat.{pow-le-pow_right}
use Rattle.std.proofs.lemmas.Nat.{pow-add}
use Rattle.dirac_common.specs.Numbers.{digits_of}
use Rattle.dirac_common.specs.Bits.{bit_value}
use Rattle.dirac_common.proofs.Digits.{bit_value-below}
use Rattle.dirac_arith.specs.Front.{front}
use Rattle.dirac_arith.specs.Reading.{Reading, DecisionsAreRead}
use Rattle.dirac_arith.specs.Spelling.{spelt}
use Rattle.dirac_arith.proofs.Numbers.{reads_spelt, reads_spelling, reads_digit, digits_grow, digits_none, reads_none, bit_of_byte}
use Rattle.dirac_arith.proofs.decoder.Decoder.read_number.Goals as goal

pub digits-init : goal.digits-init
digits-init c =
    record {
      reads = reads_none c.args.self.now c.args.follow.now c.args.bits;
      some = omega arith;
      below = omega arith;
      digits = ap length digits_none;
      room = omega arith;
      alive = λ some. absurd (omega arith);
    }

pub returns-then-last-clause-found : goal.returns-then-last-clause-found
returns-then-last-clause-found c =
    let kept = c.digits.invariant in
    let taken = c.in_ok-last.ensures in
    reads_spelling c.args.self.now c.digits.self c.foreseen.new.self c.args.follow.now c.args.bits c.follow_context.result c.digits.i (c.digits.value - 1) c.in_ok-last.last
    kept.reads kept.digits c.follow_context.ensures.exact c.if-last.true taken.narrows taken.lies_inside

pub returns-then-last-clause-below_2_39 : goal.returns-then-last-clause-below_2_39
returns-then-last-clause-below_2_39 c =
    let high = pow-le-pow_right {n = 2} (omega arith) {i = c.digits.i + 1} {j = 39} (omega arith) in
    omega (arith, c.digits.invariant.below)

pub digits-preserved : goal.digits-preserved
digits-preserved c =
    let kept = c.digits.invariant in
    let taken = c.in_ok-last.ensures in
    let digit = c.in_ok-digit.ensures in
    let high = pow-le-pow_right {n = 2} (omega arith) {i = c.digits.i + 1} {j = 38} (omega arith) in
    let fits : c.digits.value < 2 ^ 38 = omega (arith, kept.below) in
    let bit : c.from.result ≡ bit_value c.in_ok-digit.digit = c.from.ensures ∙ bit_of_byte c.in_ok-digit.digit in
    let small = bit_value-below c.in_ok-digit.digit in
    let twice = pow-add 2 (c.digits.i + 1) 1 in
    record {
      reads =
          reads_digit c.args.self.now c.digits.self c.foreseen.new.self c.decision.new.self c.args.follow.now c.args.bits c.follow_context.result
          c.digits.i c.digits.value c.from.result c.in_ok-last.last c.in_ok-digit.digit
          kept.reads kept.digits c.follow_context.ensures.exact c.if-last.false taken.narrows taken.lies_inside digit.narrows digit.lies_inside bit kept.some fits;
      some = omega (arith, kept.some);
      below = omega (arith, kept.below, twice, bit, small);
      digits = digits_grow c.digits.value c.digits.i c.from.result c.in_ok-digit.digit kept.digits bit kept.some fits;
      room = omega (arith, kept.room, taken.few_doublings, digit.few_doublings);
      alive = λ some e. let there = ap (λ (x : Reading). front x.block 16) kept.reads.moved ∙ e in let bad = taken.refused.1 there in cc;
    }

pub returns-then-end-clause-found : goal.returns-then-end-clause-found
returns-then-end-clause-found c =
    let kept = c.digits.invariant in
    let taken = c.in_ok-end.ensures in
    let count : length (digits_of (c.digits.value - 1)) ≡ 38 = kept.digits ∙ omega arith in
    reads_spelling c.args.self.now c.digits.self c.foreseen-2.new.self c.args.follow.now c.args.bits c.follow_context-2.result 38 (c.digits.value - 1) c.in_ok-end.end
    kept.reads count c.follow_context-2.ensures.exact c.if-end.true taken.narrows taken.lies_inside

pub returns-clause-long : goal.returns-clause-long
returns-clause-long c =
    λ e.
    let kept = c.digits.invariant in
    let taken = c.in_ok-end.ensures in
    let digits = digits_of (c.digits.value - 1) in
    let count : length digits ≡ 38 = kept.digits ∙ omega arith in
    let P : Bool → Type 0 = λ t. DecisionsAreRead c.args.self.now (spelt c.args.follow.now c.args.bits digits t) c.foreseen-2.new.self in (
      digits,
      count,
      subst P c.if-end.false
          (reads_spelt c.args.self.now c.digits.self c.foreseen-2.new.self c.args.follow.now c.args.bits c.follow_context-2.result 38 digits c.in_ok-end.end
          kept.reads count c.follow_context-2.ensures.exact taken.narrows taken.lies_inside),
    )
