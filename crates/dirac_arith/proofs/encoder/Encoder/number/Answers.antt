use Rattle.std.proofs.Common.{◌≡◌, ◌+◌, ◌-◌, ◌/◌, ◌%◌, ◌^◌, ◌≤◌, ◌==◌, [], Bool, length, sym, ap, ◌∙◌, arith, inl, inr}
use Rattle.std.proofs.Math.Nat.{pow-le-pow_right}
use Rattle.std.proofs.lemmas.Bool.{cases_lt}
use Rattle.std.proofs.lemmas.List.{length_push}
use Rattle.dirac_common.specs.Numbers.{digits_of}
use Rattle.dirac_arith.specs.Interval.{narrowed_by}
use Rattle.dirac_arith.specs.Spelling.{opening_digits}
use Rattle.dirac_arith.proofs.Numbers.{digits_none}
use Rattle.dirac_arith.proofs.Encodings.{prefix_first, prefix_next, taken_digit, taken_last}
use Rattle.dirac_arith.proofs.encoder.Encoder.number.Goals as goal

pub digits-init : goal.digits-init
digits-init c =
    let log = c.ilog2-count.ensures in
    let first = prefix_first (c.args.value + 1) c.ilog2-count.result log.power_le log.next_power_gt in
    let none : digits_of ((c.args.value + 1) / 2 ^ (c.ilog2-count.result - 0) - 1) ≡ [] = ap digits_of first ∙ digits_none in
    record {
      taken = ap (λ ds. narrowed_by c.args.self.now (opening_digits c.args.follow.now c.args.bits 0 ds)) (sym none);
      digits = ap (length {A = Bool}) none;
    }

pub digits-preserved : goal.digits-preserved
digits-preserved c =
    let kept = c.digits.invariant in
    let log = c.ilog2-count.ensures in
    let wide = c.args.value + 1 in
    let count = c.ilog2-count.result in
    let most : count ≤ 38 =
    elim (cases_lt count 39) [
      | inl few ↦ omega arith
      | inr many ↦ let high = pow-le-pow_right {n = 2} (omega arith) {i = 39} {j = count} many in absurd (omega (arith, log.power_le, c.requires.value))
    ] in
    let next = prefix_next wide count c.digits.i (omega arith) most log.power_le log.next_power_gt in
    let digits = digits_of (wide / 2 ^ (count - c.digits.i) - 1) in
    let bit = wide / 2 ^ (count - 1 - c.digits.i) % 2 == 1 in
    record {
      taken =
          taken_digit c.args.self.now c.digits.self c.decision.new.self c.decision-in-digits.new.self c.args.follow.now c.args.bits c.follow_context.result c.digits.i digits bit
          kept.taken kept.digits c.follow_context.ensures.exact c.in_ok-decision.ensures.taken c.in_ok-decision-2.ensures.taken
          ∙ ap (λ ds. narrowed_by c.args.self.now (opening_digits c.args.follow.now c.args.bits 0 ds)) (sym next);
      digits = ap (length {A = Bool}) next ∙ length_push digits bit ∙ ap (λ n. n + 1) kept.digits;
    }

pub returns : goal.returns
returns c =
    let kept = c.digits.invariant in
    let wide = c.args.value + 1 in
    let count = c.ilog2-count.result in
    let w = wide / 2 ^ (count - c.digits.i) - 1 in
    let at : c.digits.i ≡ count = omega arith in
    let done : count - c.digits.i ≡ 0 = omega arith in
    let value : w ≡ c.args.value = rw done (omega arith) in
    taken_last c.args.self.now c.digits.self c.decision-2.new.self c.args.follow.now c.args.bits c.follow_context-2.result c.ilog2-count.result c.args.value w
    kept.taken (kept.digits ∙ at) c.follow_context-2.ensures.exact value c.in_ok-decision-3.ensures.taken
