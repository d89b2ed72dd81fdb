use Rattle.std.proofs.Common.{◌≡◌, suc, ◌+◌, ◌-◌, ◌*◌, Bool, true, false, Result, Ok, Err, ap, subst, sym, ◌∙◌, arith}
use Rattle.std.proofs.lemmas.Nat.{pow-add}
use Rattle.std.proofs.lemmas.Result.{err_from_is_err_and}
use Rattle.std.proofs.Math.Nat.{pow-le-pow_right}
use Rattle.dirac_common.specs.Bits.{bit_value}
use Rattle.dirac_common.specs.declared.faults.Cause.{Cause}
use Rattle.dirac_common.proofs.Digits.{bit_value-below}
use Rattle.dirac_arith.specs.Deciding.{decision_read, number_from_digit}
use Rattle.dirac_arith.specs.Reading.{Reading}
use Rattle.dirac_arith.specs.Spelling.{follow_at}
use Rattle.dirac_arith.proofs.Behind.{number_begins, number_ends, number_goes_on, number_shut_at, number_shut_first, number_too_long}
use Rattle.dirac_arith.proofs.Numbers.{bit_of_byte}
use Rattle.dirac_arith.proofs.decoder.Decoder.magnitude_behind.Goals as goal

pub returns-in_err-first-clause-read : goal.returns-in_err-first-clause-read
returns-in_err-first-clause-read c =
    λ before open'.
    let p = err_from_is_err_and c.from_residual.result c.from_residual.ensures.1 in
    rw (p.1, p.2) (number_shut_first c.args.follow.now c.args.bits before c.args.self.now _ open' c.in_err-first.ensures.read)

pub digits-init : goal.digits-init
digits-init c =
    let bit : c.from-value.result ≡ bit_value c.in_ok-first.first = c.from-value.ensures ∙ bit_of_byte c.in_ok-first.first in
    let small = bit_value-below c.in_ok-first.first in
    record {
      reads = λ before open'. rw bit (number_begins c.args.follow.now c.args.bits before c.args.self.now c.decision.new.self c.in_ok-first.first open' c.in_ok-first.ensures.read);
      start = omega arith;
      some = omega arith;
      below = omega (arith, bit, small);
      room = omega (arith, c.in_ok-first.ensures.few_doublings);
    }

pub returns-in_err-last-clause-read : goal.returns-in_err-last-clause-read
returns-in_err-last-clause-read c =
    λ before open'.
    let p = err_from_is_err_and c.from_residual-in_err-last.result c.from_residual-in_err-last.ensures.1 in
    let here = subst (λ context. decision_read context c.digits.self ≡ Err c.in_err-last.field-0.0) c.follow_context.ensures.exact c.in_err-last.ensures.read in
    rw (p.1, p.2) (c.digits.invariant.reads before open' ∙ number_shut_at c.args.follow.now c.args.bits c.digits.i (38 - c.digits.i) c.digits.value c.digits.self _ here)

pub returns-then-last-clause-read : goal.returns-then-last-clause-read
returns-then-last-clause-read c =
    λ before open'.
    let is = c.in_ok-last.ensures.read ∙ ap (λ (t : Bool). let x : Result (Bool × Reading) Cause = Ok (t, c.foreseen.new.self) in x) c.if-last.true in
    let here = subst (λ context. decision_read context c.digits.self ≡ Ok (true, c.foreseen.new.self)) c.follow_context.ensures.exact is in
    c.digits.invariant.reads before open' ∙ number_ends c.args.follow.now c.args.bits c.digits.i (38 - c.digits.i) c.digits.value c.digits.self c.foreseen.new.self here

pub returns-then-last-clause-below_2_39 : goal.returns-then-last-clause-below_2_39
returns-then-last-clause-below_2_39 c =
    let high = pow-le-pow_right {n = 2} (omega arith) {i = c.digits.i + 1} {j = 38} (omega arith) in
    omega (arith, c.digits.invariant.below)

pub digits-preserved : goal.digits-preserved
digits-preserved c =
    let kept = c.digits.invariant in
    let digit = c.in_ok-digit.ensures in
    let bit : c.from.result ≡ bit_value c.in_ok-digit.digit = c.from.ensures ∙ bit_of_byte c.in_ok-digit.digit in
    let small = bit_value-below c.in_ok-digit.digit in
    let twice = pow-add 2 (c.digits.i + 1) 1 in
    let left : 38 - c.digits.i ≡ suc (38 - (c.digits.i + 1)) = omega arith in
    let value : 2 * c.digits.value + bit_value c.in_ok-digit.digit ≡ c.digits.value * 2 + c.from.result = omega (arith, bit) in
    let is = c.in_ok-last.ensures.read ∙ ap (λ (t : Bool). let x : Result (Bool × Reading) Cause = Ok (t, c.foreseen.new.self) in x) c.if-last.false in
    let here = subst (λ context. decision_read context c.digits.self ≡ Ok (false, c.foreseen.new.self)) c.follow_context.ensures.exact is in
    record {
      reads = λ before open'.
          kept.reads before open'
          ∙ ap (λ n. number_from_digit c.args.follow.now c.args.bits c.digits.i n c.digits.value c.digits.self) left
          ∙ number_goes_on c.args.follow.now c.args.bits c.digits.i (38 - (c.digits.i + 1)) c.digits.value c.digits.self c.foreseen.new.self c.decision-in-digits.new.self c.in_ok-digit.digit here digit.read
          ∙ ap (λ v. number_from_digit c.args.follow.now c.args.bits (c.digits.i + 1) (38 - (c.digits.i + 1)) v c.decision-in-digits.new.self) value;
      start = omega arith;
      some = omega (arith, kept.some);
      below = omega (arith, kept.below, twice, bit, small);
      room = omega (arith, kept.room, c.in_ok-last.ensures.few_doublings, digit.few_doublings);
    }

pub returns-in_err-end-clause-read : goal.returns-in_err-end-clause-read
returns-in_err-end-clause-read c =
    λ before open'.
    let p = err_from_is_err_and c.from_residual-in_err-end.result c.from_residual-in_err-end.ensures.1 in
    let at : c.digits.i ≡ 38 = omega arith in
    let place = c.follow_context-2.ensures.exact ∙ ap (λ i. follow_at c.args.follow.now i) (sym at) in
    let here = subst (λ context. decision_read context c.digits.self ≡ Err c.in_err-end.field-0.0) place c.in_err-end.ensures.read in
    rw (p.1, p.2) (c.digits.invariant.reads before open' ∙ number_shut_at c.args.follow.now c.args.bits c.digits.i (38 - c.digits.i) c.digits.value c.digits.self _ here)

pub returns-then-end-clause-read : goal.returns-then-end-clause-read
returns-then-end-clause-read c =
    λ before open'.
    let at : c.digits.i ≡ 38 = omega arith in
    let place = c.follow_context-2.ensures.exact ∙ ap (λ i. follow_at c.args.follow.now i) (sym at) in
    let is = c.in_ok-end.ensures.read ∙ ap (λ (t : Bool). let x : Result (Bool × Reading) Cause = Ok (t, c.foreseen-2.new.self) in x) c.if-end.true in
    let here = subst (λ context. decision_read context c.digits.self ≡ Ok (true, c.foreseen-2.new.self)) place is in
    c.digits.invariant.reads before open' ∙ number_ends c.args.follow.now c.args.bits c.digits.i (38 - c.digits.i) c.digits.value c.digits.self c.foreseen-2.new.self here

pub returns-then-end-clause-below_2_39 : goal.returns-then-end-clause-below_2_39
returns-then-end-clause-below_2_39 c =
    let high = pow-le-pow_right {n = 2} (omega arith) {i = c.digits.i + 1} {j = 39} (omega arith) in
    omega (arith, c.digits.invariant.below)

pub returns-clause-read : goal.returns-clause-read
returns-clause-read c =
    λ before open'.
    let at : c.digits.i ≡ 38 = omega arith in
    let left : 38 - c.digits.i ≡ 0 = omega arith in
    let place = c.follow_context-2.ensures.exact ∙ ap (λ i. follow_at c.args.follow.now i) (sym at) in
    let is = c.in_ok-end.ensures.read ∙ ap (λ (t : Bool). let x : Result (Bool × Reading) Cause = Ok (t, c.foreseen-2.new.self) in x) c.if-end.false in
    let here = subst (λ context. decision_read context c.digits.self ≡ Ok (false, c.foreseen-2.new.self)) place is in
    c.digits.invariant.reads before open'
    ∙ ap (λ n. number_from_digit c.args.follow.now c.args.bits c.digits.i n c.digits.value c.digits.self) left
    ∙ number_too_long c.args.follow.now c.args.bits c.digits.i c.digits.value c.digits.self c.foreseen-2.new.self here
