use Rattle.std.proofs.Common.{◌≡◌, ℤ, Result, Ok, ap, sym, ◌∙◌, w64, to_z, of_z, rules}
use Rattle.std.proofs.lemmas.Int.{to_z-of_z}
use Rattle.std.proofs.lemmas.Result.{err_from_is_err_and}
use Rattle.dirac_common.specs.Numbers.{signed_value}
use Rattle.dirac_common.specs.declared.faults.Cause.{Cause}
use Rattle.dirac_arith.specs.Reading.{Reading}
use Rattle.dirac_arith.proofs.Behind.{signed_ends, signed_shut_at_number, signed_shut_at_sign}
use Rattle.dirac_arith.proofs.decoder.Decoder.signed_behind.Goals as goal

pub returns-in_err-magnitude-clause-read : goal.returns-in_err-magnitude-clause-read
returns-in_err-magnitude-clause-read c =
    λ before open'.
    let p = err_from_is_err_and c.from_residual.result c.from_residual.ensures.1 in
    rw (p.1, p.2) (signed_shut_at_number c.args.follow.now c.args.bits c.args.sign before _ (c.in_err-magnitude.ensures.read before open'))

pub returns-in_err-negative-clause-read : goal.returns-in_err-negative-clause-read
returns-in_err-negative-clause-read c =
    λ before open'.
    let p = err_from_is_err_and c.from_residual-in_err-negative.result c.from_residual-in_err-negative.ensures.1 in
    let number = c.in_ok-magnitude.ensures.read before open' in
    rw (p.1, p.2) (signed_shut_at_sign c.args.follow.now c.args.bits c.args.sign c.in_ok-magnitude.magnitude before c.magnitude_behind.new.self _ number c.in_ok-magnitude.ensures.not_zero c.in_err-negative.ensures.read)

pub returns-clause-read : goal.returns-clause-read
returns-clause-read c =
    λ before open'.
    let number = c.in_ok-magnitude.ensures.read before open' in
    let value : to_z w64 (of_z w64 c.with_sign.result) ≡ signed_value c.in_ok-magnitude.magnitude c.in_ok-negative.negative = to_z-of_z w64 c.with_sign.result (search rules) ∙ c.with_sign.ensures.value in
    signed_ends c.args.follow.now c.args.bits c.args.sign c.in_ok-magnitude.magnitude before c.magnitude_behind.new.self c.decision.new.self c.in_ok-negative.negative number c.in_ok-magnitude.ensures.not_zero c.in_ok-negative.ensures.read
    ∙ ap (λ (v : ℤ). let x : Result (ℤ × Reading) Cause = Ok (v, c.decision.new.self) in x) (sym value)
