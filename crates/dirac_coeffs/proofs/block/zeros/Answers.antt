use Rattle.std.proofs.Common.{◌∙◌, arith, sym, true≢false}
use Rattle.std.proofs.lemmas.Nat.{mul-le}
use Rattle.dirac_coeffs.proofs.block.zeros.Goals as goal

pub returns-in-Ok-clause-wide : goal.returns-in-Ok-clause-wide
returns-in-Ok-clause-wide c = λ w n. n

pub returns-in-Err-clause-zeros : goal.returns-in-Err-clause-zeros
returns-in-Err-clause-zeros c = tt

pub returns-in-Err-clause-wide : goal.returns-in-Err-clause-wide
returns-in-Err-clause-wide c = λ w. tt

pub returns-in-Err-vec-clause-zeros : goal.returns-in-Err-vec-clause-zeros
returns-in-Err-vec-clause-zeros c = tt

pub returns-in-Err-vec-clause-wide : goal.returns-in-Err-vec-clause-wide
returns-in-Err-vec-clause-wide c = λ w. tt

pub returns-in-Ok-vec-clause-wide : goal.returns-in-Ok-vec-clause-wide
returns-in-Ok-vec-clause-wide c = λ w. absurd (true≢false (sym w ∙ c.if-wide.false))

pub overflow_mul-count : goal.overflow_mul-count
overflow_mul-count c = omega (arith, mul-le c.args.layout.width c.args.layout.height 8192 8192 c.requires.layout.width.1 c.requires.layout.height.1)
