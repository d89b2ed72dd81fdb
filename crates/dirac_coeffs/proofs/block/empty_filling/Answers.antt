use Rattle.std.proofs.Common.{arith}
use Rattle.std.proofs.lemmas.Nat.{mul-le}
use Rattle.dirac_coeffs.proofs.block.empty_filling.Goals as goal

pub zeros-requires : goal.zeros-requires
zeros-requires c = record { layout = c.requires.layout }

pub overflow_mul-frame : goal.overflow_mul-frame
overflow_mul-frame c = omega (arith, mul-le c.args.frame.layout.across c.args.frame.layout.down 8192 8192 c.requires.layout.across.1 c.requires.layout.down.1)

pub returns-in-Ok-try_new-clause-zeros : goal.returns-in-Ok-try_new-clause-zeros
returns-in-Ok-try_new-clause-zeros c = c.in-Ok.ensures.zeros

pub returns-in-Ok-try_new-clause-equal : goal.returns-in-Ok-try_new-clause-equal
returns-in-Ok-try_new-clause-equal c = c.in-Ok-try_new.ensures

pub returns-in-Ok-try_new-clause-wide : goal.returns-in-Ok-try_new-clause-wide
returns-in-Ok-try_new-clause-wide c = c.in-Ok.ensures.wide
