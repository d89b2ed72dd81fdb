use Rattle.dirac_arith.proofs.registers.refill.Goals as goal

pub returns-clause-stands : goal.returns-clause-stands
returns-clause-stands c = λ low doublings h. c.refilled.ensures.stands c.args.registers.range low doublings h
