use Rattle.std.proofs.Common.{arith, ◌∙◌, refl}
use Rattle.dirac_arith.proofs.Windows.{begins}
use Rattle.dirac_arith.proofs.registers.begin.Goals as goal

pub returns-clause-stands : goal.returns-clause-stands
returns-clause-stands c =
    let code = begins c.args.block.now c.from.result c.from-2.result (c.from.ensures ∙ c.byte_at.ensures) (c.from-2.ensures ∙ c.byte_at-2.ensures) (omega arith) (omega arith) in
    c.refill.ensures.stands 0 0 (record { code = omega arith; bits = refl })
