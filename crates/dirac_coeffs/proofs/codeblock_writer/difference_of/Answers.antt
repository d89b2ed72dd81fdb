use Rattle.std.proofs.Common.{ℤ, ◌^◌, ◌-◌, ◌<◌, subst, sym, unsigned_abs, arith}
use Rattle.std.proofs.lemmas.Int.{ints}
use Rattle.dirac_coeffs.proofs.Writing.{difference_small}
use Rattle.dirac_coeffs.proofs.codeblock_writer.difference_of.Goals as goal

pub returns-clause-value : goal.returns-clause-value
returns-clause-value c = omega (arith, ints)

pub returns-clause-magnitude_can_be_spelt : goal.returns-clause-magnitude_can_be_spelt
returns-clause-magnitude_can_be_spelt c =
    subst (λ (z : ℤ). unsigned_abs z < 2 ^ 39 - 1) (sym (returns-clause-value c)) (difference_small c.args.index c.args.former (omega arith) (omega arith))
