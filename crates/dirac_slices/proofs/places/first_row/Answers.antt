use Rattle.std.proofs.Common.{arith, refl}
use Rattle.std.proofs.lemmas.Nat.{mul-le}
use Rattle.dirac_slices.specs.Places.{first_row}
use Rattle.dirac_slices.proofs.Between.{rows_inside}
use Rattle.dirac_slices.proofs.places.first_row.Goals as goal

pub overflow_mul-scaled : goal.overflow_mul-scaled
overflow_mul-scaled c = omega (arith, mul-le c.args.height c.args.part 4096 64 c.requires.height (omega arith))

pub returns-clause-value : goal.returns-clause-value
unfolding first_row
returns-clause-value c = refl

pub returns-clause-inside : goal.returns-clause-inside
unfolding first_row
returns-clause-inside c = rows_inside c.args.height c.args.all c.args.part (omega arith) c.requires.part
