use Rattle.std.proofs.Common.{arith}
use Rattle.std.specs.Int.{w16}
use Rattle.std.proofs.lemmas.Int.{to_z-of_z}
use Rattle.dirac_upconvert.proofs.Mixing.{sample_within}
use Rattle.dirac_upconvert.proofs.rows.beside_each_other.Goals as goal

pub returns-clause-within : goal.returns-clause-within
returns-clause-within c =
    rw (to_z-of_z w16 c.mix.result (record { sfits = c.mix.type_inv }))
    (c.mix.ensures.within 1
    (rw (to_z-of_z w16 c.args.a c.ranges.a) (sample_within 1 _ (omega arith) c.requires.a))
    (rw (to_z-of_z w16 c.args.b c.ranges.b) (sample_within 1 _ (omega arith) c.requires.b)))
