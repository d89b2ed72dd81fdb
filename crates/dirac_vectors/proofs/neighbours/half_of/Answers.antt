use Rattle.std.proofs.Common.{rules, ◌≡◌, subst, sym, to_z, of_z}
use Rattle.std.specs.Int.{w32}
use Rattle.dirac_vectors.specs.Neighbours.{IsShort, mean_of_two}
use Rattle.dirac_vectors.proofs.Means.{mean_of_two_short}
use Rattle.dirac_vectors.proofs.neighbours.half_of.Goals as goal

pub returns-clause-short : goal.returns-clause-short
returns-clause-short c =
    let mean : to_z w32 (of_z w32 c.div_euclid.result) ≡ mean_of_two c.args.a c.args.b = search rules in
    subst IsShort (sym mean) (mean_of_two_short c.args.a c.args.b c.requires.a c.requires.b)
