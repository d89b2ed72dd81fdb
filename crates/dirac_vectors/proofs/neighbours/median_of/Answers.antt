use Rattle.std.proofs.Common.{rules, ◌≡◌, subst, sym, to_z, of_z}
use Rattle.std.specs.Int.{w32}
use Rattle.dirac_vectors.specs.Neighbours.{IsShort, median}
use Rattle.dirac_vectors.proofs.Means.{median_short}
use Rattle.dirac_vectors.proofs.neighbours.median_of.Goals as goal

pub returns-clause-short : goal.returns-clause-short
returns-clause-short c =
    let middle : to_z w32 (of_z w32 c.max-2.result) ≡ median c.args.a c.args.b c.args.c = search rules in
    subst IsShort (sym middle) (median_short c.args.a c.args.b c.args.c c.requires.a c.requires.b c.requires.c)
