use Rattle.std.proofs.Common.{◌≡◌, arith, pos, ◌+ℤ◌, subst, sym, to_z, of_z, ap, ◌∙◌}
use Rattle.std.proofs.lemmas.Int.{ints}
use Rattle.std.specs.Int.{int_div_euclid, w32}
use Rattle.dirac_common.specs.Samples.{mean_of_three}
use Rattle.dirac_vectors.specs.Neighbours.{IsShort}
use Rattle.dirac_vectors.proofs.Means.{mean_of_three_short, passed}
use Rattle.dirac_vectors.proofs.neighbours.third_of.Goals as goal

pub returns-clause-value : goal.returns-clause-value
returns-clause-value c =
    let same : to_z w32 (of_z w32 (to_z w32 (of_z w32 (to_z w32 (of_z w32 (to_z w32 (of_z w32 c.args.a) +ℤ to_z w32 (of_z w32 c.args.b))) +ℤ to_z w32 (of_z w32 c.args.c))) +ℤ pos 1)) ≡ ((c.args.a +ℤ c.args.b) +ℤ c.args.c) +ℤ pos 1 = omega (arith, ints) in
    let mean : c.div_euclid.result ≡ mean_of_three c.args.a c.args.b c.args.c = c.div_euclid.ensures ∙ ap (λ z. int_div_euclid z (pos 3)) same in
    ap (λ z. to_z w32 (of_z w32 z)) mean ∙ passed (mean_of_three c.args.a c.args.b c.args.c) (mean_of_three_short c.args.a c.args.b c.args.c c.requires.a c.requires.b c.requires.c)

pub returns-clause-short : goal.returns-clause-short
returns-clause-short c = subst IsShort (sym (returns-clause-value c)) (mean_of_three_short c.args.a c.args.b c.args.c c.requires.a c.requires.b c.requires.c)
