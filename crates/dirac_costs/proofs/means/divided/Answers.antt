use Rattle.std.proofs.Common.{◌≡◌, ℤ, pos, ◌+ℤ◌, ◌*◌, ◌*ℤ◌, to_z, of_z, arith, ap, ◌∙◌, sym, subst}
use Rattle.std.specs.Int.{int_div_euclid, w16, w32}
use Rattle.std.proofs.lemmas.Int.{ints, to_z-of_z}
use Rattle.dirac_upconvert.specs.HalfSamples.{IsSample}
use Rattle.dirac_costs.proofs.Quotients.{mean_sample}
use Rattle.dirac_costs.proofs.means.divided.Goals as goal

pub quotient-requires-clause-sample : goal.quotient-requires-clause-sample
quotient-requires-clause-sample c =
    let same : to_z w32 (of_z w32 c.doubled.result) ≡ pos 2 *ℤ c.args.total +ℤ pos c.args.count = omega (arith, ints, c.doubled.ensures.value, c.doubled.ensures.below_2_24) in
    subst (λ (z : ℤ). IsSample (int_div_euclid z (pos (2 * c.args.count)))) (sym same) (mean_sample c.args.total c.args.count c.requires.at_least_1 c.requires.total)

pub returns-clause-value : goal.returns-clause-value
returns-clause-value c =
    let same : to_z w32 (of_z w32 c.doubled.result) ≡ pos 2 *ℤ c.args.total +ℤ pos c.args.count = omega (arith, ints, c.doubled.ensures.value, c.doubled.ensures.below_2_24) in
    to_z-of_z w16 _ (record { sfits = c.quotient.type_inv }) ∙ c.quotient.ensures.value ∙ ap (λ z. int_div_euclid z (pos (2 * c.args.count))) same
