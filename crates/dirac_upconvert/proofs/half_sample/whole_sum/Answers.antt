use Rattle.std.proofs.Common.{◌≡◌, ◌-ℤ◌, ◌*ℤ◌, pos, to_z, of_z, arith, refl, ◌∙◌}
use Rattle.std.specs.Int.{w16}
use Rattle.std.proofs.lemmas.Int.{ints, to_z-of_z}
use Rattle.dirac_upconvert.proofs.half_sample.whole_sum.Goals as goal

pub returns-clause-value : goal.returns-clause-value
returns-clause-value c =
    let inner : to_z w16 (of_z w16 c.inner_sum.result) ≡ pos 21 *ℤ c.args.first -ℤ pos 7 *ℤ c.args.second = omega (arith, ints, c.inner_sum.ensures.value) in
    let outer : to_z w16 (of_z w16 c.outer_sum.result) ≡ pos 3 *ℤ c.args.third -ℤ c.args.fourth = omega (arith, ints, c.outer_sum.ensures.value) in
    to_z-of_z w16 _ (record { sfits = c.rounded_up.type_inv }) ∙ c.rounded_up.ensures.value ∙ rw (inner, outer) refl
