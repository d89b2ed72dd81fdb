use Rattle.std.proofs.Common.{◌≡◌, to_z, of_z, ◌∙◌}
use Rattle.std.specs.Int.{w32, w128}
use Rattle.std.proofs.lemmas.Int.{to_z-of_z}
use Rattle.dirac_lift.proofs.Signed.{product_fits, product_is, added_fits}
use Rattle.dirac_lift.proofs.step.multiply_add.Goals as goal

pub overflow_mul-result : goal.overflow_mul-result
overflow_mul-result c =
    let tap : to_z w128 (of_z w128 c.from.result) ≡ c.args.tap = to_z-of_z w128 _ (record { sfits = c.from.type_inv }) ∙ c.from.ensures ∙ to_z-of_z w32 _ c.ranges.tap in
    rw (tap, to_z-of_z w128 c.args.value c.ranges.value) (product_fits c.args.sum c.args.tap c.args.value c.requires)

pub overflow_add-result : goal.overflow_add-result
overflow_add-result c =
    let tap : to_z w128 (of_z w128 c.from.result) ≡ c.args.tap = to_z-of_z w128 _ (record { sfits = c.from.type_inv }) ∙ c.from.ensures ∙ to_z-of_z w32 _ c.ranges.tap in
    rw (to_z-of_z w128 c.args.sum c.ranges.sum, tap, to_z-of_z w128 c.args.value c.ranges.value, product_is c.args.sum c.args.tap c.args.value c.requires)
    (added_fits c.args.sum c.args.tap c.args.value c.requires)

pub returns : goal.returns
returns c =
    let tap : to_z w128 (of_z w128 c.from.result) ≡ c.args.tap = to_z-of_z w128 _ (record { sfits = c.from.type_inv }) ∙ c.from.ensures ∙ to_z-of_z w32 _ c.ranges.tap in
    rw (to_z-of_z w128 c.args.sum c.ranges.sum, tap, to_z-of_z w128 c.args.value c.ranges.value, product_is c.args.sum c.args.tap c.args.value c.requires)
    (to_z-of_z w128 _ (added_fits c.args.sum c.args.tap c.args.value c.requires))
