use Rattle.std.specs.Int.{w16}
use Rattle.std.proofs.lemmas.Int.{to_z-of_z}
use Rattle.dirac_upconvert.proofs.Mixing.{product_fits, product_is, added_fits}
use Rattle.dirac_upconvert.proofs.parts.multiply_add.Goals as goal

pub overflow_mul-result : goal.overflow_mul-result
overflow_mul-result c =
    rw (to_z-of_z w16 c.args.weight c.ranges.weight, to_z-of_z w16 c.args.value c.ranges.value) (product_fits c.args.sum c.args.weight c.args.value c.requires)

pub overflow_add-result : goal.overflow_add-result
overflow_add-result c =
    rw (to_z-of_z w16 c.args.sum c.ranges.sum, to_z-of_z w16 c.args.weight c.ranges.weight, to_z-of_z w16 c.args.value c.ranges.value, product_is c.args.sum c.args.weight c.args.value c.requires)
    (added_fits c.args.sum c.args.weight c.args.value c.requires)

pub returns : goal.returns
returns c = record {
  value =
      rw (to_z-of_z w16 c.args.sum c.ranges.sum, to_z-of_z w16 c.args.weight c.ranges.weight, to_z-of_z w16 c.args.value c.ranges.value, product_is c.args.sum c.args.weight c.args.value c.requires)
      (to_z-of_z w16 _ (added_fits c.args.sum c.args.weight c.args.value c.requires));
}
