use Rattle.std.specs.Int.{w32}
use Rattle.std.proofs.lemmas.Int.{to_z-of_z}
use Rattle.dirac_lift.proofs.HalfLemmas.{product_fits, product_is, added_fits}
use Rattle.dirac_lift.proofs.halves.multiply_add.Goals as goal

pub overflow_mul-result : goal.overflow_mul-result
overflow_mul-result c =
    rw (to_z-of_z w32 c.args.tap c.ranges.tap, to_z-of_z w32 c.args.value c.ranges.value) (product_fits c.args.sum c.args.tap c.args.value c.requires)

pub overflow_add-result : goal.overflow_add-result
overflow_add-result c =
    rw (to_z-of_z w32 c.args.sum c.ranges.sum, to_z-of_z w32 c.args.tap c.ranges.tap, to_z-of_z w32 c.args.value c.ranges.value, product_is c.args.sum c.args.tap c.args.value c.requires)
    (added_fits c.args.sum c.args.tap c.args.value c.requires)

pub returns : goal.returns
returns c =
    rw (to_z-of_z w32 c.args.sum c.ranges.sum, to_z-of_z w32 c.args.tap c.ranges.tap, to_z-of_z w32 c.args.value c.ranges.value, product_is c.args.sum c.args.tap c.args.value c.requires)
    (to_z-of_z w32 _ (added_fits c.args.sum c.args.tap c.args.value c.requires))
