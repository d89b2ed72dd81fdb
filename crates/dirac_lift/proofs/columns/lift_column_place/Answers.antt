use Rattle.std.proofs.Common.{◌≡◌, pos, ◌+◌, ◌*◌, length, slice_index_or, slice_set, to_z, of_z, unsigned_abs, arith, ap, ap₂, ◌∙◌}
use Rattle.std.specs.Int.{w128}
use Rattle.std.proofs.lemmas.Int.{to_z-of_z}
use Rattle.std.proofs.lemmas.Nat.{mul-add-lt}
use Rattle.dirac_lift.specs.Level.{column}
use Rattle.dirac_lift.specs.Lifting.{moved, own, rounded, value_read, weighted}
use Rattle.dirac_lift.proofs.columns.lift_column_place.Goals as goal

pub weighted_in_column-sum-requires : goal.weighted_in_column-sum-requires
weighted_in_column-sum-requires c = record {
  len = c.requires.len;
  across = c.requires.across;
  parity = c.requires.parity;
  pair = c.requires.pair;
  values = c.requires.read;
  taps = c.requires.taps;
}

pub rounded_sum-requires-clause-sum : goal.rounded_sum-requires-clause-sum
rounded_sum-requires-clause-sum c = rw (to_z-of_z w128 _ (record { sfits = c.weighted_in_column-sum.type_inv })) c.weighted_in_column-sum.ensures.bound

pub moved_value-moved-requires : goal.moved_value-moved-requires
moved_value-moved-requires c =
    rw (to_z-of_z w128 _ (record { sfits = c.value_in_column.type_inv }), to_z-of_z w128 _ (record { sfits = c.rounded_sum.type_inv }))
    (omega (arith, ap unsigned_abs c.value_in_column.ensures, c.requires.changed, c.rounded_sum.ensures.bound))

pub bounds-values-y : goal.bounds-values-y
bounds-values-y c =
    omega (arith, c.requires.len, mul-add-lt (2 * c.args.n + c.args.step.parity) c.args.width c.args.x c.args.height (omega arith) c.requires.across)

pub returns : goal.returns
returns c =
    let s = c.args.step in
    let xs = column c.args.values.now c.args.width c.args.height c.args.x in
    let value : to_z w128 (of_z w128 c.value_in_column.result) ≡ slice_index_or xs (own s.parity c.args.n) (pos 0) =
    to_z-of_z w128 _ (record { sfits = c.value_in_column.type_inv }) ∙ c.value_in_column.ensures in
    let sum : to_z w128 (of_z w128 c.weighted_in_column-sum.result) ≡ weighted c.args.taps.now (value_read s.parity s.lead xs c.args.n) (length c.args.taps.now) =
    to_z-of_z w128 _ (record { sfits = c.weighted_in_column-sum.type_inv }) ∙ c.weighted_in_column-sum.ensures.value in
    let change : to_z w128 (of_z w128 c.rounded_sum.result) ≡ rounded s.shift (weighted c.args.taps.now (value_read s.parity s.lead xs c.args.n) (length c.args.taps.now)) =
    to_z-of_z w128 _ (record { sfits = c.rounded_sum.type_inv }) ∙ c.rounded_sum.ensures.value ∙ ap (rounded s.shift) sum in
    ap (slice_set c.args.values.now (own s.parity c.args.n * c.args.width + c.args.x))
    (to_z-of_z w128 _ (record { sfits = c.moved_value-moved.type_inv }) ∙ c.moved_value-moved.ensures ∙ ap₂ (moved s.minus) value change)
