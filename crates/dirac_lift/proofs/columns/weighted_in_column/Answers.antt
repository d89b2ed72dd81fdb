use Rattle.std.proofs.Common.{rules, ◌≡◌, ◌+◌, ◌-◌, ◌*◌, ◌/◌, pos, slice_index_or, to_z, of_z, length, arith, refl, ap, ◌∙◌}
use Rattle.std.specs.Int.{w32, w128}
use Rattle.std.proofs.lemmas.Int.{to_z-of_z}
use mir.Val.{SFits}
use Rattle.dirac_lift.specs.Level.{column}
use Rattle.dirac_lift.specs.Lifting.{other, pair_read, value_read}
use Rattle.dirac_lift.proofs.ColumnLemmas.{length-column}
use Rattle.dirac_lift.proofs.Weighted.{tap_fits, sum_fits, place_within, weighted_more}
use Rattle.dirac_lift.proofs.columns.weighted_in_column.Goals as goal

pub multiply_add-sum-requires : goal.multiply_add-sum-requires
multiply_add-sum-requires c =
    let tap : SFits w32 (slice_index_or c.args.taps.now c.loop-k.k (pos 0)) = search rules in
    tap_fits c.args.taps.now (value_read c.args.step.parity c.args.step.lead (column c.args.values.now c.args.width c.args.height c.args.x) c.args.n) c.loop-k.k _ _
    (to_z w128 (of_z w128 c.value_in_column.result))
    c.loop-k.invariant (to_z-of_z w32 _ tap)
    (place_within _ _ (column c.args.values.now c.args.width c.args.height c.args.x) (2 * c.min-pair.result + (1 - c.args.step.parity)) c.min-pair.result _ c.requires.values refl
    (to_z-of_z w128 _ (record { sfits = c.value_in_column.type_inv }) ∙ c.value_in_column.ensures))
    (λ k. c.requires.values _) c.loop-k-test.true c.requires.taps

pub loop-k-preserved : goal.loop-k-preserved
loop-k-preserved c =
    let tap : SFits w32 (slice_index_or c.args.taps.now c.loop-k.k (pos 0)) = search rules in
    let pair : c.min-pair.result ≡ pair_read c.args.step.lead (length (column c.args.values.now c.args.width c.args.height c.args.x) / 2) c.args.n c.loop-k.k =
    omega (arith, length-column c.args.values.now c.args.width c.args.height c.args.x) in
    weighted_more c.args.taps.now (value_read c.args.step.parity c.args.step.lead (column c.args.values.now c.args.width c.args.height c.args.x) c.args.n) c.loop-k.k
    _ _ (to_z w128 (of_z w128 c.value_in_column.result)) _
    c.loop-k.invariant (to_z-of_z w32 _ tap)
    (to_z-of_z w128 _ (record { sfits = c.value_in_column.type_inv }) ∙ c.value_in_column.ensures
    ∙ ap (λ p. slice_index_or (column c.args.values.now c.args.width c.args.height c.args.x) (other c.args.step.parity p) (pos 0)) pair)
    (to_z-of_z w128 _ (record { sfits = c.multiply_add-sum.type_inv }) ∙ c.multiply_add-sum.ensures)

pub returns-clause-bound : goal.returns-clause-bound
returns-clause-bound c =
    sum_fits c.args.taps.now (value_read c.args.step.parity c.args.step.lead (column c.args.values.now c.args.width c.args.height c.args.x) c.args.n) c.loop-k.k _
    c.loop-k.invariant (omega arith) (λ k. c.requires.values _) c.requires.taps
