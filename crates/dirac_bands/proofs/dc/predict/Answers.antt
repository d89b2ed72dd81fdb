use Rattle.std.proofs.Common.{rules, ◌∙◌, pos, ◌-◌, ◌+◌, ◌*◌, slice_index_or}
use Rattle.std.specs.Int.{w128}
use Rattle.std.proofs.lemmas.Int.{to_z-of_z}
use mir.Val.{SFits}
use Rattle.dirac_bands.proofs.Predictions.{first_prediction, left_prediction, above_prediction, mean_prediction}
use Rattle.dirac_bands.proofs.dc.predict.Goals as goal

pub returns-then-x-eq0-clause-value : goal.returns-then-x-eq0-clause-value
returns-then-x-eq0-clause-value c =
    first_prediction c.args.values.now c.args.width c.args.x c.args.y c.if-y-eq0.true c.if-x-eq0.true

pub returns-else-x-eq0-clause-value : goal.returns-else-x-eq0-clause-value
returns-else-x-eq0-clause-value c =
    let fits : SFits w128 (slice_index_or c.args.values.now (c.args.y * c.args.width + c.args.x - 1) (pos 0)) = search rules in
    to_z-of_z w128 _ fits ∙ left_prediction c.args.values.now c.args.width c.args.x c.args.y c.if-y-eq0.true c.if-x-eq0.false

pub returns-then-x-eq0-2-clause-value : goal.returns-then-x-eq0-2-clause-value
returns-then-x-eq0-2-clause-value c =
    let fits : SFits w128 (slice_index_or c.args.values.now (c.args.y * c.args.width + c.args.x - c.args.width) (pos 0)) = search rules in
    to_z-of_z w128 _ fits ∙ above_prediction c.args.values.now c.args.width c.args.x c.args.y c.if-y-eq0.false c.if-x-eq0-2.true

pub returns-else-x-eq0-2-clause-value : goal.returns-else-x-eq0-2-clause-value
returns-else-x-eq0-2-clause-value c =
    let left : SFits w128 (slice_index_or c.args.values.now (c.args.y * c.args.width + c.args.x - 1) (pos 0)) = search rules in
    let above : SFits w128 (slice_index_or c.args.values.now (c.args.y * c.args.width + c.args.x - c.args.width) (pos 0)) = search rules in
    let corner : SFits w128 (slice_index_or c.args.values.now (c.args.y * c.args.width + c.args.x - c.args.width - 1) (pos 0)) = search rules in
    to_z-of_z w128 _ (record { sfits = c.mean.type_inv })
    ∙ mean_prediction c.args.values.now c.args.width c.args.x c.args.y c.mean.result c.if-y-eq0.false c.if-x-eq0-2.false (simp to_z-of_z at c.mean.ensures)
