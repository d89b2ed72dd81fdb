use Rattle.std.proofs.Common.{◌≡◌, ◌∙◌, of_z, to_z, w32}
use Rattle.std.proofs.lemmas.Int.{to_z-of_z}
use Rattle.dirac_vectors.specs.Predictions.{dc_of}
use Rattle.dirac_block_table.specs.Neighbours.{dc_at}
use Rattle.dirac_block_table.proofs.Beside.{predicted_from}
use Rattle.dirac_block_table.proofs.neighbours.predicted_dc.Goals as goal

pub returns-clause-value : goal.returns-clause-value
returns-clause-value c =
    let stored : to_z w32 (of_z w32 c.predict_dc.result) ≡ c.predict_dc.result = to_z-of_z w32 _ (record { sfits = c.predict_dc.type_inv }) in
    stored ∙ c.predict_dc.ensures.value ∙ predicted_from dc_of (dc_at c.args.component c.args.table.now) c.args.i c.args.j _ _ _ c.near_dc-left.ensures.value c.near_dc-above.ensures.value c.near_dc-corner.ensures.value

pub near_dc-left-requires-clause-column : goal.near_dc-left-requires-clause-column
near_dc-left-requires-clause-column c = c.requires.column

pub near_dc-left-requires-clause-row : goal.near_dc-left-requires-clause-row
near_dc-left-requires-clause-row c = c.requires.row

pub near_dc-above-requires-clause-column : goal.near_dc-above-requires-clause-column
near_dc-above-requires-clause-column c = c.requires.column

pub near_dc-above-requires-clause-row : goal.near_dc-above-requires-clause-row
near_dc-above-requires-clause-row c = c.requires.row

pub near_dc-corner-requires-clause-column : goal.near_dc-corner-requires-clause-column
near_dc-corner-requires-clause-column c = c.requires.column

pub near_dc-corner-requires-clause-row : goal.near_dc-corner-requires-clause-row
near_dc-corner-requires-clause-row c = c.requires.row

pub predict_dc-requires-clause-left : goal.predict_dc-requires-clause-left
predict_dc-requires-clause-left c = c.near_dc-left.ensures.short

pub predict_dc-requires-clause-above : goal.predict_dc-requires-clause-above
predict_dc-requires-clause-above c = c.near_dc-above.ensures.short

pub predict_dc-requires-clause-corner : goal.predict_dc-requires-clause-corner
predict_dc-requires-clause-corner c = c.near_dc-corner.ensures.short
