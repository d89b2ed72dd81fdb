use Rattle.std.proofs.Common.{◌∙◌}
use Rattle.dirac_vectors.specs.Predictions.{vector_of}
use Rattle.dirac_block_table.specs.Neighbours.{vector_at}
use Rattle.dirac_block_table.proofs.Beside.{predicted_from}
use Rattle.dirac_block_table.proofs.neighbours.predicted_vector.Goals as goal

pub returns-clause-value : goal.returns-clause-value
returns-clause-value c =
    c.predict_vector.ensures.value ∙ predicted_from vector_of (vector_at c.args.reference c.args.table.now) c.args.i c.args.j _ _ _ c.near_vector-left.ensures.value c.near_vector-above.ensures.value c.near_vector-corner.ensures.value

pub near_vector-left-requires-clause-column : goal.near_vector-left-requires-clause-column
near_vector-left-requires-clause-column c = c.requires.column

pub near_vector-left-requires-clause-row : goal.near_vector-left-requires-clause-row
near_vector-left-requires-clause-row c = c.requires.row

pub near_vector-above-requires-clause-column : goal.near_vector-above-requires-clause-column
near_vector-above-requires-clause-column c = c.requires.column

pub near_vector-above-requires-clause-row : goal.near_vector-above-requires-clause-row
near_vector-above-requires-clause-row c = c.requires.row

pub near_vector-corner-requires-clause-column : goal.near_vector-corner-requires-clause-column
near_vector-corner-requires-clause-column c = c.requires.column

pub near_vector-corner-requires-clause-row : goal.near_vector-corner-requires-clause-row
near_vector-corner-requires-clause-row c = c.requires.row

pub predict_vector-requires-clause-left : goal.predict_vector-requires-clause-left
predict_vector-requires-clause-left c = c.near_vector-left.ensures.short

pub predict_vector-requires-clause-above : goal.predict_vector-requires-clause-above
predict_vector-requires-clause-above c = c.near_vector-above.ensures.short

pub predict_vector-requires-clause-corner : goal.predict_vector-requires-clause-corner
predict_vector-requires-clause-corner c = c.near_vector-corner.ensures.short
