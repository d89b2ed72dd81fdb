use Rattle.std.proofs.Common.{◌∙◌, Some}
use Rattle.dirac_vectors.specs.Predictions.{split_of}
use Rattle.dirac_block_table.specs.Tables.{split_at}
use Rattle.dirac_block_table.proofs.Beside.{predicted_from}
use Rattle.dirac_block_table.proofs.neighbours.predict_split_at.Goals as goal

pub returns-clause-value : goal.returns-clause-value
returns-clause-value c =
    c.predict_split.ensures.value ∙ predicted_from split_of (λ x y. Some (split_at c.args.table.now x y)) c.args.sx c.args.sy _ _ _ c.near_split-left.ensures.value c.near_split-above.ensures.value c.near_split-corner.ensures.value

pub near_split-left-requires-clause-column : goal.near_split-left-requires-clause-column
near_split-left-requires-clause-column c = c.requires.column

pub near_split-left-requires-clause-row : goal.near_split-left-requires-clause-row
near_split-left-requires-clause-row c = c.requires.row

pub near_split-above-requires-clause-column : goal.near_split-above-requires-clause-column
near_split-above-requires-clause-column c = c.requires.column

pub near_split-above-requires-clause-row : goal.near_split-above-requires-clause-row
near_split-above-requires-clause-row c = c.requires.row

pub near_split-corner-requires-clause-column : goal.near_split-corner-requires-clause-column
near_split-corner-requires-clause-column c = c.requires.column

pub near_split-corner-requires-clause-row : goal.near_split-corner-requires-clause-row
near_split-corner-requires-clause-row c = c.requires.row

pub predict_split-requires-clause-left : goal.predict_split-requires-clause-left
predict_split-requires-clause-left c = c.near_split-left.ensures.at_most_2

pub predict_split-requires-clause-above : goal.predict_split-requires-clause-above
predict_split-requires-clause-above c = c.near_split-above.ensures.at_most_2

pub predict_split-requires-clause-corner : goal.predict_split-requires-clause-corner
predict_split-requires-clause-corner c = c.near_split-corner.ensures.at_most_2
