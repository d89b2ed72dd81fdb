use Rattle.std.proofs.Common.{arith, refl}
use Rattle.dirac_blocks.proofs.split_writer.write_split.Goals as goal

pub split-split-requires-clause-across : goal.split-split-requires-clause-across
split-split-requires-clause-across c = c.requires.column

pub split-split-requires-clause-down : goal.split-split-requires-clause-down
split-split-requires-clause-down c = c.requires.row

pub predict_split_at-prediction-requires-clause-column : goal.predict_split_at-prediction-requires-clause-column
predict_split_at-prediction-requires-clause-column c = c.requires.column

pub predict_split_at-prediction-requires-clause-row : goal.predict_split_at-prediction-requires-clause-row
predict_split_at-prediction-requires-clause-row c = c.requires.row

pub number-requires-clause-not_empty : goal.number-requires-clause-not_empty
number-requires-clause-not_empty c = omega arith

pub number-requires-clause-follow : goal.number-requires-clause-follow
number-requires-clause-follow c = refl

pub number-requires-clause-bits : goal.number-requires-clause-bits
number-requires-clause-bits c = omega arith
