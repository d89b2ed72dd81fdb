use Rattle.std.proofs.Common.{◌+◌, ◌%◌, ℕ, ap, ◌∙◌, arith, refl}
use Rattle.dirac_blocks.specs.Grammar.{with_split}
use Rattle.dirac_blocks.proofs.Shapes.{blocks_refl, split_found, split_refused, split_written}
use Rattle.dirac_blocks.proofs.split_reader.read_split.Goals as goal

pub overflow_add-split : goal.overflow_add-split
overflow_add-split c = omega (arith, c.in-Ok.ensures.below_2_39)

pub set_split-requires-clause-split : goal.set_split-requires-clause-split
set_split-requires-clause-split c = omega arith

pub set_split-requires-clause-grey : goal.set_split-requires-clause-grey
set_split-requires-clause-grey c = c.requires.grey

pub returns-in-Ok-clause-value : goal.returns-in-Ok-clause-value
returns-in-Ok-clause-value c =
    let t = c.args.table.now in
    split_found t _ c.args.sx c.args.sy c.in-Ok.number c.args.decoder.now c.number.new.self c.in-Ok.ensures.read
    (c.set_split.ensures.value ∙ ap (λ (p : ℕ). with_split t c.args.sx c.args.sy ((c.in-Ok.number + p) % 3)) c.predict_split_at-prediction.ensures.value)

pub returns-in-Ok-clause-blocks : goal.returns-in-Ok-clause-blocks
returns-in-Ok-clause-blocks c = split_written c.args.table.now _ c.args.sx c.args.sy _ c.set_split.ensures.value

pub returns-in-Ok-clause-few_doublings : goal.returns-in-Ok-clause-few_doublings
returns-in-Ok-clause-few_doublings c = c.number.ensures.few_doublings

pub returns-in-Err-clause-value : goal.returns-in-Err-clause-value
returns-in-Err-clause-value c = split_refused c.args.table.now c.args.sx c.args.sy c.args.decoder.now c.in-Err.cause c.in-Err.ensures.read

pub returns-in-Err-clause-blocks : goal.returns-in-Err-clause-blocks
returns-in-Err-clause-blocks c = blocks_refl c.args.table.now

pub returns-in-Err-clause-few_doublings : goal.returns-in-Err-clause-few_doublings
returns-in-Err-clause-few_doublings c = c.number.ensures.few_doublings

pub number-requires-clause-not_empty : goal.number-requires-clause-not_empty
number-requires-clause-not_empty c = omega arith

pub number-requires-clause-follow : goal.number-requires-clause-follow
number-requires-clause-follow c = refl

pub number-requires-clause-bits : goal.number-requires-clause-bits
number-requires-clause-bits c = omega arith

pub number-requires-clause-no_overflow : goal.number-requires-clause-no_overflow
number-requires-clause-no_overflow c = c.requires.no_overflow

pub predict_split_at-prediction-requires-clause-column : goal.predict_split_at-prediction-requires-clause-column
predict_split_at-prediction-requires-clause-column c = c.requires.column

pub predict_split_at-prediction-requires-clause-row : goal.predict_split_at-prediction-requires-clause-row
predict_split_at-prediction-requires-clause-row c = c.requires.row

pub set_split-requires-clause-across : goal.set_split-requires-clause-across
set_split-requires-clause-across c = c.requires.column

pub set_split-requires-clause-down : goal.set_split-requires-clause-down
set_split-requires-clause-down c = c.requires.row
