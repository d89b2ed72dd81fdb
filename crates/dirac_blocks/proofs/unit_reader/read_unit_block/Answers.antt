use Rattle.std.proofs.Common.{arith}
use Rattle.dirac_blocks.proofs.unit_reader.read_unit_block.Goals as goal

pub returns-in-Modes-clause-value : goal.returns-in-Modes-clause-value
returns-in-Modes-clause-value c = rw c.in-Modes.is c.read_mode.ensures.value

pub returns-in-Modes-clause-block : goal.returns-in-Modes-clause-block
returns-in-Modes-clause-block c = c.read_mode.ensures.block

pub returns-in-Modes-clause-few_doublings : goal.returns-in-Modes-clause-few_doublings
returns-in-Modes-clause-few_doublings c = omega (arith, c.read_mode.ensures.few_doublings)

pub returns-in-Across-clause-value : goal.returns-in-Across-clause-value
returns-in-Across-clause-value c = rw c.in-Across.is c.read_vector.ensures.value

pub returns-in-Across-clause-block : goal.returns-in-Across-clause-block
returns-in-Across-clause-block c = c.read_vector.ensures.block

pub returns-in-Across-clause-few_doublings : goal.returns-in-Across-clause-few_doublings
returns-in-Across-clause-few_doublings c = c.read_vector.ensures.few_doublings

pub returns-in-Down-clause-value : goal.returns-in-Down-clause-value
returns-in-Down-clause-value c = rw c.in-Down.is c.read_vector-in-Down.ensures.value

pub returns-in-Down-clause-block : goal.returns-in-Down-clause-block
returns-in-Down-clause-block c = c.read_vector-in-Down.ensures.block

pub returns-in-Down-clause-few_doublings : goal.returns-in-Down-clause-few_doublings
returns-in-Down-clause-few_doublings c = c.read_vector-in-Down.ensures.few_doublings

pub returns-in-Dc-clause-value : goal.returns-in-Dc-clause-value
returns-in-Dc-clause-value c = rw c.in-Dc.is c.read_dc.ensures.value

pub returns-in-Dc-clause-block : goal.returns-in-Dc-clause-block
returns-in-Dc-clause-block c = c.read_dc.ensures.block

pub returns-in-Dc-clause-few_doublings : goal.returns-in-Dc-clause-few_doublings
returns-in-Dc-clause-few_doublings c = c.read_dc.ensures.few_doublings

pub read_mode-requires-clause-column : goal.read_mode-requires-clause-column
read_mode-requires-clause-column c = c.requires.column

pub read_mode-requires-clause-row : goal.read_mode-requires-clause-row
read_mode-requires-clause-row c = c.requires.row

pub read_vector-requires-clause-column : goal.read_vector-requires-clause-column
read_vector-requires-clause-column c = c.requires.column

pub read_vector-requires-clause-row : goal.read_vector-requires-clause-row
read_vector-requires-clause-row c = c.requires.row

pub read_vector-requires-in-Down-clause-column : goal.read_vector-requires-in-Down-clause-column
read_vector-requires-in-Down-clause-column c = c.requires.column

pub read_vector-requires-in-Down-clause-row : goal.read_vector-requires-in-Down-clause-row
read_vector-requires-in-Down-clause-row c = c.requires.row

pub read_dc-requires-clause-column : goal.read_dc-requires-clause-column
read_dc-requires-clause-column c = c.requires.column

pub read_dc-requires-clause-row : goal.read_dc-requires-clause-row
read_dc-requires-clause-row c = c.requires.row

pub read_mode-requires-clause-no_overflow : goal.read_mode-requires-clause-no_overflow
read_mode-requires-clause-no_overflow c = c.requires.no_overflow

pub read_vector-requires-clause-no_overflow : goal.read_vector-requires-clause-no_overflow
read_vector-requires-clause-no_overflow c = omega (arith, c.requires.no_overflow)

pub read_vector-requires-in-Down-clause-no_overflow : goal.read_vector-requires-in-Down-clause-no_overflow
read_vector-requires-in-Down-clause-no_overflow c = omega (arith, c.requires.no_overflow)

pub read_dc-requires-clause-no_overflow : goal.read_dc-requires-clause-no_overflow
read_dc-requires-clause-no_overflow c = omega (arith, c.requires.no_overflow)
