use Rattle.dirac_blocks.proofs.unit_writer.write_unit.Goals as goal

pub returns-in-Modes : goal.returns-in-Modes
returns-in-Modes c = rw c.in-Modes.is c.write_modes.ensures

pub returns-in-Across : goal.returns-in-Across
returns-in-Across c = rw c.in-Across.is c.write_vector.ensures

pub returns-in-Down : goal.returns-in-Down
returns-in-Down c = rw c.in-Down.is c.write_vector-in-Down.ensures

pub returns-in-Dc : goal.returns-in-Dc
returns-in-Dc c = rw c.in-Dc.is c.write_dc.ensures

pub write_modes-requires-clause-column : goal.write_modes-requires-clause-column
write_modes-requires-clause-column c = c.requires.column

pub write_modes-requires-clause-row : goal.write_modes-requires-clause-row
write_modes-requires-clause-row c = c.requires.row

pub write_vector-requires-clause-column : goal.write_vector-requires-clause-column
write_vector-requires-clause-column c = c.requires.column

pub write_vector-requires-clause-row : goal.write_vector-requires-clause-row
write_vector-requires-clause-row c = c.requires.row

pub write_vector-requires-in-Down-clause-column : goal.write_vector-requires-in-Down-clause-column
write_vector-requires-in-Down-clause-column c = c.requires.column

pub write_vector-requires-in-Down-clause-row : goal.write_vector-requires-in-Down-clause-row
write_vector-requires-in-Down-clause-row c = c.requires.row

pub write_dc-requires-clause-column : goal.write_dc-requires-clause-column
write_dc-requires-clause-column c = c.requires.column

pub write_dc-requires-clause-row : goal.write_dc-requires-clause-row
write_dc-requires-clause-row c = c.requires.row
