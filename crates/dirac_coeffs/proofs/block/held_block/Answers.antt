use Rattle.std.proofs.Common.{refl}
use Rattle.dirac_coeffs.proofs.block.held_block.Goals as goal

pub of_values-requires-clause-across : goal.of_values-requires-clause-across
of_values-requires-clause-across c = c.requires.layout.width

pub of_values-requires-clause-down : goal.of_values-requires-clause-down
of_values-requires-clause-down c = c.requires.layout.height

pub of_values-requires-clause-len : goal.of_values-requires-clause-len
of_values-requires-clause-len c = c.requires.len

pub returns-in-Ok : goal.returns-in-Ok
returns-in-Ok c = (c.in-Ok.ensures, refl)

pub returns-in-Err : goal.returns-in-Err
returns-in-Err c = tt
