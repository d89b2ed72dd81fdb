use Rattle.std.proofs.Common.{arith}
use Rattle.dirac_coeffs.proofs.offsets.note_former.Goals as goal

pub codeblock_place-c-requires-clause-layout : goal.codeblock_place-c-requires-clause-layout
codeblock_place-c-requires-clause-layout c = c.requires.block.layout

pub codeblock_place-c-requires-clause-row : goal.codeblock_place-c-requires-clause-row
codeblock_place-c-requires-clause-row c = c.requires.block.row

pub codeblock_place-c-requires-clause-column : goal.codeblock_place-c-requires-clause-column
codeblock_place-c-requires-clause-column c = c.requires.block.column

pub former_index-former-requires : goal.former_index-former-requires
former_index-former-requires c = omega (arith, c.codeblock_place-c.ensures.inside, c.requires.count)

pub set-requires : goal.set-requires
set-requires c = omega (arith, c.codeblock_place-c.ensures.inside, c.requires.count)
