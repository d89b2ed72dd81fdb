use Rattle.std.proofs.Common.{arith, refl}
use Rattle.std.proofs.lemmas.Bool.{le-ltb, lt-ltb}
use Rattle.dirac_block_table.proofs.neighbours.near_use_bit.Goals as goal

pub returns-then-i-left : goal.returns-then-i-left
returns-then-i-left c = record { value = rw (lt-ltb c.args.i c.args.left c.if-i-left.true) refl }

pub returns-then-j-up : goal.returns-then-j-up
returns-then-j-up c = record { value = rw (le-ltb c.args.i c.args.left c.if-i-left.false, lt-ltb c.args.j c.args.up c.if-j-up.true) refl }

pub returns : goal.returns
returns c = record { value = rw (le-ltb c.args.i c.args.left c.if-i-left.false, le-ltb c.args.j c.args.up c.if-j-up.false) c.use_bit.ensures.value }

pub use_bit-requires-clause-column : goal.use_bit-requires-clause-column
use_bit-requires-clause-column c = omega (arith, c.requires.column)

pub use_bit-requires-clause-row : goal.use_bit-requires-clause-row
use_bit-requires-clause-row c = omega (arith, c.requires.row)
