use Rattle.std.proofs.Common.{arith, refl}
use Rattle.std.proofs.lemmas.Bool.{le-ltb, lt-ltb}
use Rattle.std.proofs.lemmas.Option.{none-some}
use Rattle.dirac_block_table.proofs.neighbours.near_vector.Goals as goal

pub returns-then-i-left-clause-value : goal.returns-then-i-left-clause-value
returns-then-i-left-clause-value c = rw (lt-ltb c.args.i c.args.left c.if-i-left.true) refl

pub returns-then-j-up-clause-value : goal.returns-then-j-up-clause-value
returns-then-j-up-clause-value c = rw (le-ltb c.args.i c.args.left c.if-i-left.false, lt-ltb c.args.j c.args.up c.if-j-up.true) refl

pub returns-clause-value : goal.returns-clause-value
returns-clause-value c = rw (le-ltb c.args.i c.args.left c.if-i-left.false, le-ltb c.args.j c.args.up c.if-j-up.false) c.vector.ensures.value

pub overflow_sub-i : goal.overflow_sub-i
overflow_sub-i c = omega (arith, c.if-i-left.false)

pub overflow_sub-j : goal.overflow_sub-j
overflow_sub-j c = omega (arith, c.if-j-up.false)

pub vector-requires-clause-column : goal.vector-requires-clause-column
vector-requires-clause-column c = omega (arith, c.requires.column)

pub vector-requires-clause-row : goal.vector-requires-clause-row
vector-requires-clause-row c = omega (arith, c.requires.row)

pub returns-then-i-left-clause-short : goal.returns-then-i-left-clause-short
returns-then-i-left-clause-short c = λ x e. absurd (none-some x e)

pub returns-then-j-up-clause-short : goal.returns-then-j-up-clause-short
returns-then-j-up-clause-short c = λ x e. absurd (none-some x e)

pub returns-clause-short : goal.returns-clause-short
returns-clause-short c = c.vector.ensures.short
