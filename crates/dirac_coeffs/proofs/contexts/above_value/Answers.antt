use Rattle.std.proofs.lemmas.Nat.{mul-le}
use Rattle.std.proofs.Common.{eq-eqb, refl, ◌∙◌, ◌-◌, arith}
use Rattle.std.specs.Int.{w64}
use Rattle.std.proofs.lemmas.Bool.{ne_eqb}
use Rattle.std.proofs.lemmas.Int.{to_z-of_z}
use Rattle.dirac_coeffs.proofs.contexts.above_value.Goals as goal

pub number_at-requires : goal.number_at-requires
number_at-requires c = omega (arith, c.requires.inside, c.requires.column, mul-le (c.args.y - 1) c.args.width c.args.y c.args.width (omega arith) (omega arith))

pub returns-then-y-eq0 : goal.returns-then-y-eq0
returns-then-y-eq0 c = rw (eq-eqb c.args.y 0 c.if-y-eq0.true) refl

pub returns-else-y-eq0 : goal.returns-else-y-eq0
returns-else-y-eq0 c = rw (ne_eqb c.args.y 0 c.if-y-eq0.false) (to_z-of_z w64 _ (record { sfits = c.number_at.type_inv }) ∙ c.number_at.ensures)
