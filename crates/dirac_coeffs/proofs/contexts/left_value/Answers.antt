use Rattle.std.proofs.Common.{eq-eqb, refl, ◌∙◌, arith}
use Rattle.std.specs.Int.{w64}
use Rattle.std.proofs.lemmas.Bool.{ne_eqb}
use Rattle.std.proofs.lemmas.Int.{to_z-of_z}
use Rattle.dirac_coeffs.proofs.contexts.left_value.Goals as goal

pub number_at-requires : goal.number_at-requires
number_at-requires c = omega (arith, c.requires.inside, c.requires.column)

pub returns-then-x-eq0 : goal.returns-then-x-eq0
returns-then-x-eq0 c = rw (eq-eqb c.args.x 0 c.if-x-eq0.true) refl

pub returns-else-x-eq0 : goal.returns-else-x-eq0
returns-else-x-eq0 c = rw (ne_eqb c.args.x 0 c.if-x-eq0.false) (to_z-of_z w64 _ (record { sfits = c.number_at.type_inv }) ∙ c.number_at.ensures)
