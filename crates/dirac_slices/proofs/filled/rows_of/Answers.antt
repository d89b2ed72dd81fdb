use Rattle.std.proofs.Common.{ap, arith, ◌∙◌}
use Rattle.dirac_slices.specs.Basis.{basis_sequence}
use Rattle.dirac_slices.specs.Places.{component_at, first_row}
use Rattle.dirac_slices.proofs.Between.{height_is, rows_grow}
use Rattle.dirac_slices.proofs.filled.rows_of.Goals as goal

pub returns-clause-from : goal.returns-clause-from
returns-clause-from c =
    let p = c.args.parts in
    c.first_row-from.ensures.value
    ∙ ap (λ h. first_row h p.all p.first) (height_is (basis_sequence c.args.making.now.basis) c.lent_sequence.result.now (component_at c.args.plane) c.component_at.result c.height_of-height.result
    c.height_of-height.ensures.value c.lent_sequence.ensures.value c.component_at.ensures)

pub returns-clause-to : goal.returns-clause-to
returns-clause-to c =
    let p = c.args.parts in
    c.first_row-to.ensures.value
    ∙ ap (λ h. first_row h p.all p.end) (height_is (basis_sequence c.args.making.now.basis) c.lent_sequence.result.now (component_at c.args.plane) c.component_at.result c.height_of-height.result
    c.height_of-height.ensures.value c.lent_sequence.ensures.value c.component_at.ensures)

pub returns-clause-order : goal.returns-clause-order
returns-clause-order c =
    let p = c.args.parts in
    let some = c.requires.parts.some in
    let inside = c.requires.parts.inside in
    omega (arith, c.first_row-from.ensures.value, c.first_row-to.ensures.value, rows_grow c.height_of-height.result p.all p.first p.end (omega (arith, some, inside)) (omega (arith, some)))
