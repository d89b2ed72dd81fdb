use Rattle.std.proofs.Common.{◌+◌, ap, ◌∙◌}
use Rattle.dirac_slices.specs.Basis.{basis_sequence}
use Rattle.dirac_slices.specs.Places.{component_at}
use Rattle.dirac_slices.specs.Parts.{second_half_of, room_in}
use Rattle.dirac_slices.proofs.Between.{room_halved, room_of_rows}
use Rattle.dirac_slices.proofs.filled.room_before.Goals as goal

pub returns-clause-value : goal.returns-clause-value
returns-clause-value c =
    room_of_rows (basis_sequence c.args.making.now.basis) c.args.front (component_at c.args.plane) c.rows_of-from.result.0 c.rows_of-from.result.1 c.samples_in.result
    c.rows_of-from.ensures.from c.rows_of-from.ensures.to c.samples_in.ensures

pub returns-clause-rest : goal.returns-clause-rest
returns-clause-rest c =
    let s = basis_sequence c.args.making.now.basis in
    let d = component_at c.args.plane in
    ap (λ n. n + room_in s (second_half_of c.args.parts) d) (returns-clause-value c ∙ ap (λ p. room_in s p d) c.requires.front)
    ∙ room_halved s c.args.parts d c.requires.parts
