use Rattle.std.proofs.Common.{arith}
use Rattle.dirac_content.specs.Content.{width_of}
use Rattle.dirac_slices.specs.Basis.{basis_sequence}
use Rattle.dirac_slices.specs.Places.{component_at}
use Rattle.dirac_slices.proofs.Strips.{room_joined}
use Rattle.dirac_slices.proofs.filled.samples_above.Goals as goal

pub returns-clause-rest : goal.returns-clause-rest
returns-clause-rest c =
    let w = width_of (basis_sequence c.args.making.now.basis) (component_at c.args.plane) in
    let above = c.samples_in.ensures in
    omega (arith, above, room_joined w c.args.from c.args.middle c.args.to c.requires.order.0 c.requires.order.1)
