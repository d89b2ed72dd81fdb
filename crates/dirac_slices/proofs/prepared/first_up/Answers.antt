use Rattle.std.proofs.Common.{◌+◌, ◌*◌, arith, refl, ◌∙◌}
use Rattle.dirac_slices.specs.Given.{lent_inter}
use Rattle.dirac_slices.proofs.Preparing.{up_lent, up_made}
use Rattle.dirac_slices.proofs.prepared.first_up.Goals as goal

pub overflow_mul-row : goal.overflow_mul-row
overflow_mul-row c = omega (arith, c.requires.plane)

pub overflow_add-row : goal.overflow_add-row
overflow_add-row c = omega (arith, c.requires.plane)

pub bounds-prepared-row : goal.bounds-prepared-row
bounds-prepared-row c = omega (arith, c.requires.plane, c.requires.prepared.0)

pub unreachable-requires : goal.unreachable-requires
unreachable-requires c =
    up_made (lent_inter c.args.inter.now) c.args.plane (3 * c.args.plane + 1) c.args.prepared.now c.index-prepared-row.result c.requires.plane refl c.requires.prepared c.in-None.is

pub returns : goal.returns
returns c =
    c.plane.ensures
    ∙ up_lent (lent_inter c.args.inter.now) c.args.plane (3 * c.args.plane + 1) c.args.prepared.now c.index-prepared-row.result c.in-Some.up c.requires.plane refl c.requires.prepared c.in-Some.is
