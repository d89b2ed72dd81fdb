use Rattle.dirac_rebuild.proofs.Fitting.{bands_of_part}
use Rattle.dirac_rebuild.proofs.planes.coded_residual.Goals as goal

pub plane_residual-requires-clause-bands : goal.plane_residual-requires-clause-bands
plane_residual-requires-clause-bands c =
    rw (c.width_of.ensures.value, c.height_of.ensures.value, c.bands.ensures, c.plane_bands.ensures)
    (bands_of_part c.args.sequence.now c.args.residual.now c.args.component c.requires.sequence c.requires.fits)
