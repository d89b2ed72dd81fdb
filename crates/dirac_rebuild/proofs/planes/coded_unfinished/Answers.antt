use Rattle.dirac_rebuild.proofs.Fitting.{bands_of_part}
use Rattle.dirac_rebuild.proofs.planes.coded_unfinished.Goals as goal

pub unfinished_residual-requires-clause-bands : goal.unfinished_residual-requires-clause-bands
unfinished_residual-requires-clause-bands c =
    rw (c.width_of.ensures.value, c.height_of.ensures.value, c.bands.ensures, c.plane_bands.ensures)
    (bands_of_part c.args.sequence.now c.args.residual.now c.args.component c.requires.sequence c.requires.fits)
