use Rattle.dirac_encode_planes.proofs.OnePlane.{codable_small}
use Rattle.dirac_encode_planes.proofs.residual.analyse_samples.Goals as goal

pub analyse_values-requires-clause-magnitudes_bounded : goal.analyse_values-requires-clause-magnitudes_bounded
analyse_values-requires-clause-magnitudes_bounded c = codable_small c.args.plane.now c.requires.plane
