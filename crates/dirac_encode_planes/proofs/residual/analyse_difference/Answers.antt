use Rattle.dirac_common.specs.declared.formats.Kind.TheVariants.{Inter}
use Rattle.dirac_synthesis.proofs.Maps.{ok_weaker}
use Rattle.dirac_encode_planes.specs.Predictions.{less_values}
use Rattle.dirac_encode_planes.proofs.OnePlane.{analysed_same, left_small}
use Rattle.dirac_encode_planes.proofs.residual.analyse_difference.Goals as goal

pub analyse_values-requires-clause-magnitudes_bounded : goal.analyse_values-requires-clause-magnitudes_bounded
analyse_values-requires-clause-magnitudes_bounded c =
    left_small c.args.plane.now c.in_ok-left.left c.args.predicted.now c.requires.predicted c.in_ok-left.ensures

pub returns : goal.returns
returns c =
    ok_weaker c.analyse_values.result (λ a is. analysed_same c.args.transform.now Inter c.in_ok-left.left (less_values c.args.plane.now c.args.predicted.now) a c.in_ok-left.ensures is) c.analyse_values.ensures
