use Rattle.dirac_encode_laws.proofs.Coding.{codable}
use Rattle.dirac_encode_laws.proofs.Reading.{predicting}
use Rattle.dirac_encode_picture.proofs.Preparing.{inter_same, left_quantisable}
use Rattle.dirac_encode_picture.proofs.making.coded_inter.Goals as goal

pub motion_of-requires-clause-blocks : goal.motion_of-requires-clause-blocks
motion_of-requires-clause-blocks g c = let is = predicting c.args.asked.now.settings.now c.requires.prepared.asked.accepted in (is.some_blocks, is.most_blocks)

pub motion_of-requires-clause-precision : goal.motion_of-requires-clause-precision
motion_of-requires-clause-precision g c =
    (predicting c.args.asked.now.settings.now c.requires.prepared.asked.accepted).precision

pub residual_at-requires-clause-codable : goal.residual_at-requires-clause-codable
residual_at-requires-clause-codable g c = codable c.args.asked.now.settings.now c.requires.prepared.asked.accepted

pub residual_at-requires-clause-fits : goal.residual_at-requires-clause-fits
residual_at-requires-clause-fits g c =
    left_quantisable c.args.asked.now.settings.now c.args.asked.now.refs.now c.args.asked.now.planned.now c.args.asked.now.source.now _ c.args.prepared.now.left c.requires.prepared.left

pub returns : goal.returns
returns g c =
    inter_same c.args.asked.now.settings.now c.args.asked.now.refs.now c.args.asked.now.planned.now c.args.asked.now.source.now c.args.prepared.now c.args.compensated.now c.header_of.result c.in_ok-motion.motion c.in_ok-residual.residual c.unless_left_out.result
    c.requires.prepared c.requires.inter c.header_of.ensures c.in_ok-motion.ensures c.in_ok-residual.ensures c.unless_left_out.ensures
