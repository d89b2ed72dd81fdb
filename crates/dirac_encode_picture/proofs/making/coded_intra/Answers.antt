use Rattle.dirac_encode_laws.proofs.Coding.{codable}
use Rattle.dirac_encode_picture.proofs.Preparing.{intra_same, left_quantisable}
use Rattle.dirac_encode_picture.proofs.making.coded_intra.Goals as goal

pub residual_at-requires-clause-codable : goal.residual_at-requires-clause-codable
residual_at-requires-clause-codable g c = codable c.args.asked.now.settings.now c.requires.prepared.asked.accepted

pub residual_at-requires-clause-fits : goal.residual_at-requires-clause-fits
residual_at-requires-clause-fits g c =
    left_quantisable c.args.asked.now.settings.now c.args.asked.now.refs.now c.args.asked.now.planned.now c.args.asked.now.source.now _ c.args.prepared.now.left c.requires.prepared.left

pub returns : goal.returns
returns g c =
    intra_same c.args.asked.now.settings.now c.args.asked.now.refs.now c.args.asked.now.planned.now c.args.asked.now.source.now c.args.prepared.now c.header_of.result c.in_ok-residual.residual c.requires.prepared c.requires.intra c.header_of.ensures c.in_ok-residual.ensures
