use Rattle.dirac_encode.proofs.Alone.{coded_alone}
use Rattle.dirac_encode.proofs.stream.code_picture_or_lot.Goals as goal

pub returns-in-Some : goal.returns-in-Some
returns-in-Some g c =
    coded_alone c.args.coder.now.budget c.args.coder.now.settings.now c.args.refs.now c.args.planned.now c.args.source.now c.in-Some.coded (c.lot_by.ensures c.if-lot_by-gt1.true) c.in-Some.ensures
