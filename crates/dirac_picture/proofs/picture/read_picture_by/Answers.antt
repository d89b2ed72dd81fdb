use Rattle.dirac_picture.specs.Grammar.{picture}
use Rattle.dirac_picture.proofs.Answering.{payload_given, given_spelled, spelled_given}
use Rattle.dirac_picture.proofs.picture.read_picture_by.Goals as goal

pub returns-clause-spelled : goal.returns-clause-spelled
returns-clause-spelled g c =
    given_spelled (picture c.args.code c.args.sequence.now c.args.refs.now) c.args.payload.now c.read_fields.result
    (payload_given (picture c.args.code c.args.sequence.now c.args.refs.now) c.args.payload.now c.new-r.result c.read_fields.new.r c.read_fields.result
    c.new-r.ensures c.read_fields.ensures.value)

pub returns-clause-no_other_reading : goal.returns-clause-no_other_reading
returns-clause-no_other_reading g c =
    spelled_given (picture c.args.code c.args.sequence.now c.args.refs.now) c.args.payload.now c.read_fields.result
    (payload_given (picture c.args.code c.args.sequence.now c.args.refs.now) c.args.payload.now c.new-r.result c.read_fields.new.r c.read_fields.result
    c.new-r.ensures c.read_fields.ensures.value)
