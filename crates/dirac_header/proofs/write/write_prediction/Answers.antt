use Rattle.dirac_header.proofs.PredictionSpelled.{prediction_spelled}
use Rattle.dirac_header.proofs.write.write_prediction.Goals as goal

pub returns-clause-spelled : goal.returns-clause-spelled
returns-clause-spelled c =
    prediction_spelled c.args.w.now c.write_choices.new.w c.args.blocks c.args.precision c.requires.blocks.0 c.requires.blocks.1 c.requires.precision
    c.in_ok-write_choices.ensures.exact
