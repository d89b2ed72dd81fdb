use Rattle.dirac_header.proofs.TransformSpelled.{transform_spelled}
use Rattle.dirac_header.proofs.write.write_transform.Goals as goal

pub returns-clause-spelled : goal.returns-clause-spelled
returns-clause-spelled c =
    transform_spelled c.args.w.now c.write_parameters.new.w c.args.t.now c.requires c.in_ok-write_parameters.ensures.exact
