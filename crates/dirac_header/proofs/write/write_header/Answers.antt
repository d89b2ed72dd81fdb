use Rattle.dirac_header.proofs.HeaderSpelled.{header_spelled}
use Rattle.dirac_header.proofs.write.write_header.Goals as goal

pub returns-clause-spelled : goal.returns-clause-spelled
returns-clause-spelled c =
    header_spelled c.args.w.now c.write_fields.new.w c.args.code c.args.header.now c.write_fields.ensures.range c.requires.references c.requires.retire c.in_ok-write_fields.ensures.exact
