use Rattle.std.specs.Option.{option_copied}
use Rattle.dirac_content.proofs.Covering.{is_compensation, there_lent}
use Rattle.dirac_rebuild.proofs.compensate.plane_motion.Goals as goal

pub returns-clause-fits : goal.returns-clause-fits
returns-clause-fits c =
    rw (c.width_of.ensures.value, c.height_of.ensures.value)
    (is_compensation c.args.code c.args.sequence.now c.args.motion.now c.args.first.now (option_copied c.args.second) c.args.component c.requires.sequence
    c.requires.motion c.requires.first c.requires.second (λ two. there_lent c.args.second (c.requires.two two)))
