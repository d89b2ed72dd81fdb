use Rattle.dirac_obmc.specs.Given.{compensation_of}
use Rattle.dirac_obmc.proofs.Overlaps.{across_is}
use Rattle.dirac_obmc.proofs.direction.across.Goals as goal

pub returns-clause-direction : goal.returns-clause-direction
returns-clause-direction c = across_is (compensation_of c.args.motion.now) c.across.result c.across_ratio-ratio.result c.requires c.across.ensures.value c.across.ensures.lawful c.across_ratio-ratio.ensures.value
