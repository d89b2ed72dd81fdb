use Rattle.dirac_obmc.specs.Given.{compensation_of}
use Rattle.dirac_obmc.proofs.Overlaps.{down_is}
use Rattle.dirac_obmc.proofs.direction.down.Goals as goal

pub returns : goal.returns
returns c = down_is (compensation_of c.args.motion.now) c.down.result c.down_ratio-ratio.result c.requires c.down.ensures.value c.down.ensures.lawful c.down_ratio-ratio.ensures.value
