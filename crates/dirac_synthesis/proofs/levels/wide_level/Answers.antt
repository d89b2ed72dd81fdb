use Rattle.std.proofs.Common.{◌^◌, arith}
use Rattle.dirac_synthesis.proofs.LevelBounds.{plane_at_most}
use Rattle.dirac_synthesis.proofs.levels.wide_level.Goals as goal

pub synth_level-requires-clause-magnitudes_at_most_2_103 : goal.synth_level-requires-clause-magnitudes_at_most_2_103
synth_level-requires-clause-magnitudes_at_most_2_103 c =
    rw c.in_ok-plane.ensures (plane_at_most (2 ^ 103) c.args.by c.args.low.now c.args.bands (omega arith) c.requires c.requires.small)
