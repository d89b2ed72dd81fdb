use Rattle.std.proofs.Common.{◌+◌, ◌-◌, arith}
use Rattle.dirac_header.proofs.Sizes.{band_small, shifted_one}
use Rattle.dirac_header.proofs.transform.band_length.Goals as goal

pub returns-else-level-eq0-clause-below_2_32 : goal.returns-else-level-eq0-clause-below_2_32
returns-else-level-eq0-clause-below_2_32 c =
    rw (c.from.ensures, shifted_one c.args.depth (omega arith))
    (band_small c.args.depth c.args.size (c.args.depth - c.args.level + 1) (omega arith) (omega arith) (omega arith))
