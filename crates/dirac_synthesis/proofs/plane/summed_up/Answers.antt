use Rattle.std.proofs.Common.{◌+◌, ◌*◌, ◌^◌, arith}
use Rattle.std.proofs.lemmas.Nat.{mul-le}
use Rattle.dirac_common.proofs.Bounds.{all_weaker}
use Rattle.dirac_synthesis.proofs.Bounds.{all_below}
use Rattle.dirac_synthesis.proofs.plane.summed_up.Goals as goal

pub returns-in-Intra-clause-bound : goal.returns-in-Intra-clause-bound
returns-in-Intra-clause-bound c =
    let low = c.args.low in
    all_weaker ((low.width + low.height) * 2 ^ 64) (2 ^ 77) _
    (omega (arith, mul-le (low.width + low.height) (2 ^ 64) 8192 (2 ^ 64) (omega (arith, c.requires.across, c.requires.down)) (omega arith)))
    (c.dc_add.ensures.growth (2 ^ 64) (all_below (2 ^ 64) (2 ^ 64) low.values (omega arith) c.requires.bound))
