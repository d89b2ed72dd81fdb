use Rattle.std.proofs.Common.{arith}
use Rattle.dirac_bands.proofs.Undoing.{plane_again_from}
use Rattle.dirac_bands.proofs.interleaving.split_bands.Goals as goal

pub returns-clause-plane : goal.returns-clause-plane
returns-clause-plane c =
    plane_again_from c.args.plane.now _ _ _ _ c.in_ok-ll.ensures c.in_ok-hl.ensures c.in_ok-lh.ensures c.in_ok-hh.ensures
    (omega arith) c.width.ensures.whole c.requires.across.0 c.requires.down.0
