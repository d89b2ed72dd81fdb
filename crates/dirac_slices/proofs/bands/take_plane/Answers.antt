use Rattle.std.proofs.Common.{length, ap, arith}
use Rattle.dirac_slices.specs.Bands.{IsOrientation}
use Rattle.dirac_slices.proofs.Oriented.{four, rest_of_four}
use Rattle.dirac_slices.proofs.bands.take_plane.Goals as goal

pub take_first-hl-requires : goal.take_first-hl-requires
take_first-hl-requires c = omega (arith, c.requires.count, ap length c.take_first-ll.ensures)

pub take_first-lh-requires : goal.take_first-lh-requires
take_first-lh-requires c =
    omega (arith, c.requires.count, ap length c.take_first-ll.ensures, ap length c.take_first-hl.ensures)

pub take_first-hh-requires : goal.take_first-hh-requires
take_first-hh-requires c =
    omega (arith, c.requires.count, ap length c.take_first-ll.ensures, ap length c.take_first-hl.ensures, ap length c.take_first-lh.ensures)

pub plane_of-requires-clause-ll : goal.plane_of-requires-clause-ll
plane_of-requires-clause-ll c =
    (four (IsOrientation c.args.transform.now c.args.size.width c.args.size.height c.args.sites.now) _ _ _ _ _ _ _ _ _ c.requires.rows
    c.take_first-ll.ensures c.take_first-hl.ensures c.take_first-lh.ensures c.take_first-hh.ensures).0

pub plane_of-requires-clause-hl : goal.plane_of-requires-clause-hl
plane_of-requires-clause-hl c =
    (four (IsOrientation c.args.transform.now c.args.size.width c.args.size.height c.args.sites.now) _ _ _ _ _ _ _ _ _ c.requires.rows
    c.take_first-ll.ensures c.take_first-hl.ensures c.take_first-lh.ensures c.take_first-hh.ensures).1

pub plane_of-requires-clause-lh : goal.plane_of-requires-clause-lh
plane_of-requires-clause-lh c =
    (four (IsOrientation c.args.transform.now c.args.size.width c.args.size.height c.args.sites.now) _ _ _ _ _ _ _ _ _ c.requires.rows
    c.take_first-ll.ensures c.take_first-hl.ensures c.take_first-lh.ensures c.take_first-hh.ensures).2

pub plane_of-requires-clause-hh : goal.plane_of-requires-clause-hh
plane_of-requires-clause-hh c =
    (four (IsOrientation c.args.transform.now c.args.size.width c.args.size.height c.args.sites.now) _ _ _ _ _ _ _ _ _ c.requires.rows
    c.take_first-ll.ensures c.take_first-hl.ensures c.take_first-lh.ensures c.take_first-hh.ensures).3

pub returns-clause-rest : goal.returns-clause-rest
returns-clause-rest c =
    rest_of_four _ _ _ _ _ _ _ _ _ c.take_first-ll.ensures c.take_first-hl.ensures c.take_first-lh.ensures c.take_first-hh.ensures
