use Rattle.std.proofs.Common.{arith}
use Rattle.dirac_slices.proofs.Oriented.{as_many, plane_read, refused_of}
use Rattle.dirac_slices.proofs.bands.plane_of.Goals as goal

pub woven-requires-clause-lh : goal.woven-requires-clause-lh
woven-requires-clause-lh c =
    as_many c.args.transform.now c.args.size.width c.args.size.height c.args.sites.now 1 c.args.hl c.args.lh _ _ c.requires.hl c.requires.lh c.in-Some-hl.is c.in-Some-lh.is

pub woven-requires-clause-hh : goal.woven-requires-clause-hh
woven-requires-clause-hh c =
    as_many c.args.transform.now c.args.size.width c.args.size.height c.args.sites.now 2 c.args.hl c.args.hh _ _ c.requires.hl c.requires.hh c.in-Some-hl.is c.in-Some-hh.is

pub returns-clause-plane : goal.returns-clause-plane
returns-clause-plane c =
    (plane_read c.args.transform.now c.args.size.width c.args.size.height c.args.sites.now c.args.ll c.args.hl c.args.lh c.args.hh _ _ _ _ _ c.requires.sites
    c.requires.ll c.requires.hl c.requires.lh c.requires.hh c.in-Some.is c.in-Some-hl.is c.in-Some-lh.is c.in-Some-hh.is c.in_ok-bands.ensures).0

pub returns-clause-lawful : goal.returns-clause-lawful
returns-clause-lawful c =
    (plane_read c.args.transform.now c.args.size.width c.args.size.height c.args.sites.now c.args.ll c.args.hl c.args.lh c.args.hh _ _ _ _ _ c.requires.sites
    c.requires.ll c.requires.hl c.requires.lh c.requires.hh c.in-Some.is c.in-Some-hl.is c.in-Some-lh.is c.in-Some-hh.is c.in_ok-bands.ensures).1

pub returns-in_default-clause-none : goal.returns-in_default-clause-none
returns-in_default-clause-none c = λ e.
    refused_of c.args.transform.now c.args.size.width c.args.size.height c.args.sites.now 0 c.args.ll c.requires.ll c.in_default.is (omega arith)

pub returns-in_default-hl-clause-none : goal.returns-in_default-hl-clause-none
returns-in_default-hl-clause-none c = λ e.
    refused_of c.args.transform.now c.args.size.width c.args.size.height c.args.sites.now 1 c.args.hl c.requires.hl c.in_default-hl.is (omega arith)

pub returns-in_default-lh-clause-none : goal.returns-in_default-lh-clause-none
returns-in_default-lh-clause-none c = λ e.
    refused_of c.args.transform.now c.args.size.width c.args.size.height c.args.sites.now 2 c.args.lh c.requires.lh c.in_default-lh.is (omega arith)

pub returns-in_default-hh-clause-none : goal.returns-in_default-hh-clause-none
returns-in_default-hh-clause-none c = λ e.
    refused_of c.args.transform.now c.args.size.width c.args.size.height c.args.sites.now 3 c.args.hh c.requires.hh c.in_default-hh.is (omega arith)
