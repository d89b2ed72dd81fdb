use Rattle.std.proofs.Common.{ap, arith, ◌*◌, Ok}
use Rattle.dirac_picture.specs.Bands.{band_count}
use Rattle.dirac_picture.specs.Chains.{AreSitesOf}
use Rattle.dirac_picture.proofs.Finding.{missing_behind, some_found}
use Rattle.dirac_picture.proofs.sites.find_planes.Goals as goal

pub returns-in_default-2-clause-none : goal.returns-in_default-2-clause-none
returns-in_default-2-clause-none c = λ e.
    let n = band_count c.args.transform.now.depth in
    let y = some_found c.in_ok-y.field-0 c.in-Some.y (λ v. AreSitesOf c.args.transform.now c.args.r.now v.items c.find_sites.new.r) c.in-Some.is c.in_ok-y.ensures.sites in
    missing_behind c.args.r.now c.find_sites.new.r c.in-Some.y.items n (3 * n) y.each (omega (arith, y.whole.count)) (c.in_ok-u.ensures.none (ap Ok c.in_default-2.is))

pub returns-in_default-3-clause-none : goal.returns-in_default-3-clause-none
returns-in_default-3-clause-none c = λ e.
    let n = band_count c.args.transform.now.depth in
    let y = some_found c.in_ok-y.field-0 c.in-Some.y (λ v. AreSitesOf c.args.transform.now c.args.r.now v.items c.find_sites.new.r) c.in-Some.is c.in_ok-y.ensures.sites in
    let u = some_found c.in_ok-u.field-0 c.in-Some-2.u (λ v. AreSitesOf c.args.transform.now c.find_sites.new.r v.items c.find_sites-2.new.r) c.in-Some-2.is c.in_ok-u.ensures.sites in
    missing_behind c.args.r.now c.find_sites.new.r c.in-Some.y.items (2 * n) (3 * n) y.each (omega (arith, y.whole.count))
    (missing_behind c.find_sites.new.r c.find_sites-2.new.r c.in-Some-2.u.items n (2 * n) u.each (omega (arith, u.whole.count)) (c.in_ok-v.ensures.none (ap Ok c.in_default-3.is)))
