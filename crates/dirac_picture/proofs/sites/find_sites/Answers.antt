use Rattle.std.proofs.Common.{length, ap, ◌∙◌, arith, [], ◌∷◌, length-append}
use Rattle.dirac_picture.proofs.Finding.{sites_more, indexed_more}
use Rattle.dirac_picture.proofs.sites.find_sites.Goals as goal

pub bands-preserved : goal.bands-preserved
bands-preserved c =
    let pushed = c.in_ok-push-in-Ok.ensures.items in
    record {
      count = (let l = ap length pushed in omega (arith, l, length-append c.bands.sites.items (c.in-Ok.site ∷ []), c.bands.invariant.count));
      kept = c.in-Ok.ensures.kept ∙ c.bands.invariant.kept;
      indices = indexed_more c.bands.sites.items c.push.new.self.items c.in-Ok.site pushed c.in-Ok.ensures.index c.bands.invariant.indices;
      sites = sites_more c.args.r.now c.bands.r c.find_site.new.r c.bands.sites.items c.push.new.self.items c.in-Ok.site pushed c.bands.invariant.sites c.in-Ok.ensures.value;
    }
