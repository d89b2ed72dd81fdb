use Rattle.std.proofs.Common.{◌≡◌, ◌+◌, ◌-◌, ◌*◌, [], ◌∷◌, ◌++◌, length-append, arith, sym, subst, ◌∙◌}
use Rattle.std.proofs.lemmas.Result.{err_from_is_err_and}
use Rattle.dirac_picture.specs.Fits.{AreBands}
use Rattle.dirac_picture.proofs.Behind.{one_band, band_stops_all, all_bands}
use Rattle.dirac_picture.proofs.Listed.{bands_more}
use Rattle.dirac_picture.proofs.plane.read_plane_bands.Goals as goal

pub returns-in_err-band-clause-value : goal.returns-in_err-band-clause-value
returns-in_err-band-clause-value c =
    let t = c.args.transform.now in
    let p = err_from_is_err_and c.from_residual.result c.from_residual.ensures.1 in
    rw (p.1, p.2)
    (band_stops_all t c.args.width c.args.height c.bands.bands (3 * t.depth + 1 - c.bands.n) c.bands.r c.read_next.new.r _ _ (omega arith) c.bands.invariant.same c.in_err-band.ensures.value)

pub bands-preserved : goal.bands-preserved
bands-preserved c =
    let t = c.args.transform.now in
    let pushed : c.push.new.self ≡ c.bands.bands ++ c.in_ok-band.band ∷ [] = c.in_ok-push.ensures.pushed in
    let left : 3 * t.depth + 1 - (c.bands.n + 1) ≡ 3 * t.depth + 1 - c.bands.n - 1 = omega arith in
    let step = one_band t c.args.width c.args.height c.bands.bands (3 * t.depth + 1 - c.bands.n) c.bands.r c.read_next.new.r c.in_ok-band.band (omega arith) c.in_ok-band.ensures.value in
    record {
      count = rw pushed (simp length-append (omega (arith, c.bands.invariant.count)));
      kept = c.in_ok-band.ensures.kept ∙ c.bands.invariant.kept;
      lawful =
          subst (AreBands t c.args.width c.args.height) (sym pushed)
          (bands_more t c.args.width c.args.height c.bands.bands c.in_ok-band.band c.bands.invariant.lawful c.in_ok-band.ensures.lawful);
      same = rw (left, pushed) (sym step ∙ c.bands.invariant.same);
    }

pub returns-clause-value : goal.returns-clause-value
returns-clause-value c =
    let t = c.args.transform.now in
    let none : 3 * t.depth + 1 - c.bands.n ≡ 0 = omega arith in
    sym c.bands.invariant.same ∙ rw none (all_bands t c.args.width c.args.height c.bands.bands c.bands.r)
