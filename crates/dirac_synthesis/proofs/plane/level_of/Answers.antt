use Rattle.std.proofs.Common.{◌+◌, ◌*◌, arith, refl}
use Rattle.dirac_synthesis.proofs.Maps.{got_band}
use Rattle.dirac_synthesis.proofs.plane.level_of.Goals as goal

pub returns : goal.returns
returns c = record {
  wavelet = refl;
  of_kind = refl;
  counts = c.at.ensures;
  hl = got_band c.args.bands.now (3 * c.args.n + 1) c.index-bands-n.result (omega (arith, c.requires.bands)) c.index-bands-n.is;
  lh = got_band c.args.bands.now (3 * c.args.n + 2) c.index-bands-n-2.result (omega (arith, c.requires.bands)) c.index-bands-n-2.is;
  hh = got_band c.args.bands.now (3 * c.args.n + 3) c.index-bands-n-3.result (omega (arith, c.requires.bands)) c.index-bands-n-3.is;
}
