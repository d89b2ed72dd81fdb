use Rattle.std.proofs.Common.{ℕ, suc, ◌-◌, ◌^◌, ◌≡◌, ◌≤◌, unsigned_abs, arith, ap, ◌∙◌}
use Rattle.std.specs.List.{All}
use Rattle.dirac_common.specs.Table.{Table}
use Rattle.dirac_bands.specs.Interleaving.{band_of}
use Rattle.dirac_lift.specs.Level.{analysed}
use Rattle.dirac_analysis.specs.Analysis.{as_coded}
use Rattle.dirac_analysis.specs.Fits.{IsQuantisable}
use Rattle.dirac_lift.specs.Held.{held_plane}
use Rattle.dirac_analysis.proofs.Analysing.{analysed_more, analysed_none, more_quantisable, none_quantisable}
use Rattle.dirac_analysis.proofs.Fitting.{low_ready, small_above, small_lowest}
use Rattle.dirac_analysis.proofs.HalfBands.{level_quantisable}
use Rattle.dirac_analysis.proofs.OneLevel.{sizes_even}
use Rattle.dirac_analysis.proofs.levels.+analyse_levels.Goals as goal

pub lowest_band-lowest-requires-clause-magnitudes_at_most_2_36 : goal.lowest_band-lowest-requires-clause-magnitudes_at_most_2_36
lowest_band-lowest-requires-clause-magnitudes_at_most_2_36 t c =
    rw c.in_ok-low.ensures (small_lowest (4 - c.args.depth) (held_plane c.args.plane).values (omega arith) c.requires.magnitudes_bounded)

pub lowest_band-lowest-requires-clause-across : goal.lowest_band-lowest-requires-clause-across
lowest_band-lowest-requires-clause-across t c = rw c.in_ok-low.ensures c.requires.across

pub lowest_band-lowest-requires-clause-down : goal.lowest_band-lowest-requires-clause-down
lowest_band-lowest-requires-clause-down t c = rw c.in_ok-low.ensures c.requires.down

pub returns-then-depth-eq0-clause-value : goal.returns-then-depth-eq0-clause-value
returns-then-depth-eq0-clause-value t c =
    rw c.if-depth-eq0.true (analysed_none c.args.kind c.args.wavelet c.new.result c.lowest_band-lowest.result (held_plane c.args.plane) c.new.ensures (c.lowest_band-lowest.ensures.value ∙ ap (λ (t : Table). as_coded c.args.kind t) c.in_ok-low.ensures))

pub returns-then-depth-eq0-clause-fits : goal.returns-then-depth-eq0-clause-fits
returns-then-depth-eq0-clause-fits t c = rw c.if-depth-eq0.true (none_quantisable c.new.result c.lowest_band-lowest.result c.new.ensures c.lowest_band-lowest.ensures.fits)

pub split_level-requires : goal.split_level-requires
split_level-requires t c =
    let even = sizes_even c.args.depth (c.args.depth - 1) (held_plane c.args.plane) (omega (arith, c.if-depth-eq0.false)) c.requires.divisible in
    record {
      known = c.requires.wavelet;
      across = (even.0, c.requires.across);
      down = (even.1, c.requires.down);
      small = small_above (4 - c.args.depth) (held_plane c.args.plane).values (omega (arith, c.if-depth-eq0.false)) c.requires.magnitudes_bounded;
    }

pub analyse_levels-requires : goal.analyse_levels-requires
analyse_levels-requires t c =
    let next : c.args.depth ≡ suc (c.args.depth - 1) = omega (arith, c.if-depth-eq0.false) in
    let low = low_ready c.args.wavelet c.args.depth (c.args.depth - 1) (held_plane c.args.plane) (held_plane c.in_ok-ll.field-0.ll) c.requires.wavelet next c.requires.depth c.in_ok-ll.ensures.ll c.requires.across c.requires.down c.requires.divisible c.requires.magnitudes_bounded in
    (omega (arith, c.decreases, next), (c.requires.wavelet, (omega (arith, c.requires.depth), low)))

pub returns-clause-value : goal.returns-clause-value
returns-clause-value t c =
    let l = c.in_ok-ll.field-0 in
    analysed_more c.args.kind c.args.wavelet c.args.depth (c.args.depth - 1) c.in_ok-lower.lower c.in_ok-all.all l.hl l.lh l.hh (held_plane l.ll) (held_plane c.args.plane) (omega (arith, c.if-depth-eq0.false)) c.in_ok-all.ensures c.in_ok-lower.ensures.value
    c.in_ok-ll.ensures.ll c.in_ok-ll.ensures.hl c.in_ok-ll.ensures.lh c.in_ok-ll.ensures.hh

pub returns-clause-fits : goal.returns-clause-fits
returns-clause-fits t c =
    let l = c.in_ok-ll.field-0 in
    let is = c.in_ok-ll.ensures in
    let table : Table = held_plane c.args.plane in
    let next : c.args.depth ≡ suc (c.args.depth - 1) = omega (arith, c.if-depth-eq0.false) in
    let even = sizes_even c.args.depth (c.args.depth - 1) table next c.requires.divisible in
    let small : All (λ v. unsigned_abs v ≤ 2 ^ 29) table.values = small_above (4 - c.args.depth) table.values (omega (arith, c.if-depth-eq0.false)) c.requires.magnitudes_bounded in
    let one : (right below : ℕ) (band : Table) → band ≡ band_of (analysed c.args.wavelet table) right below → IsQuantisable band =
    λ right below band e. level_quantisable c.args.wavelet right below table band c.requires.wavelet (even.0, c.requires.across) (even.1, c.requires.down) c.requires.divisible.len small e in
    more_quantisable c.args.depth (c.args.depth - 1) c.in_ok-lower.lower c.in_ok-all.all l.hl l.lh l.hh next c.in_ok-all.ensures c.in_ok-lower.ensures.fits (one 1 0 l.hl is.hl) (one 0 1 l.lh is.lh) (one 1 1 l.hh is.hh)
