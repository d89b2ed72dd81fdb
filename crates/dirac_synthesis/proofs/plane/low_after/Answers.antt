use Rattle.std.proofs.Common.{◌≡◌, ℕ, slice_get, Some, arith, ap, ◌∙◌, subst}
use Rattle.dirac_parameters.specs.Counts.{counts_among}
use Rattle.dirac_common.specs.Table.{Table}
use Rattle.dirac_synthesis.specs.Codeblocks.{HasIndices}
use Rattle.dirac_synthesis.specs.Fits.{IsBandOf}
use Rattle.dirac_synthesis.specs.Residual.{summed}
use Rattle.dirac_synthesis.proofs.LevelBounds.{low_first, low_next, low_stands}
use Rattle.dirac_synthesis.proofs.Maps.{got_band}
use Rattle.dirac_synthesis.proofs.Sizes.{lowest_length, quotient_bound}
use Rattle.dirac_synthesis.proofs.plane.low_after.Goals as goal

pub restore_band-requires : goal.restore_band-requires
restore_band-requires c =
    let p = c.args.plane.now in
    let t = p.transform.now in
    let is = c.requires.plane in
    let b = c.index-bands-0.result in
    let got : slice_get p.bands.now 0 ≡ Some b = got_band p.bands.now 0 b (omega (arith, is.bands.count)) c.index-bands-0.is in
    let fits : IsBandOf t p.width p.height 0 b = is.bands.each 0 b got in
    record {
      index = fits.index;
      indices = subst (λ (counts : ℕ × ℕ). HasIndices counts b) (ap counts_among c.at-counts.ensures) fits.indices;
      across = omega (arith, fits.across, lowest_length p.width t.depth, quotient_bound p.width t.depth 0 is.across.1 is.depth.0 is.depth.1);
      down = omega (arith, fits.down, lowest_length p.height t.depth, quotient_bound p.height t.depth 0 is.down.1 is.depth.0 is.depth.1);
      magnitudes_below_2_39 = fits.small;
    }

pub summed_up-lowest-requires : goal.summed_up-lowest-requires
summed_up-lowest-requires c =
    let p = c.args.plane.now in
    let t = p.transform.now in
    let is = c.requires.plane in
    let b = c.index-bands-0.result in
    let got : slice_get p.bands.now 0 ≡ Some b = got_band p.bands.now 0 b (omega (arith, is.bands.count)) c.index-bands-0.is in
    let fits : IsBandOf t p.width p.height 0 b = is.bands.each 0 b got in
    let across : c.in_ok-restored.restored.width ≡ b.table.width = ap (λ (t : Table). t.width) c.in_ok-restored.ensures.value in
    let down : c.in_ok-restored.restored.height ≡ b.table.height = ap (λ (t : Table). t.height) c.in_ok-restored.ensures.value in
    record {
      across = omega (arith, across, fits.across, lowest_length p.width t.depth, quotient_bound p.width t.depth 0 is.across.1 is.depth.0 is.depth.1);
      down = omega (arith, down, fits.down, lowest_length p.height t.depth, quotient_bound p.height t.depth 0 is.down.1 is.depth.0 is.depth.1);
      bound = c.in_ok-restored.ensures.bound;
    }

pub loop-n-init : goal.loop-n-init
loop-n-init c =
    let p = c.args.plane.now in
    let b = c.index-bands-0.result in
    let got : slice_get p.bands.now 0 ≡ Some b = got_band p.bands.now 0 b (omega (arith, c.requires.plane.bands.count)) c.index-bands-0.is in
    low_first p.transform.now p.kind p.bands.now p.width p.height c.at-counts.result b c.in_ok-low.low c.at-counts.ensures got (c.requires.plane.bands.each 0 b got)
    (c.in_ok-low.ensures ∙ c.summed_up-lowest.ensures.value ∙ ap (summed p.kind) c.in_ok-restored.ensures.value) (rw c.in_ok-low.ensures c.summed_up-lowest.ensures.bound)

pub next_level-requires : goal.next_level-requires
next_level-requires c =
    low_stands c.args.plane.now c.loop-n.n c.level_of-level.result c.loop-n.low c.requires.plane (omega (arith, c.loop-n-test.true, c.requires.first)) c.level_of-level.ensures c.loop-n.invariant

pub loop-n-preserved : goal.loop-n-preserved
loop-n-preserved c =
    low_next c.args.plane.now c.loop-n.n c.level_of-level.result c.loop-n.low c.in_ok-next.next c.requires.plane (omega (arith, c.loop-n-test.true, c.requires.first)) c.level_of-level.ensures c.loop-n.invariant c.in_ok-next.ensures
