use Rattle.std.proofs.Common.{◌+◌, ◌-◌, ◌*◌, arith, ap, refl, ◌∙◌, subst}
use Rattle.dirac_common.specs.Table.{Table}
use Rattle.dirac_lift.specs.Halves.{from_halves}
use Rattle.dirac_lift.specs.Level.{synthesised}
use Rattle.dirac_synthesis.specs.Codeblocks.{restored_by_one}
use Rattle.dirac_synthesis.specs.Halves.{beside}
use Rattle.dirac_synthesis.specs.LastLevel.{last_residual}
use Rattle.dirac_lift.specs.Windows.{AreInsideWindow, window_half}
use Rattle.dirac_synthesis.proofs.BesideRows.{beside_bound, narrow_values}
use Rattle.dirac_synthesis.proofs.LastRows.{evens_length, made_between, made_holds, odds_length, window_length}
use Rattle.dirac_lift.proofs.WindowHalves.{window_half_bound}
use Rattle.dirac_synthesis.proofs.last.last_rows.Goals as goal

pub synth_level_by_lines-requires-clause-source : goal.synth_level_by_lines-requires-clause-source
synth_level_by_lines-requires-clause-source c = (c.requires.level.level, omega (arith, c.pairs_for-pairs.ensures.down, c.height.ensures.value))

pub synth_level_by_lines-requires-clause-evens : goal.synth_level_by_lines-requires-clause-evens
synth_level_by_lines-requires-clause-evens c =
    rw c.width-across.ensures.value
    (window_length (2 * c.args.level.now.low.width) c.args.level.now.low.height c.pairs_for-pairs.result.first c.pairs_for-pairs.result.count (beside c.args.level.now.low (restored_by_one c.args.level.now.kind c.args.level.now.bands.hl.now)).values (evens_length c.args.level.now) (omega (arith, c.pairs_for-pairs.ensures.down, c.height.ensures.value)))

pub synth_level_by_lines-requires-clause-odds : goal.synth_level_by_lines-requires-clause-odds
synth_level_by_lines-requires-clause-odds c =
    rw c.width-across.ensures.value
    (window_length (2 * c.args.level.now.low.width) c.args.level.now.low.height c.pairs_for-pairs.result.first c.pairs_for-pairs.result.count (beside (restored_by_one c.args.level.now.kind c.args.level.now.bands.lh.now) (restored_by_one c.args.level.now.kind c.args.level.now.bands.hh.now)).values (odds_length c.args.level.now c.requires.level.level) (omega (arith, c.pairs_for-pairs.ensures.down, c.height.ensures.value)))

pub synth_level_by_lines-requires-clause-evens_at_most_4095 : goal.synth_level_by_lines-requires-clause-evens_at_most_4095
synth_level_by_lines-requires-clause-evens_at_most_4095 c =
    let l = c.args.level.now in
    window_half_bound 4095 (2 * l.low.width) c.pairs_for-pairs.result.first (c.pairs_for-pairs.result.first + c.pairs_for-pairs.result.count) (beside l.low (restored_by_one l.kind l.bands.hl.now)).values
    (beside_bound 4095 l.low (restored_by_one l.kind l.bands.hl.now) c.requires.level.small (narrow_values l.kind l.bands.hl.now c.requires.level.level.right))

pub synth_level_by_lines-requires-clause-odds_at_most_4095 : goal.synth_level_by_lines-requires-clause-odds_at_most_4095
synth_level_by_lines-requires-clause-odds_at_most_4095 c =
    let l = c.args.level.now in
    window_half_bound 4095 (2 * l.low.width) c.pairs_for-pairs.result.first (c.pairs_for-pairs.result.first + c.pairs_for-pairs.result.count) (beside (restored_by_one l.kind l.bands.lh.now) (restored_by_one l.kind l.bands.hh.now)).values
    (beside_bound 4095 (restored_by_one l.kind l.bands.lh.now) (restored_by_one l.kind l.bands.hh.now) (narrow_values l.kind l.bands.lh.now c.requires.level.level.below)
    (narrow_values l.kind l.bands.hh.now c.requires.level.level.corner))

pub cut_narrow-requires-clause-across : goal.cut_narrow-requires-clause-across
cut_narrow-requires-clause-across c = (
  c.requires.level.across.0,
  omega (arith, ap (λ (t : Table). t.width) c.in_ok-made.ensures, c.width-across.ensures.value, c.requires.level.across.1),
  c.requires.across,
)

pub cut_narrow-requires-clause-down : goal.cut_narrow-requires-clause-down
cut_narrow-requires-clause-down c = (
  omega arith,
  omega (arith, ap (λ (t : Table). t.height) c.in_ok-made.ensures, c.pairs_for-pairs.ensures.first, c.pairs_for-pairs.ensures.last),
  omega arith,
)

pub returns : goal.returns
returns c =
    let l = c.args.level.now in
    let first = c.pairs_for-pairs.result.first in
    let count = c.pairs_for-pairs.result.count in
    let w = 2 * l.low.width in
    let es = window_half w first (first + count) (beside l.low (restored_by_one l.kind l.bands.hl.now)).values in
    let os = window_half w first (first + count) (beside (restored_by_one l.kind l.bands.lh.now) (restored_by_one l.kind l.bands.hh.now)).values in
    c.of_narrow.ensures ∙ c.in_ok-part.ensures
    ∙ made_between (last_residual l) c.args.from c.args.to (c.args.from - 2 * first) c.in_ok-made.made (omega (arith, c.requires.level.across.0))
    (made_holds l c.args.from c.args.to first count (c.args.from - 2 * first) c.in_ok-made.made c.requires.level
    (subst (λ h. AreInsideWindow l.wavelet h first (first + count) c.args.from c.args.to) c.height.ensures.value c.pairs_for-pairs.ensures)
    c.requires.inside
    (c.in_ok-made.ensures ∙ ap (λ k. synthesised l.wavelet (from_halves (2 * k) count es os)) c.width-across.ensures.value)
    refl)
