use Rattle.std.proofs.Common.{◌*◌, arith, ap, refl, ◌∙◌}
use Rattle.dirac_lift.specs.Level.{synthesised}
use Rattle.dirac_synthesis.specs.Codeblocks.{restored_by_one}
use Rattle.dirac_synthesis.specs.Halves.{beside}
use Rattle.dirac_synthesis.proofs.BesideRows.{beside_bound, beside_len, from_beside, narrow_values}
use Rattle.dirac_synthesis.proofs.Maps.{ok_weaker}
use Rattle.dirac_synthesis.proofs.narrow.narrow_level.Goals as goal

pub synth_level_by_lines-requires-clause-source : goal.synth_level_by_lines-requires-clause-source
synth_level_by_lines-requires-clause-source c = record {
  hl = c.requires.level.hl;
  lh = c.requires.level.lh;
  hh = c.requires.level.hh;
  right = c.requires.hl;
  below = c.requires.lh;
  corner = c.requires.hh;
}

pub synth_level_by_lines-requires-clause-evens : goal.synth_level_by_lines-requires-clause-evens
synth_level_by_lines-requires-clause-evens c =
    rw (c.width.ensures.value, c.height.ensures.value) (beside_len c.args.low.now (restored_by_one c.args.by.kind c.args.bands.hl.now))

pub synth_level_by_lines-requires-clause-odds : goal.synth_level_by_lines-requires-clause-odds
synth_level_by_lines-requires-clause-odds c =
    rw (c.width.ensures.value, c.height.ensures.value)
    (beside_len (restored_by_one c.args.by.kind c.args.bands.lh.now) (restored_by_one c.args.by.kind c.args.bands.hh.now)
    ∙ ap (λ w. 2 * w * c.args.bands.lh.now.table.height) c.requires.level.lh.across ∙ ap (λ h. 2 * c.args.low.now.width * h) c.requires.level.lh.down)

pub synth_level_by_lines-requires-clause-evens_at_most_4095 : goal.synth_level_by_lines-requires-clause-evens_at_most_4095
synth_level_by_lines-requires-clause-evens_at_most_4095 c =
    beside_bound 4095 c.args.low.now (restored_by_one c.args.by.kind c.args.bands.hl.now) c.requires.at_most_4095 (narrow_values c.args.by.kind c.args.bands.hl.now c.requires.hl)

pub synth_level_by_lines-requires-clause-odds_at_most_4095 : goal.synth_level_by_lines-requires-clause-odds_at_most_4095
synth_level_by_lines-requires-clause-odds_at_most_4095 c =
    beside_bound 4095 (restored_by_one c.args.by.kind c.args.bands.lh.now) (restored_by_one c.args.by.kind c.args.bands.hh.now) (narrow_values c.args.by.kind c.args.bands.lh.now c.requires.lh) (narrow_values c.args.by.kind c.args.bands.hh.now c.requires.hh)

pub returns : goal.returns
returns c =
    let kind = c.args.by.kind in
    let bands = c.args.bands in
    let right = restored_by_one kind bands.hl.now in
    let below = restored_by_one kind bands.lh.now in
    let corner = restored_by_one kind bands.hh.now in
    let whole = from_beside c.args.low.now right below corner (2 * c.width.result) c.height.result (beside c.args.low.now right).values (beside below corner).values refl refl
    (ap (λ w. 2 * w) c.width.ensures.value) c.height.ensures.value c.requires.level.lh.across c.requires.level.lh.down (omega (arith, c.width.ensures.at_least_1)) in
    ok_weaker c.synth_level_by_lines.result (λ t e. e ∙ ap (synthesised c.args.by.wavelet) whole) c.synth_level_by_lines.ensures
