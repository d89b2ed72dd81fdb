use Rattle.std.proofs.Common.{ℤ, ◌*◌, ◌+◌, ◌^◌, ◌≤◌, List, unsigned_abs, arith, sym, ◌∙◌, subst}
use Rattle.std.specs.List.{All}
use Rattle.dirac_common.proofs.Bounds.{all_weaker}
use Rattle.dirac_lift.specs.Wavelets.{synth_bound}
use Rattle.dirac_lift.proofs.LevelLemmas.{synth_columns_safe, synth_columns_grow, synth_rows_grow, synth_bound_most, synth_bound_twice, level_bound, level_value}
use Rattle.dirac_lift.proofs.levels.synth_values.Goals as goal

pub synth_columns-requires-clause-safe : goal.synth_columns-requires-clause-safe
synth_columns-requires-clause-safe c =
    synth_columns_safe c.args.wavelet c.args.width c.args.height c.args.values.now c.requires.wavelet c.requires.down
    (all_weaker (2 ^ 103) (2 ^ 108) c.args.values.now (omega arith) c.requires.magnitudes_at_most_2_103)

pub synth_rows-requires-clause-magnitudes_at_most_2_108 : goal.synth_rows-requires-clause-magnitudes_at_most_2_108
synth_rows-requires-clause-magnitudes_at_most_2_108 c =
    all_weaker (synth_bound c.args.wavelet (2 ^ 103)) (2 ^ 108) c.synth_columns.new.values (omega (arith, synth_bound_most c.args.wavelet (2 ^ 103)))
    (synth_columns_grow (2 ^ 103) c.args.wavelet c.args.width c.args.height c.args.values.now c.synth_columns.new.values
    c.requires.wavelet c.requires.down c.requires.len c.requires.at_least_1 c.synth_columns.ensures c.requires.magnitudes_at_most_2_103)

pub end_level-requires : goal.end_level-requires
end_level-requires c =
    all_weaker (synth_bound c.args.wavelet (synth_bound c.args.wavelet (2 ^ 103))) (2 ^ 120) c.synth_rows.new.values (omega (arith, synth_bound_twice c.args.wavelet (2 ^ 103)))
    (synth_rows_grow (synth_bound c.args.wavelet (2 ^ 103)) c.args.wavelet c.args.width c.args.height c.synth_columns.new.values c.synth_rows.new.values
    c.requires.wavelet c.requires.across (c.synth_columns.ensures.len ∙ c.requires.len) c.requires.at_least_1 c.synth_rows.ensures
    (synth_columns_grow (2 ^ 103) c.args.wavelet c.args.width c.args.height c.args.values.now c.synth_columns.new.values
    c.requires.wavelet c.requires.down c.requires.len c.requires.at_least_1 c.synth_columns.ensures c.requires.magnitudes_at_most_2_103))

pub returns-clause-value : goal.returns-clause-value
returns-clause-value c =
    c.end_level.ensures
    ∙ level_value c.args.wavelet c.args.width c.args.height c.args.values.now c.synth_columns.new.values c.synth_rows.new.values
    c.requires.len c.requires.at_least_1 c.synth_columns.ensures c.synth_rows.ensures

pub returns-clause-growth : goal.returns-clause-growth
returns-clause-growth c b all =
    subst (λ (vs : List ℤ). All (λ v. unsigned_abs v ≤ 72 * b + 40) vs) (sym c.end_level.ensures)
    (level_bound c.args.wavelet b c.synth_rows.new.values
    (synth_rows_grow (synth_bound c.args.wavelet b) c.args.wavelet c.args.width c.args.height c.synth_columns.new.values c.synth_rows.new.values
    c.requires.wavelet c.requires.across (c.synth_columns.ensures.len ∙ c.requires.len) c.requires.at_least_1 c.synth_rows.ensures
    (synth_columns_grow b c.args.wavelet c.args.width c.args.height c.args.values.now c.synth_columns.new.values
    c.requires.wavelet c.requires.down c.requires.len c.requires.at_least_1 c.synth_columns.ensures all)))
