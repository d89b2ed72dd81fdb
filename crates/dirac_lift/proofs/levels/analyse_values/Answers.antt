use Rattle.std.proofs.Common.{ℤ, ◌+◌, ◌*◌, ◌^◌, ◌≤◌, ◌≡◌, List, unsigned_abs, length, arith, sym, ◌∙◌, subst}
use Rattle.std.specs.List.{All}
use Rattle.dirac_common.proofs.Bounds.{all_weaker}
use Rattle.dirac_lift.specs.Level.{first_doubled}
use Rattle.dirac_lift.specs.Places.{RowsBecome}
use Rattle.dirac_lift.specs.Wavelets.{analyse, analyse_bound}
use Rattle.dirac_lift.proofs.LevelLemmas.{analyse_columns_safe, analyse_columns_grow, analyse_rows_grow, begun_bound, length-begun, analysis_value, level_undone}
use Rattle.dirac_lift.proofs.levels.analyse_values.Goals as goal

pub analyse_rows-requires-clause-magnitudes_at_most_2_108 : goal.analyse_rows-requires-clause-magnitudes_at_most_2_108
analyse_rows-requires-clause-magnitudes_at_most_2_108 c =
    subst (λ (vs : List ℤ). All (λ v. unsigned_abs v ≤ 2 ^ 108) vs) (sym c.begin_level.ensures)
    (all_weaker (2 * 2 ^ 103) (2 ^ 108) (first_doubled c.args.wavelet c.args.values.now) (omega arith) (begun_bound c.args.wavelet (2 ^ 103) c.args.values.now c.requires.magnitudes_at_most_2_103))

pub analyse_columns-requires-clause-safe : goal.analyse_columns-requires-clause-safe
analyse_columns-requires-clause-safe c =
    let rows : RowsBecome (analyse c.args.wavelet) c.args.width c.args.height (first_doubled c.args.wavelet c.args.values.now) c.analyse_rows.new.values =
    subst (λ (vs : List ℤ). RowsBecome (analyse c.args.wavelet) c.args.width c.args.height vs c.analyse_rows.new.values) c.begin_level.ensures c.analyse_rows.ensures in
    analyse_columns_safe c.args.wavelet c.args.width c.args.height c.analyse_rows.new.values c.requires.wavelet c.requires.down
    (all_weaker (analyse_bound (2 * 2 ^ 103)) (2 ^ 108) c.analyse_rows.new.values (omega arith)
    (analyse_rows_grow (2 * 2 ^ 103) c.args.wavelet c.args.width c.args.height (first_doubled c.args.wavelet c.args.values.now) c.analyse_rows.new.values
    c.requires.wavelet c.requires.across (length-begun c.args.wavelet c.args.values.now ∙ c.requires.len) c.requires.at_least_1 rows
    (begun_bound c.args.wavelet (2 ^ 103) c.args.values.now c.requires.magnitudes_at_most_2_103)))

pub returns-clause-value : goal.returns-clause-value
returns-clause-value c =
    let rows : RowsBecome (analyse c.args.wavelet) c.args.width c.args.height (first_doubled c.args.wavelet c.args.values.now) c.analyse_rows.new.values =
    subst (λ (vs : List ℤ). RowsBecome (analyse c.args.wavelet) c.args.width c.args.height vs c.analyse_rows.new.values) c.begin_level.ensures c.analyse_rows.ensures in
    analysis_value c.args.wavelet c.args.width c.args.height c.args.values.now c.analyse_rows.new.values c.analyse_columns.new.values
    c.requires.len c.requires.at_least_1 rows c.analyse_columns.ensures

pub returns-clause-growth : goal.returns-clause-growth
returns-clause-growth c b all =
    let rows : RowsBecome (analyse c.args.wavelet) c.args.width c.args.height (first_doubled c.args.wavelet c.args.values.now) c.analyse_rows.new.values =
    subst (λ (vs : List ℤ). RowsBecome (analyse c.args.wavelet) c.args.width c.args.height vs c.analyse_rows.new.values) c.begin_level.ensures c.analyse_rows.ensures in
    let begins : length (first_doubled c.args.wavelet c.args.values.now) ≡ c.args.width * c.args.height = length-begun c.args.wavelet c.args.values.now ∙ c.requires.len in
    all_weaker (analyse_bound (analyse_bound (2 * b))) (128 * b + 32) c.analyse_columns.new.values (omega arith)
    (analyse_columns_grow (analyse_bound (2 * b)) c.args.wavelet c.args.width c.args.height c.analyse_rows.new.values c.analyse_columns.new.values
    c.requires.wavelet c.requires.down (rows.len ∙ begins) c.requires.at_least_1 c.analyse_columns.ensures
    (analyse_rows_grow (2 * b) c.args.wavelet c.args.width c.args.height (first_doubled c.args.wavelet c.args.values.now) c.analyse_rows.new.values
    c.requires.wavelet c.requires.across begins c.requires.at_least_1 rows (begun_bound c.args.wavelet b c.args.values.now all)))

pub returns-clause-undone : goal.returns-clause-undone
returns-clause-undone c =
    let rows : RowsBecome (analyse c.args.wavelet) c.args.width c.args.height (first_doubled c.args.wavelet c.args.values.now) c.analyse_rows.new.values =
    subst (λ (vs : List ℤ). RowsBecome (analyse c.args.wavelet) c.args.width c.args.height vs c.analyse_rows.new.values) c.begin_level.ensures c.analyse_rows.ensures in
    level_undone c.args.wavelet c.args.width c.args.height c.args.values.now c.analyse_rows.new.values c.analyse_columns.new.values
    c.requires.wavelet c.requires.across c.requires.down c.requires.len c.requires.at_least_1 rows c.analyse_columns.ensures
