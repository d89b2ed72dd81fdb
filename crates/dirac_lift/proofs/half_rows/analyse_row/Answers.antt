use Rattle.std.proofs.Common.{◌≡◌, length, arith}
use Rattle.std.proofs.lemmas.List.{take_at, drop_at}
use Rattle.dirac_lift.proofs.LevelLemmas.{begun_bound}
use Rattle.dirac_lift.proofs.NarrowLevels.{halves_bound}
use Rattle.dirac_lift.proofs.half_rows.analyse_row.Goals as goal

pub analyse_half_line-requires-clause-low_at_most_8190 : goal.analyse_half_line-requires-clause-low_at_most_8190
analyse_half_line-requires-clause-low_at_most_8190 c =
    (halves_bound 8190 _ _ _ c.begin_line.ensures (begun_bound c.args.wavelet 4095 c.args.line.now c.requires.at_most_4095)).0

pub analyse_half_line-requires-clause-high_at_most_8190 : goal.analyse_half_line-requires-clause-high_at_most_8190
analyse_half_line-requires-clause-high_at_most_8190 c =
    (halves_bound 8190 _ _ _ c.begin_line.ensures (begun_bound c.args.wavelet 4095 c.args.line.now c.requires.at_most_4095)).1

pub returns : goal.returns
returns c =
    let low = c.analyse_half_line.new.low in
    let high = c.analyse_half_line.new.high in
    let len : length low ≡ c.args.half = omega arith in
    rw (take_at low high c.args.half len, drop_at low high c.args.half len) (c.analyse_half_line.ensures _ c.begin_line.ensures)
