use Rattle.dirac_lift.proofs.NarrowLevels.{narrow_value, row_is_narrow}
use Rattle.dirac_lift.proofs.narrow_levels.synth_narrow_values.Goals as goal

pub finish_narrow_rows-requires-clause-narrow : goal.finish_narrow_rows-requires-clause-narrow
finish_narrow_rows-requires-clause-narrow c y l =
    row_is_narrow c.args.wavelet c.args.width c.args.height y c.args.values.now _ c.requires.wavelet c.requires.even_down c.requires.at_most_4095 c.requires.len c.synth_narrow_columns.ensures l

pub returns : goal.returns
returns c =
    narrow_value c.args.wavelet c.args.width c.args.height c.args.values.now _ _ c.requires.len c.requires.across.0 c.synth_narrow_columns.ensures c.finish_narrow_rows.ensures
