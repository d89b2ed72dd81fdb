use Rattle.dirac_lift.proofs.NarrowLevels.{line_narrow}
use Rattle.dirac_lift.proofs.narrow_levels.synth_column.Goals as goal

pub synth_half_line-requires-clause-narrow : goal.synth_half_line-requires-clause-narrow
synth_half_line-requires-clause-narrow c = line_narrow _ _ _ _ c.take_column.ensures c.requires.narrow

pub returns-clause-value : goal.returns-clause-value
returns-clause-value c = c.put_column.ensures.put _ (c.synth_half_line.ensures.value _ c.take_column.ensures)
