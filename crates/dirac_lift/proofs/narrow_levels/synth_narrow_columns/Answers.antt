use Rattle.std.proofs.Common.{arith}
use Rattle.dirac_lift.proofs.NarrowLevels.{column_is_narrow, ran_all, ran_more, ran_none}
use Rattle.dirac_lift.proofs.narrow_levels.synth_narrow_columns.Goals as goal

pub loop-x-init : goal.loop-x-init
loop-x-init c = ran_none _ _ _ _

pub synth_column-requires-clause-narrow : goal.synth_column-requires-clause-narrow
synth_column-requires-clause-narrow c = column_is_narrow _ _ _ c.loop-x.x _ _ c.loop-x.invariant c.requires.wavelet (omega arith) c.requires.at_most_4095

pub loop-x-preserved : goal.loop-x-preserved
loop-x-preserved c = ran_more _ _ _ _ _ _ c.loop-x.x c.loop-x.invariant (omega arith) (omega arith) c.synth_column.ensures.value c.synth_column.ensures.others

pub returns : goal.returns
returns c = ran_all _ _ _ _ _ c.loop-x.x c.loop-x.invariant (omega arith)
