use Rattle.std.proofs.Common.{arith}
use Rattle.dirac_bands.proofs.Predictions.{only_sums, sums_lent}
use Rattle.dirac_bands.proofs.dc.dc_add.Goals as goal

pub returns-clause-no_other_sums : goal.returns-clause-no_other_sums
returns-clause-no_other_sums c =
    only_sums c.args.ll.now c.add_predictions.new.values (omega arith) (omega arith) c.width-width.ensures.whole
    (rw (c.width-width.ensures.value, c.height-height.ensures.value, c.values_mut.ensures.value) at c.add_predictions.ensures.value)

pub returns-clause-value : goal.returns-clause-value
returns-clause-value c =
    sums_lent c.args.ll.now c.add_predictions.new.values (omega arith) (omega arith) c.width-width.ensures.whole
    (rw (c.width-width.ensures.value, c.height-height.ensures.value, c.values_mut.ensures.value) at c.add_predictions.ensures.value)
