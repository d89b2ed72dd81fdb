use Rattle.std.proofs.Common.{arith, length, drop}
use Rattle.std.proofs.lemmas.List.{take_at}
use Rattle.dirac_bands.proofs.dc.dc_subtract.Goals as goal

pub returns-clause-growth : goal.returns-clause-growth
returns-clause-growth c b all =
    rw (take_at c.subtract_predictions.new.values (drop (length c.subtract_predictions.new.values) c.args.ll.now.values) (length c.args.ll.now.values) (omega arith))
    (c.subtract_predictions.ensures.growth b (rw c.values_mut.ensures.value all))
