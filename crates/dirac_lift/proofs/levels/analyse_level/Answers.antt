use Rattle.std.proofs.Common.{arith, length, drop}
use Rattle.std.proofs.lemmas.List.{take_at}
use Rattle.dirac_lift.proofs.levels.analyse_level.Goals as goal

pub returns-clause-growth : goal.returns-clause-growth
returns-clause-growth c b all =
    rw (take_at c.analyse_values.new.values (drop (length c.analyse_values.new.values) c.args.plane.now.values) (length c.args.plane.now.values) (omega arith))
    (c.analyse_values.ensures.growth b (rw c.values_mut.ensures.value all))
