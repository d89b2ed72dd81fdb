use Rattle.std.proofs.Common.{arith, length, drop}
use Rattle.std.proofs.lemmas.List.{take_at}
use Rattle.dirac_lift.proofs.levels.synth_level.Goals as goal

pub returns-clause-growth : goal.returns-clause-growth
returns-clause-growth c b all =
    rw (take_at c.synth_values.new.values (drop (length c.synth_values.new.values) c.args.plane.now.values) (length c.args.plane.now.values) (omega arith))
    (c.synth_values.ensures.growth b (rw c.values_mut.ensures.value all))
