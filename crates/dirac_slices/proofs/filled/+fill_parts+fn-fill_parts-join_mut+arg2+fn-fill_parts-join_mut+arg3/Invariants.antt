use Rattle.std.proofs.Common.{◌+◌, ◌-◌, ◌*◌}
use Rattle.dirac_slices.proofs.filled.+fill_parts+fn-fill_parts-join_mut+arg2+fn-fill_parts-join_mut+arg3.Given as goal

abbrev pub decreases-fill_parts : goal.decreases-fill_parts
decreases-fill_parts g l = 2 * (l.parts.end - l.parts.first)

abbrev pub decreases-join_mut+arg2 : goal.decreases-join_mut+arg2
decreases-join_mut+arg2 g l = 2 * (l.front.end - l.front.first) + 1

abbrev pub decreases-join_mut+arg3 : goal.decreases-join_mut+arg3
decreases-join_mut+arg3 g l = 2 * (l.back.end - l.back.first) + 1
