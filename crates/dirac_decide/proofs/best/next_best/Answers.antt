use Rattle.std.proofs.Common.{arith}
use Rattle.dirac_decide.specs.Given.{deciding_of, view_of}
use Rattle.dirac_decide.proofs.Candidates.{best_kept, best_seen, best_taken}
use Rattle.dirac_decide.proofs.best.next_best.Goals as goal

pub returns-then-is_seen : goal.returns-then-is_seen
returns-then-is_seen c =
    best_seen (deciding_of c.args.inputs.now) (view_of c.args.view.now) c.args.unit c.args.k (c.is_seen.ensures c.if-is_seen.true).0 c.args.best c.candidate-vector.result
    c.requires.best c.candidate-vector.ensures.value (c.is_seen.ensures c.if-is_seen.true).1 (c.is_seen.ensures c.if-is_seen.true).2

pub returns-then-cost-best : goal.returns-then-cost-best
returns-then-cost-best c =
    best_taken (deciding_of c.args.inputs.now) (view_of c.args.view.now) c.args.unit c.args.k c.args.best _ c.requires.best c.candidate-vector.ensures.value
    c.vector_cost_below-cost.ensures.told (omega arith) c.candidate-vector.ensures.of_16_bits

pub returns-else-cost-best : goal.returns-else-cost-best
returns-else-cost-best c =
    best_kept (deciding_of c.args.inputs.now) (view_of c.args.view.now) c.args.unit c.args.k c.vector_cost_below-cost.result c.args.best c.candidate-vector.result
    c.requires.best c.candidate-vector.ensures.value c.vector_cost_below-cost.ensures.told (omega arith)
