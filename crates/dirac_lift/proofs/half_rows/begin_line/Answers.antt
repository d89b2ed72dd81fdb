use Rattle.std.proofs.Common.{◌+◌, ◌*◌, arith, ◌∙◌}
use Rattle.dirac_lift.specs.Level.{first_doubled}
use Rattle.dirac_lift.proofs.HalfAnalysis.{begun_at}
use Rattle.dirac_lift.proofs.LevelLemmas.{length-begun}
use Rattle.dirac_lift.proofs.NarrowLevels.{taken_none, taken_more, taken_all}
use Rattle.dirac_lift.proofs.half_rows.begin_line.Goals as goal

pub loop-n-init : goal.loop-n-init
loop-n-init c = taken_none _ _ _

pub loop-n-preserved : goal.loop-n-preserved
loop-n-preserved c =
    rw (c.begin_pair.ensures.low, c.begin_pair.ensures.high)
    (taken_more (first_doubled c.args.wavelet c.args.line.now) _ _ c.loop-n.n _ _ c.loop-n.invariant (omega arith) (omega arith)
    (begun_at c.args.wavelet c.halves-doubles.result c.args.line.now (2 * c.loop-n.n) c.halves-doubles.ensures)
    (begun_at c.args.wavelet c.halves-doubles.result c.args.line.now (2 * c.loop-n.n + 1) c.halves-doubles.ensures))

pub returns : goal.returns
returns c =
    taken_all (first_doubled c.args.wavelet c.args.line.now) _ _ c.loop-n.n c.loop-n.invariant (length-begun c.args.wavelet c.args.line.now ∙ omega arith) (omega arith) (omega arith)
