use Rattle.std.proofs.Common.{ℤ, ◌-ℤ◌, arith}
use Rattle.dirac_encode_planes.proofs.Differences.{zipped_all}
use Rattle.dirac_encode_planes.proofs.difference.put_differences.Goals as goal

pub returns : goal.returns
returns c =
    zipped_all (λ (v : ℤ) (p : ℤ). v -ℤ p) c.args.samples.now c.args.predicted.now c.loop-i.left c.loop-i.i (omega arith) (omega arith) c.loop-i.invariant (omega arith)
