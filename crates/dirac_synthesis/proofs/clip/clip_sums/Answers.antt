use Rattle.std.proofs.Common.{ℤ, pos, ◌+ℤ◌, slice_index_or, arith, refl}
use Rattle.dirac_common.specs.Samples.{clip}
use Rattle.dirac_synthesis.proofs.Maps.{mapped_both, one_more_told}
use Rattle.dirac_synthesis.proofs.clip.clip_sums.Goals as goal

pub loop-i-preserved : goal.loop-i-preserved
loop-i-preserved c =
    rw c.put_sum.ensures
    (one_more_told (λ k. clip (slice_index_or c.args.residual.now k (pos 0) +ℤ slice_index_or c.args.predicted.now k (pos 0))) c.loop-i.samples c.loop-i.i _ c.loop-i.invariant (omega arith) refl)

pub returns : goal.returns
returns c =
    mapped_both clip (λ (v : ℤ) (p : ℤ). v +ℤ p) c.args.residual.now c.args.predicted.now c.loop-i.samples c.loop-i.i
    (omega arith) (omega arith) c.loop-i.invariant (omega arith)
