use Rattle.std.proofs.Common.{rules, ◌+◌, ◌-◌, pos, slice_index_or, length, arith, ap}
use Rattle.dirac_lift.specs.Halves.{half_read}
use Rattle.dirac_lift.proofs.HalfLemmas.{abs-read, read_fits, read_more, sum_fits}
use Rattle.dirac_lift.proofs.halves.weighted_inside.Goals as goal

pub multiply_add-sum-requires : goal.multiply_add-sum-requires
multiply_add-sum-requires c =
    read_fits c.args.taps.now c.args.other.now (half_read c.args.step.lead 1 (length c.args.other.now) c.args.other.now c.args.n 0) c.requires.read.bound _ c.loop-k.k (c.args.n - c.args.step.lead + c.loop-k.k) _ (search rules) (search rules)
    c.loop-k.invariant c.requires.read.within (λ k. abs-read _ c.args.other.now _ c.requires.read.within) c.loop-k-test.true c.requires.read.fits

pub loop-k-preserved : goal.loop-k-preserved
loop-k-preserved c =
    read_more c.args.taps.now c.args.other.now (half_read c.args.step.lead 1 (length c.args.other.now) c.args.other.now c.args.n 0) c.loop-k.k (c.args.n - c.args.step.lead + c.loop-k.k) _ _ (search rules) (search rules) (record { sfits = c.multiply_add-sum.type_inv })
    c.loop-k.invariant (ap (λ i. slice_index_or c.args.other.now i (pos 0)) (omega arith)) c.multiply_add-sum.ensures

pub returns-clause-bound : goal.returns-clause-bound
returns-clause-bound c =
    sum_fits c.args.taps.now (half_read c.args.step.lead 1 (length c.args.other.now) c.args.other.now c.args.n 0) c.requires.read.bound _ c.loop-k.k _ c.loop-k.invariant (omega arith) (λ k. abs-read _ c.args.other.now _ c.requires.read.within) c.requires.read.fits
