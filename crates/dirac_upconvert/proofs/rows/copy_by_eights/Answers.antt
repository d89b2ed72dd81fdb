use Rattle.std.proofs.Common.{ℕ, ℤ, pos, ◌+◌, ◌-◌, ◌*◌, length, slice_index_or, arith, ap}
use Rattle.dirac_upconvert.proofs.Lanes.{joined}
use Rattle.dirac_upconvert.proofs.rows.copy_by_eights.Goals as goal

pub loop-i-preserved : goal.loop-i-preserved
loop-i-preserved c k l =
    let read : ℕ → ℤ = λ n. slice_index_or c.args.row.now n (pos 0) in
    joined (8 * c.loop-i.i) 8 (λ n. read (c.args.at + n)) _ c.loop-i.out c.put_widened.new.out c.loop-i.invariant c.put_widened.ensures
    (λ n i. ap read (omega arith)) k (omega (arith, l))

pub returns : goal.returns
returns c k l =
    let read : ℕ → ℤ = λ n. slice_index_or c.args.row.now n (pos 0) in
    let last = length c.args.out.now - 8 in
    joined last 8 (λ n. read (c.args.at + n)) _ c.loop-i.out c.put_widened-2.new.out (λ n i. c.loop-i.invariant n (omega arith)) c.put_widened-2.ensures
    (λ n i. ap read (omega arith)) k
    (omega (arith, l, c.put_widened-2.auto.out))
