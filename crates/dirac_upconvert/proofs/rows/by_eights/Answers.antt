use Rattle.std.proofs.Common.{ℕ, ℤ, ◌+◌, ◌-◌, ◌*◌, length, arith, ap₂}
use Rattle.dirac_upconvert.specs.SubSamples.{between_sides}
use Rattle.dirac_upconvert.proofs.Lanes.{joined}
use Rattle.dirac_upconvert.proofs.rows.by_eights.Goals as goal

pub loop-i-preserved : goal.loop-i-preserved
loop-i-preserved c k l =
    let r = c.args.rests in
    let s = c.args.sides in
    let read : ℕ → ℕ → ℤ = between_sides r.bits r.right r.below c.args.above.now c.args.under.now in
    joined (8 * c.loop-i.i) 8 (λ n. read (s.left + n) (s.next + n)) _ c.loop-i.out c.put_between.new.out c.loop-i.invariant c.put_between.ensures
    (λ n i. ap₂ read (omega (arith, c.further.ensures.left)) (omega (arith, c.further.ensures.next))) k (omega (arith, l))

pub returns : goal.returns
returns c k l =
    let r = c.args.rests in
    let s = c.args.sides in
    let read : ℕ → ℕ → ℤ = between_sides r.bits r.right r.below c.args.above.now c.args.under.now in
    let last = length c.args.out.now - 8 in
    joined last 8 (λ n. read (s.left + n) (s.next + n)) _ c.loop-i.out c.put_between-2.new.out (λ n i. c.loop-i.invariant n (omega arith)) c.put_between-2.ensures
    (λ n i. ap₂ read (omega (arith, c.further-2.ensures.left)) (omega (arith, c.further-2.ensures.next))) k
    (omega (arith, l, c.put_between-2.auto.out))
