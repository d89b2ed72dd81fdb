use Rattle.std.proofs.Common.{ℕ, ℤ, ◌+◌, ◌-◌, length, arith, ap₂}
use Rattle.dirac_upconvert.specs.SubSamples.{between_sides}
use Rattle.dirac_upconvert.proofs.Lanes.{joined}
use Rattle.dirac_upconvert.proofs.rows.by_fours.Goals as goal

pub returns : goal.returns
returns c k l =
    let r = c.args.rests in
    let s = c.args.sides in
    let read : ℕ → ℕ → ℤ = between_sides r.bits r.right r.below c.args.above.now c.args.under.now in
    let last = length c.args.out.now - 4 in
    let first = joined 0 4 (λ n. read (s.left + n) (s.next + n)) _ _ c.put_between.new.out (λ n i. absurd (omega arith)) c.put_between.ensures (λ n i. ap₂ read (omega arith) (omega arith)) in
    joined last 4 (λ n. read (s.left + n) (s.next + n)) _ c.put_between.new.out c.put_between-2.new.out (λ n i. first n (omega arith)) c.put_between-2.ensures
    (λ n i. ap₂ read (omega (arith, c.further.ensures.left)) (omega (arith, c.further.ensures.next))) k
    (omega (arith, l, c.put_between.auto.out, c.put_between-2.auto.out))
