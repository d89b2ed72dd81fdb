use Rattle.std.proofs.Common.{◌-◌, ◌*◌, ◌/◌, refl, ap}
use Rattle.dirac_arith.proofs.Settling.{bound_is, settles_upper, settles_lower}
use Rattle.dirac_arith.proofs.registers.foresee.Goals as goal

pub returns-then-registers-bound : goal.returns-then-registers-bound
returns-then-registers-bound c =
    let r = c.args.registers in
    let p = c.requires in
    let bounded = bound_is r c.args.probability c.from.result c.from-whole.result p.wide p.narrow p.some_probability p.most_probability p.most_ahead c.from.ensures c.from-whole.ensures in
    rw c.seldom_doubled.ensures
    (settles_upper r c.args.probability _ _ _ p.wide p.narrow p.some_probability p.most_probability p.some_ahead p.inside
    bounded c.if-registers-bound.true refl (ap (λ x. r.range - r.range * x / 65536) c.from.ensures))

pub returns-else-registers-bound : goal.returns-else-registers-bound
returns-else-registers-bound c =
    let r = c.args.registers in
    let p = c.requires in
    let bounded = bound_is r c.args.probability c.from.result c.from-whole.result p.wide p.narrow p.some_probability p.most_probability p.most_ahead c.from.ensures c.from-whole.ensures in
    rw c.doubled.ensures
    (settles_lower r c.args.probability _ _ _ p.wide p.narrow p.some_probability p.most_probability p.some_ahead
    bounded c.if-registers-bound.false refl (ap (λ x. r.range * x / 65536) c.from.ensures))
