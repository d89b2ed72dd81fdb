use Rattle.std.proofs.Common.{◌∙◌, ap, ◌-◌, ◌^◌, ◌*◌, ◌/◌, ◌%◌, Bool, leb, sym, subst}
use Rattle.std.proofs.lemmas.Bool.{le-leb, lt-leb}
use Rattle.dirac_arith.specs.Registers.{Settles, with_part}
use Rattle.dirac_arith.proofs.Settling.{bound_is, settles_upper, settles_lower}
use Rattle.dirac_arith.proofs.registers.decide.Goals as goal
use Rattle.dirac_arith.proofs.registers.decide.Goals.{then-truth, else-truth}

pub returns : goal.returns
returns c =
    let r = c.args.registers in
    let p = c.requires in
    let bound = c.from-whole.result * 2 ^ r.ahead % 18446744073709551616 in
    let bounded = bound_is r c.args.probability c.from.result c.from-whole.result p.wide p.narrow p.some_probability p.most_probability p.most_ahead c.from.ensures c.from-whole.ensures in
    let window = c.less_where_not_below-window in
    let S : Bool → Type 0 = λ t. Settles r (r.range * c.args.probability / 65536) t (with_part r window.result c.if-truth.range) in
    let settled : S (leb bound r.window) =
    elim c.if-truth.branch [
      | then-truth w ↦
          subst S (sym (le-leb bound r.window w.if-truth.true))
          (settles_upper r c.args.probability bound window.result c.if-truth.range p.wide p.narrow p.some_probability p.most_probability p.some_ahead p.inside
          bounded w.if-truth.true (window.ensures.not_below w.if-truth.true) (w.range-is ∙ ap (λ x. r.range - r.range * x / 65536) c.from.ensures))
      | else-truth w ↦
          subst S (sym (lt-leb bound r.window w.if-truth.false))
          (settles_lower r c.args.probability bound window.result c.if-truth.range p.wide p.narrow p.some_probability p.most_probability p.some_ahead
          bounded w.if-truth.false (window.ensures.below w.if-truth.false) (w.range-is ∙ ap (λ x. r.range * x / 65536) c.from.ensures))
    ] in
    rw c.doubled.ensures settled
