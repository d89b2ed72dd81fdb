use Rattle.std.proofs.Common.{◌+◌, ◌*◌, arith, rules, ap, ◌∙◌, pos, get_or}
use Rattle.std.specs.Int.{w32}
use Rattle.std.proofs.lemmas.Int.{to_z-of_z}
use Rattle.std.proofs.lemmas.Nat.{mul-add-lt, mul-le}
use mir.Val.{SFits}
use Rattle.dirac_lift.specs.Lifting.{moved, rounded}
use Rattle.dirac_lift.proofs.HalfLemmas.{half_more, half_end, half_still}
use Rattle.dirac_lift.proofs.halves.lift_lines.Goals as goal

pub put_changed-requires-clause-inside : goal.put_changed-requires-clause-inside
put_changed-requires-clause-inside c = omega (arith, c.requires.own_len, mul-add-lt c.loop-n.n c.args.width c.loop-x.x c.args.half c.loop-n-test.true c.loop-x-test.true)

pub put_changed-requires-clause-changed : goal.put_changed-requires-clause-changed
put_changed-requires-clause-changed c = half_still _ _ _ _ _ _ (c.loop-n.n * c.args.width + c.loop-x.x) _ _ c.loop-x.invariant (omega arith) c.requires.changed

pub loop-x-preserved : goal.loop-x-preserved
loop-x-preserved c =
    let fits : SFits w32 c.weighted_clamped-sum.result = search rules in
    rw c.put_changed.ensures
    (half_more _ _ _ _ _ _ c.loop-n.n c.loop-x.x _ c.loop-x.invariant (omega arith) (omega (arith, c.requires.own_len, mul-add-lt c.loop-n.n c.args.width c.loop-x.x c.args.half c.loop-n-test.true c.loop-x-test.true)) (ap (λ z. moved c.args.step.minus (get_or c.loop-x.own (c.loop-n.n * c.args.width + c.loop-x.x) (pos 0)) (rounded c.args.step.shift z)) (to_z-of_z w32 _ fits ∙ c.weighted_clamped-sum.ensures.value)))

pub returns : goal.returns
returns c = half_end _ _ _ _ _ _ _ c.loop-n.invariant (omega (arith, mul-le c.args.half c.args.width c.loop-n.n c.args.width (omega arith) (omega arith)))
