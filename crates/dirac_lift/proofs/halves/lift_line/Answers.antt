use Rattle.std.proofs.Common.{arith, rules, length, ap, ◌∙◌}
use Rattle.std.specs.Int.{w32}
use Rattle.std.proofs.lemmas.Int.{to_z-of_z}
use mir.Val.{SFits}
use Rattle.dirac_lift.specs.Changes.{with_taps}
use Rattle.dirac_lift.specs.Halves.{half_read}
use Rattle.dirac_lift.specs.Lifting.{weighted}
use Rattle.dirac_lift.proofs.HalfLemmas.{half_one}
use Rattle.dirac_lift.proofs.ZeroSteps.{line_still}
use Rattle.dirac_lift.proofs.halves.lift_line.Goals as goal

pub left-preserved : goal.left-preserved
left-preserved c =
    let fits : SFits w32 c.weighted_clamped-sum.result = search rules in
    rw c.put_changed.ensures (half_one _ _ _ _ _ c.left.n _ c.left.invariant (omega arith) (to_z-of_z w32 _ fits ∙ c.weighted_clamped-sum.ensures.value))

pub inside-preserved : goal.inside-preserved
inside-preserved c =
    let fits : SFits w32 c.weighted_inside-sum.result = search rules in
    rw c.put_changed-in-inside.ensures
    (half_one _ _ _ _ _ c.inside.n _ c.inside.invariant (omega arith)
    (to_z-of_z w32 _ fits
    ∙ c.weighted_inside-sum.ensures.value
    ∙ ap (λ h. weighted c.args.taps.now (half_read c.args.step.lead 1 h c.args.other.now c.inside.n 0) (length c.args.taps.now)) c.requires.alike))

pub right-preserved : goal.right-preserved
right-preserved c =
    let fits : SFits w32 c.weighted_clamped-sum-in-right.result = search rules in
    rw c.put_changed-in-right.ensures (half_one _ _ _ _ _ c.right.n _ c.right.invariant (omega arith) (to_z-of_z w32 _ fits ∙ c.weighted_clamped-sum-in-right.ensures.value))

pub returns-then-are_zeros : goal.returns-then-are_zeros
returns-then-are_zeros c = line_still (with_taps c.args.step c.args.taps.now) c.args.own.now c.args.other.now (c.are_zeros.ensures c.if-are_zeros.true)
