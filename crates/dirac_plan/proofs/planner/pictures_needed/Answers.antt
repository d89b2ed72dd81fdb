use Rattle.std.proofs.Common.{◌+◌, ◌*◌, arith}
use Rattle.std.proofs.Math.Nat.{mul-le-mul}
use Rattle.std.proofs.lemmas.Nat.{mod_below}
use Rattle.dirac_plan.proofs.Accepted.{paced}
use Rattle.dirac_plan.proofs.planner.pictures_needed.Goals as goal

pub overflow_mul-offset : goal.overflow_mul-offset
overflow_mul-offset c =
    let p = paced c.args.settings.now c.requires in
    omega (arith, mul-le-mul c.frame_pictures-frame.ensures.within.1 p.gop_most)

pub nonzero_rem-offset : goal.nonzero_rem-offset
nonzero_rem-offset c =
    let p = paced c.args.settings.now c.requires in
    omega (arith, mul-le-mul c.frame_pictures-frame.ensures.within.0 p.gop_least)

pub overflow_add-settings : goal.overflow_add-settings
overflow_add-settings c = let p = paced c.args.settings.now c.requires in omega (arith, p.between_most)

pub overflow_mul-frame : goal.overflow_mul-frame
overflow_mul-frame c =
    let p = paced c.args.settings.now c.requires in
    omega (arith, mul-le-mul {n₁ = c.frame_pictures-frame.result} {m₁ = c.args.settings.now.between + 1} {n₂ = 2} {m₂ = 4} c.frame_pictures-frame.ensures.within.1 (omega (arith, p.between_most)))

pub overflow_mul-frame-else-offset-frame : goal.overflow_mul-frame-else-offset-frame
overflow_mul-frame-else-offset-frame c =
    let p = paced c.args.settings.now c.requires in
    omega (arith, mul-le-mul c.frame_pictures-frame.ensures.within.1 p.gop_most)

pub overflow_sub-frame : goal.overflow_sub-frame
overflow_sub-frame c =
    let p = paced c.args.settings.now c.requires in
    let some = mul-le-mul c.frame_pictures-frame.ensures.within.0 p.gop_least in
    omega (arith, mod_below c.args.given (c.frame_pictures-frame.result * c.args.settings.now.gop) (omega (arith, some)))
