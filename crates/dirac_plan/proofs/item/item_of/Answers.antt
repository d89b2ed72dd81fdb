use Rattle.std.proofs.Common.{ℕ, ap, sym, ◌∙◌, ◌+◌, ◌/◌, Some, slice_get, arith}
use Rattle.dirac_plan.proofs.Accepted.{paced}
use Rattle.dirac_plan.proofs.Fields.{plan_of_frames}
use Rattle.dirac_plan.proofs.Places.{below_more, frames_below}
use Rattle.dirac_plan.proofs.item.item_of.Goals as goal

pub returns-then-settings-eq0 : goal.returns-then-settings-eq0
returns-then-settings-eq0 c =
    c.frame_item.ensures ∙ sym (ap (λ l. slice_get l c.args.place) (plan_of_frames c.args.count c.args.settings.now c.if-settings-eq0.true))

pub field_of-requires-clause-frame : goal.field_of-requires-clause-frame
field_of-requires-clause-frame c =
    let s = c.args.settings.now in
    let frames : ℕ = (c.args.count + 1) / 2 in
    let below = frames_below frames s (c.whole_place-at.result / 2) c.frame_item-frame.result (paced s c.requires.settings).gop_least (sym c.frame_item-frame.ensures) in
    below_more frames 2147483647 c.frame_item-frame.result (omega (arith, c.requires.in_range)) below

pub returns : goal.returns
returns c =
    ap Some c.field_of.ensures ∙ sym (c.whole_place-at.ensures.field c.frame_item-frame.result (sym c.frame_item-frame.ensures))
