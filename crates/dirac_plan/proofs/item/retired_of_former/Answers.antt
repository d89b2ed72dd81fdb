use Rattle.std.proofs.Common.{◌≡◌, ◌+◌, ◌-◌, ◌*◌, Some, min, ap, sym, ◌∙◌, arith}
use Rattle.dirac_plan.specs.Plan.{anchors_behind, left_anchor}
use Rattle.dirac_plan.proofs.Accepted.{paced}
use Rattle.dirac_plan.proofs.Anchors.{anchor_is}
use Rattle.dirac_plan.proofs.Items.{left_within, none_asked, none_before, some_before}
use Rattle.dirac_plan.proofs.item.retired_of_former.Goals as goal

pub returns-then-settings-eq0 : goal.returns-then-settings-eq0
returns-then-settings-eq0 c = sym (none_asked c.args.settings.now c.args.first c.args.j c.if-settings-eq0.true)

pub returns-then-first-settings : goal.returns-then-first-settings
returns-then-first-settings c = sym (none_before c.args.settings.now c.args.first c.args.j c.if-first-settings.true)

pub overflow_add-gap : goal.overflow_add-gap
overflow_add-gap c = let p = paced c.args.settings.now c.requires.settings in omega (arith, p.between_most)

pub overflow_sub-last : goal.overflow_sub-last
overflow_sub-last c = (paced c.args.settings.now c.requires.settings).gop_least

pub overflow_add-last : goal.overflow_add-last
overflow_add-last c = let p = paced c.args.settings.now c.requires.settings in omega (arith, p.between_most, p.gop_most)

pub overflow_mul-left_anchor : goal.overflow_mul-left_anchor
overflow_mul-left_anchor c =
    let s = c.args.settings.now in
    let p = paced s c.requires.settings in
    let within = left_within s c.args.j in
    let same : c.left_anchor.result * (s.between + 1) ≡ left_anchor (anchors_behind s s.gop) c.args.j * (s.between + 1) = ap (λ k. k * (s.between + 1)) c.left_anchor.ensures in
    omega (arith, same, within, p.between_most, p.gop_most)

pub overflow_sub-settings : goal.overflow_sub-settings
overflow_sub-settings c = (paced c.args.settings.now c.requires.settings).gop_least

pub returns : goal.returns
returns c =
    let s = c.args.settings.now in
    let first = c.args.first in
    let k = left_anchor (anchors_behind s s.gop) c.args.j in
    ap (λ o. Some (first - s.gop + o))
    (c.min-offset.ensures ∙ ap (λ i. min (i * (s.between + 1)) (s.gop - 1)) c.left_anchor.ensures ∙ sym (anchor_is s s.gop k))
    ∙ sym (some_before s first c.args.j (λ e. c.if-settings-eq0.false e) (omega (arith, c.if-first-settings.false)))
