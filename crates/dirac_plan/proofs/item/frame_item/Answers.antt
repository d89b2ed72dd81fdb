use Rattle.std.proofs.Common.{◌+◌, ◌-◌, ◌*◌, ◌/◌, ◌%◌, ℕ, Option, Some, ap, ap₂, sym, mul-le-mul_right, subst, ◌∙◌, arith, min}
use Rattle.dirac_plan.specs.declared.planned.Planned.{Planned}
use Rattle.dirac_plan.specs.Plan.{anchor_of, between_of}
use Rattle.dirac_plan.proofs.Accepted.{paced}
use Rattle.dirac_plan.proofs.Items.{IsPlace, place_of, opening_item, coded_anchor, coded_between}
use Rattle.dirac_plan.proofs.item.frame_item.Goals as goal

pub nonzero_rem-offset : goal.nonzero_rem-offset
nonzero_rem-offset c = (paced c.args.settings.now c.requires.settings).gop_least

pub returns-then-offset-eq0 : goal.returns-then-offset-eq0
returns-then-offset-eq0 c =
    let p = paced c.args.settings.now c.requires.settings in
    ap Some c.opening.ensures ∙ sym (opening_item c.args.count c.args.settings.now c.args.place c.requires.place p.gop_least c.if-offset-eq0.true)

pub overflow_add-gap : goal.overflow_add-gap
overflow_add-gap c = let p = paced c.args.settings.now c.requires.settings in omega (arith, p.between_most)

-- the place behind the group's first picture
pub overflow_add-k : goal.overflow_add-k
overflow_add-k c =
    let s = c.args.settings.now in
    let p = paced s c.requires.settings in
    let is = place_of c.args.count s c.args.place c.min-len.result c.requires.place p.gop_least (omega arith) c.min-len.ensures in
    omega (arith, is.in_group, p.gop_most, p.between_most)

pub overflow_sub-len : goal.overflow_sub-len
overflow_sub-len c =
    let s = c.args.settings.now in
    let p = paced s c.requires.settings in
    let is = place_of c.args.count s c.args.place c.min-len.result c.requires.place p.gop_least (omega arith) c.min-len.ensures in
    omega (arith, is.in_group, is.in_plan, is.place, is.len_is)

pub retired_of-requires-clause-gap : goal.retired_of-requires-clause-gap
retired_of-requires-clause-gap c two =
    let s = c.args.settings.now in
    let more = mul-le-mul_right (s.between + 1) two in
    omega arith

pub returns-then-offset-gap-eq0 : goal.returns-then-offset-gap-eq0
returns-then-offset-gap-eq0 c =
    let s = c.args.settings.now in
    let p = paced s c.requires.settings in
    let g = c.args.place in
    let first : ℕ = g - g % s.gop in
    let k : ℕ = (g % s.gop - 1) / (s.between + 1) in
    let is = place_of c.args.count s g c.min-len.result c.requires.place p.gop_least (omega arith) c.min-len.ensures in
    let at = subst (λ j. IsPlace c.args.count s g first c.min-len.result k j) c.if-offset-gap-eq0.true is in
    let of : ℕ → Option ℕ → Option ℕ → Option Planned = λ a b r. Some (anchor_of a (first + k * (s.between + 1)) b r) in
    ap Some c.anchor.ensures ∙ ap (λ a. of a c.second_of.result c.retired_of.result) (ap (λ m. first + m) c.min.ensures)
    ∙ ap₂ (of (first + min (k * (s.between + 1) + (s.between + 1)) (c.min-len.result - 1))) c.second_of.ensures c.retired_of.ensures
    ∙ sym (coded_anchor c.args.count s g first c.min-len.result k at)

pub returns-else-offset-gap-eq0 : goal.returns-else-offset-gap-eq0
returns-else-offset-gap-eq0 c =
    let s = c.args.settings.now in
    let p = paced s c.requires.settings in
    let g = c.args.place in
    let first : ℕ = g - g % s.gop in
    let k : ℕ = (g % s.gop - 1) / (s.between + 1) in
    let is = place_of c.args.count s g c.min-len.result c.requires.place p.gop_least (omega arith) c.min-len.ensures in
    let of : ℕ → Option Planned = λ a. Some (between_of s.references (first + k * (s.between + 1)) (first + a) (g - 1)) in
    ap Some c.between.ensures ∙ ap of c.min.ensures
    ∙ sym (coded_between c.args.count s g first c.min-len.result k ((g % s.gop - 1) % (s.between + 1)) is (omega (arith, c.if-offset-gap-eq0.false)))
