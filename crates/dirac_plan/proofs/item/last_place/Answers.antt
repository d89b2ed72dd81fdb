use Rattle.std.proofs.Common.{◌-◌, ap, arith, option_map}
use Rattle.dirac_plan.specs.Frames.{planned_number}
use Rattle.dirac_plan.proofs.Accepted.{paced}
use Rattle.dirac_plan.proofs.Fields.{last_is}
use Rattle.dirac_plan.proofs.Items.{opening_item}
use Rattle.dirac_plan.proofs.item.last_place.Goals as goal

pub nonzero_rem-offset : goal.nonzero_rem-offset
nonzero_rem-offset c = (paced c.args.settings.now c.requires.settings).gop_least

pub returns-then-offset-eq0 : goal.returns-then-offset-eq0
returns-then-offset-eq0 c =
    let s = c.args.settings.now in
    let p = paced s c.requires.settings in
    ap (option_map planned_number) (opening_item c.args.count s (c.args.count - 1) (omega (arith, c.requires.at_least_1)) p.gop_least c.if-offset-eq0.true)

pub overflow_add-gap : goal.overflow_add-gap
overflow_add-gap c = let p = paced c.args.settings.now c.requires.settings in omega (arith, p.between_most)

pub returns : goal.returns
returns c =
    let s = c.args.settings.now in
    let p = paced s c.requires.settings in
    last_is c.args.count s c.requires.at_least_1 p.gop_least (omega (arith, c.if-offset-eq0.false))
