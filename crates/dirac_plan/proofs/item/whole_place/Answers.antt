use Rattle.std.proofs.Common.{ℕ, ◌+◌, ◌/◌, arith}
use Rattle.dirac_plan.proofs.Accepted.{paced}
use Rattle.dirac_plan.proofs.Fields.{back_place, even_place, front_place, last_from, last_within}
use Rattle.dirac_plan.proofs.item.whole_place.Goals as goal

pub returns-then-count-eq0-clause-field : goal.returns-then-count-eq0-clause-field
returns-then-count-eq0-clause-field c x at =
    let s = c.args.settings.now in
    even_place c.args.count s c.args.place x c.requires.fields (paced s c.requires.settings).gop_least c.if-count-eq0.true at

pub overflow_mul-last_place : goal.overflow_mul-last_place
overflow_mul-last_place c =
    let s = c.args.settings.now in
    let frames : ℕ = (c.args.count + 1) / 2 in
    omega (arith, c.requires.in_range, last_within frames s c.last_place.result (paced s c.requires.settings).gop_least (last_from frames s c.last_place.result c.last_place.ensures))

pub returns-then-place-last_place-clause-field : goal.returns-then-place-last_place-clause-field
returns-then-place-last_place-clause-field c x at =
    let s = c.args.settings.now in
    let frames : ℕ = (c.args.count + 1) / 2 in
    front_place c.args.count s c.args.place c.last_place.result x c.requires.fields (paced s c.requires.settings).gop_least (omega (arith, c.if-count-eq0.false))
    (last_from frames s c.last_place.result c.last_place.ensures) c.if-place-last_place.true at

pub returns-else-place-last_place-clause-field : goal.returns-else-place-last_place-clause-field
returns-else-place-last_place-clause-field c x at =
    let s = c.args.settings.now in
    let frames : ℕ = (c.args.count + 1) / 2 in
    back_place c.args.count s c.args.place c.last_place.result x c.requires.fields (paced s c.requires.settings).gop_least (omega (arith, c.if-count-eq0.false))
    (last_from frames s c.last_place.result c.last_place.ensures) c.if-place-last_place.false at
