use Rattle.std.proofs.Common.{arith, true, false, ◌∙◌}
use Rattle.dirac_arith.proofs.Steps.{adapts, settles}
use Rattle.dirac_arith.proofs.probabilities.adapt.Goals as goal

pub amount_if-requires : goal.amount_if-requires
amount_if-requires c =
    let down = adapts c.args.probability true c.requires.at_least_254 c.requires.at_most_65281 in
    let up = adapts c.args.probability false c.requires.at_least_254 c.requires.at_most_65281 in
    omega (arith, down.some, up.most, c.step.ensures, c.step-2.ensures, c.from-down.ensures, c.from-up.ensures)

pub overflow_sub-result : goal.overflow_sub-result
overflow_sub-result c =
    let s = settles c.args.probability c.from-up.result c.from-down.result c.args.truth (c.from-up.ensures ∙ c.step-2.ensures) (c.from-down.ensures ∙ c.step.ensures) c.requires.at_least_254 c.requires.at_most_65281 in
    omega (arith, s.0, c.amount_if.ensures, c.from.ensures)

pub overflow_cast-result : goal.overflow_cast-result
overflow_cast-result c =
    let s = settles c.args.probability c.from-up.result c.from-down.result c.args.truth (c.from-up.ensures ∙ c.step-2.ensures) (c.from-down.ensures ∙ c.step.ensures) c.requires.at_least_254 c.requires.at_most_65281 in
    let kept = adapts c.args.probability c.args.truth c.requires.at_least_254 c.requires.at_most_65281 in
    record { fits = omega (arith, s.1, kept.most, c.amount_if.ensures, c.from.ensures) }

pub returns-clause-at_least_254_result : goal.returns-clause-at_least_254_result
returns-clause-at_least_254_result c =
    let s = settles c.args.probability c.from-up.result c.from-down.result c.args.truth (c.from-up.ensures ∙ c.step-2.ensures) (c.from-down.ensures ∙ c.step.ensures) c.requires.at_least_254 c.requires.at_most_65281 in
    let kept = adapts c.args.probability c.args.truth c.requires.at_least_254 c.requires.at_most_65281 in
    omega (arith, s.1, kept.some, c.amount_if.ensures, c.from.ensures)

pub returns-clause-at_most_65281_result : goal.returns-clause-at_most_65281_result
returns-clause-at_most_65281_result c =
    let s = settles c.args.probability c.from-up.result c.from-down.result c.args.truth (c.from-up.ensures ∙ c.step-2.ensures) (c.from-down.ensures ∙ c.step.ensures) c.requires.at_least_254 c.requires.at_most_65281 in
    let kept = adapts c.args.probability c.args.truth c.requires.at_least_254 c.requires.at_most_65281 in
    omega (arith, s.1, kept.most, c.amount_if.ensures, c.from.ensures)
