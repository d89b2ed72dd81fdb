use Rattle.std.proofs.Common.{ap, refl, ◌∙◌}
use Rattle.dirac_decide.specs.Given.{deciding_of, view_of}
use Rattle.dirac_decide.specs.Choosing.{cheaper}
use Rattle.dirac_decide.specs.Modes.{both_mode}
use Rattle.dirac_decide.proofs.Choices.{second_is}
use Rattle.dirac_decide.proofs.Told.{told_whole}
use Rattle.dirac_decide.proofs.modes.with_second.Goals as goal

pub with_both-requires-clause-block : goal.with_both-requires-clause-block
with_both-requires-clause-block c = c.unless_cheaper-choice.ensures.block 2 c.requires.block c.from_second-block.ensures.block

pub returns-clause-value : goal.returns-clause-value
returns-clause-value c =
    let d = deciding_of c.args.inputs.now in
    let r = view_of c.args.view.now in
    let u = c.args.unit in
    c.with_both.ensures.value
    ∙ ap (λ a. cheaper a (both_mode d r u))
    (c.unless_cheaper-choice.ensures.value c.best_of-best.result.cost (told_whole c.args.choice.cost c.best_of-best.result.cost c.best_of-best.result.cost refl)
    ∙ second_is d r u c.best_of-best.result.vector c.from_second-block.result c.best_of-best.result.cost c.best_of-best.ensures.vector c.best_of-best.ensures.cost c.from_second-block.ensures.value c.args.choice)
