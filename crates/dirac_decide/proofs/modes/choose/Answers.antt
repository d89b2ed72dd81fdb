use Rattle.std.proofs.Common.{ap, ◌∙◌}
use Rattle.dirac_decide.specs.Choosing.{cheaper}
use Rattle.dirac_decide.specs.Given.{deciding_of}
use Rattle.dirac_decide.specs.Modes.{choice_of, dc_mode}
use Rattle.dirac_decide.proofs.Choices.{modes_are}
use Rattle.dirac_decide.proofs.modes.choose.Goals as goal

pub returns-clause-value : goal.returns-clause-value
unfolding choice_of
returns-clause-value c =
    let d = deciding_of c.args.inputs.now in
    c.with_dc.ensures.value ∙ ap (λ a. cheaper a (dc_mode d c.args.unit)) c.with_motion-choice.ensures.value ∙ modes_are d c.args.unit d.second
