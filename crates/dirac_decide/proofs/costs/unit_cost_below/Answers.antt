use Rattle.std.proofs.Common.{ap, ◌∙◌}
use Rattle.dirac_decide.specs.Given.{deciding_of}
use Rattle.dirac_decide.specs.Predictors.{unit_cost, predictor_cost}
use Rattle.dirac_decide.proofs.Distances.{cost_is}
use Rattle.dirac_decide.proofs.Told.{told_as}
use Rattle.dirac_decide.proofs.costs.unit_cost_below.Goals as goal

pub returns-clause-told : goal.returns-clause-told
returns-clause-told c =
    let n = c.args.inputs.now in
    let p = c.args.predictor.now in
    told_as c.args.limit _ (unit_cost (deciding_of n) c.args.unit p c.args.bits) c.cost_below.result c.cost_below.ensures.told
    (ap (λ w. predictor_cost n.source.now.y n.precision p w c.args.bits) c.unit_window-window.ensures.value ∙ cost_is (deciding_of n) c.args.unit p c.args.bits)
