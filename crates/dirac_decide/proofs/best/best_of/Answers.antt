use Rattle.std.proofs.Common.{ap, arith, sym, ◌∙◌}
use Rattle.dirac_decide.specs.Given.{deciding_of, view_of}
use Rattle.dirac_decide.specs.Units.{vector_cost}
use Rattle.dirac_decide.proofs.Insides.{vector_at_zero, vector_inside}
use Rattle.dirac_decide.proofs.best.best_of.Goals as goal

pub returns-then-inputs-eq0-clause-vector : goal.returns-then-inputs-eq0-clause-vector
returns-then-inputs-eq0-clause-vector c =
    let d = deciding_of c.args.inputs.now in
    let r = view_of c.args.view.now in
    c.best_of_all.ensures.vector ∙ sym (vector_at_zero d r c.args.unit (omega (arith, c.if-inputs-eq0.true)))

pub returns-then-inputs-eq0-clause-cost : goal.returns-then-inputs-eq0-clause-cost
returns-then-inputs-eq0-clause-cost c =
    let d = deciding_of c.args.inputs.now in
    let r = view_of c.args.view.now in
    c.best_of_all.ensures.costed.cost
    ∙ ap (vector_cost d r c.args.unit) (c.best_of_all.ensures.vector ∙ sym (vector_at_zero d r c.args.unit (omega (arith, c.if-inputs-eq0.true))))

pub returns-else-inputs-eq0-clause-vector : goal.returns-else-inputs-eq0-clause-vector
returns-else-inputs-eq0-clause-vector c =
    let d = deciding_of c.args.inputs.now in
    let r = view_of c.args.view.now in
    c.best_inside.ensures.vector ∙ sym (vector_inside d r c.args.unit (λ e. absurd (omega (arith, e, c.if-inputs-eq0.false))))

pub returns-else-inputs-eq0-clause-cost : goal.returns-else-inputs-eq0-clause-cost
returns-else-inputs-eq0-clause-cost c =
    let d = deciding_of c.args.inputs.now in
    let r = view_of c.args.view.now in
    c.best_inside.ensures.costed.cost
    ∙ ap (vector_cost d r c.args.unit) (c.best_inside.ensures.vector ∙ sym (vector_inside d r c.args.unit (λ e. absurd (omega (arith, e, c.if-inputs-eq0.false)))))
