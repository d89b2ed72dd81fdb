use Rattle.std.proofs.Common.{◌≡◌, ◌*◌, ◌-◌, arith, ap, sym, ◌∙◌}
use Rattle.dirac_costs.specs.Least.{first_least_to}
use Rattle.dirac_decide.specs.Given.{deciding_of, view_of}
use Rattle.dirac_decide.specs.Units.{candidate, candidate_cost, vector_cost}
use Rattle.dirac_decide.proofs.best.best_of_all.Goals as goal

pub returns-clause-vector : goal.returns-clause-vector
returns-clause-vector c =
    let d = deciding_of c.args.inputs.now in
    let r = view_of c.args.view.now in
    let u = c.args.unit in
    let last : c.loop-k.k ≡ u.size * u.size - 1 = omega arith in
    c.loop-k.invariant.vector ∙ ap (λ n. candidate r u (first_least_to (candidate_cost d r u) n)) last

pub returns-clause-costed : goal.returns-clause-costed
returns-clause-costed c =
    let d = deciding_of c.args.inputs.now in
    let r = view_of c.args.view.now in
    let u = c.args.unit in
    record {
      cost = c.loop-k.invariant.cost ∙ ap (vector_cost d r u) (sym c.loop-k.invariant.vector);
      of_16_bits = c.loop-k.invariant.of_16_bits;
      at_most = c.loop-k.invariant.at_most;
    }
