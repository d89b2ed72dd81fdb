use Rattle.std.proofs.Common.{◌≡◌, ◌*◌, [], Option, ap, arith, refl, subst, sym, ◌∙◌}
use Rattle.dirac_decide.specs.Given.{deciding_of, view_of}
use Rattle.dirac_decide.specs.Insides.{IsBestAmong, IsBestWhereSome}
use Rattle.dirac_decide.specs.Units.{first_or_none, inside_to, vector_cost}
use Rattle.dirac_decide.specs.declared.best.Best.{Best}
use Rattle.dirac_decide.proofs.inside.best_inside.Goals as goal

pub loop-k-init : goal.loop-k-init
loop-k-init c = refl

pub returns-in-Some-clause-vector : goal.returns-in-Some-clause-vector
returns-in-Some-clause-vector c =
    let d = deciding_of c.args.inputs.now in
    let r = view_of c.args.view.now in
    let u = c.args.unit in
    let last : c.loop-k.k ≡ u.size * u.size = omega arith in
    let is : IsBestAmong d r u (inside_to d r u c.loop-k.k) c.in-Some.best = subst (λ (o : Option Best). IsBestWhereSome d r u (inside_to d r u c.loop-k.k) o) c.in-Some.is c.loop-k.invariant in
    is.vector ∙ ap (λ n. first_or_none (vector_cost d r u) (inside_to d r u n)) last

pub returns-in-Some-clause-costed : goal.returns-in-Some-clause-costed
returns-in-Some-clause-costed c =
    let d = deciding_of c.args.inputs.now in
    let r = view_of c.args.view.now in
    let u = c.args.unit in
    let is : IsBestAmong d r u (inside_to d r u c.loop-k.k) c.in-Some.best = subst (λ (o : Option Best). IsBestWhereSome d r u (inside_to d r u c.loop-k.k) o) c.in-Some.is c.loop-k.invariant in
    is.costed

pub returns-in-None-clause-vector : goal.returns-in-None-clause-vector
returns-in-None-clause-vector c =
    let d = deciding_of c.args.inputs.now in
    let r = view_of c.args.view.now in
    let u = c.args.unit in
    let last : c.loop-k.k ≡ u.size * u.size = omega arith in
    let none : inside_to d r u c.loop-k.k ≡ [] = subst (λ (o : Option Best). IsBestWhereSome d r u (inside_to d r u c.loop-k.k) o) c.in-None.is c.loop-k.invariant in
    c.costed.ensures.vector
    ∙ sym (ap (λ n. first_or_none (vector_cost d r u) (inside_to d r u n)) (sym last) ∙ ap (first_or_none (vector_cost d r u)) none)
