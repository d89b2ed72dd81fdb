use Rattle.std.proofs.Common.{◌≡◌, true, false, List, [], ◌∷◌, ◌++◌, Option, subst, sym, ◌∙◌}
use Rattle.dirac_common.specs.declared.formats.Vector.{Vector}
use Rattle.dirac_decide.specs.Given.{deciding_of, view_of}
use Rattle.dirac_decide.specs.Insides.{IsBestAmong, IsBestWhereSome}
use Rattle.dirac_decide.specs.Units.{candidate, inside_to}
use Rattle.dirac_decide.specs.declared.best.Best.{Best}
use Rattle.dirac_decide.proofs.Insides.{best_alone, unit_answer, where_more, where_same}
use Rattle.dirac_decide.proofs.inside.next_inside.Goals as goal

pub returns-then-not-has : goal.returns-then-not-has
returns-then-not-has c =
    let d = deciding_of c.args.inputs.now in
    let r = view_of c.args.view.now in
    let u = c.args.unit in
    let k = c.args.k in
    where_same d r u k c.args.best
    (unit_answer d u c.args.range c.candidate-vector.result (candidate r u k) false c.requires.of_the_unit c.candidate-vector.ensures.of_16_bits (sym c.if-not-has.true ∙ c.has.ensures) c.candidate-vector.ensures.value)
    c.requires.best

pub returns-in-Some : goal.returns-in-Some
returns-in-Some c =
    let d = deciding_of c.args.inputs.now in
    let r = view_of c.args.view.now in
    let u = c.args.unit in
    let k = c.args.k in
    let before : IsBestAmong d r u (inside_to d r u k) c.in-Some.best = subst (λ (o : Option Best). IsBestWhereSome d r u (inside_to d r u k) o) c.in-Some.is c.requires.best in
    where_more d r u k c.better.result
    (unit_answer d u c.args.range c.candidate-vector.result (candidate r u k) true c.requires.of_the_unit c.candidate-vector.ensures.of_16_bits (sym c.if-not-has.false ∙ c.has.ensures) c.candidate-vector.ensures.value)
    (subst (λ (v : Vector). IsBestAmong d r u (inside_to d r u k ++ v ∷ []) c.better.result) c.candidate-vector.ensures.value (c.better.ensures (inside_to d r u k) before))

pub returns-in-None : goal.returns-in-None
returns-in-None c =
    let d = deciding_of c.args.inputs.now in
    let r = view_of c.args.view.now in
    let u = c.args.unit in
    let k = c.args.k in
    let none : inside_to d r u k ≡ [] = subst (λ (o : Option Best). IsBestWhereSome d r u (inside_to d r u k) o) c.in-None.is c.requires.best in
    where_more d r u k c.costed.result
    (unit_answer d u c.args.range c.candidate-vector.result (candidate r u k) true c.requires.of_the_unit c.candidate-vector.ensures.of_16_bits (sym c.if-not-has.false ∙ c.has.ensures) c.candidate-vector.ensures.value)
    (subst (λ (v : Vector). IsBestAmong d r u (inside_to d r u k ++ v ∷ []) c.costed.result) (c.costed.ensures.vector ∙ c.candidate-vector.ensures.value)
    (best_alone d r u (inside_to d r u k) c.costed.result none c.costed.ensures.costed))
