use Rattle.std.proofs.Common.{ℕ, ap, subst, sym, ◌∙◌}
use Rattle.dirac_search.specs.declared.stage.Stage.{Stage}
use Rattle.dirac_search.specs.Costs.{HasLevel, HasPrecision, StopsAt, window_cost}
use Rattle.dirac_search.specs.Given.{searched_of}
use Rattle.dirac_search.proofs.Differences.{cost_is, finer_cost}
use Rattle.dirac_search.proofs.Stopping.{dear}
use Rattle.dirac_search.proofs.window_costs.cost_below.Goals as goal

pub returns-then-bits-limit : goal.returns-then-bits-limit
returns-then-bits-limit c =
    let x = c.args.staged.now in
    dear _ _ _ _ (cost_is (searched_of x.search.now) x.settings.now.bias x.stage c.args.window c.args.v c.bits_cost-bits.result c.bits_cost-bits.ensures.value) c.if-bits-limit.true c.bits_cost-bits.ensures.at_most_66300

pub returns-in-Coarse : goal.returns-in-Coarse
returns-in-Coarse c =
    let x = c.args.staged.now in
    subst (λ (n : ℕ). StopsAt c.args.limit n c.whole_cost_below.result)
    (cost_is (searched_of x.search.now) x.settings.now.bias _ c.args.window c.args.v c.bits_cost-bits.result c.bits_cost-bits.ensures.value
    ∙ ap (λ (st : Stage). window_cost (searched_of x.search.now) x.settings.now.bias st c.args.window c.args.v) (sym c.in-Coarse.is))
    c.whole_cost_below.ensures

pub returns-in-Finer : goal.returns-in-Finer
returns-in-Finer c =
    let x = c.args.staged.now in
    subst (λ (n : ℕ). StopsAt c.args.limit n c.whole_cost_below-in-Finer.result)
    (cost_is (searched_of x.search.now) x.settings.now.bias _ c.args.window c.args.v c.bits_cost-bits.result c.bits_cost-bits.ensures.value
    ∙ finer_cost (searched_of x.search.now) x.settings.now.bias c.in-Finer.level c.args.window c.args.v
    ∙ ap (λ (st : Stage). window_cost (searched_of x.search.now) x.settings.now.bias st c.args.window c.args.v) (sym c.in-Finer.is))
    c.whole_cost_below-in-Finer.ensures

pub returns-in-Sub : goal.returns-in-Sub
returns-in-Sub c =
    let x = c.args.staged.now in
    subst (λ (n : ℕ). StopsAt c.args.limit n c.sub_cost_below.result)
    (cost_is (searched_of x.search.now) x.settings.now.bias _ c.args.window c.args.v c.bits_cost-bits.result c.bits_cost-bits.ensures.value
    ∙ ap (λ (st : Stage). window_cost (searched_of x.search.now) x.settings.now.bias st c.args.window c.args.v) (sym c.in-Sub.is))
    c.sub_cost_below.ensures

pub whole_cost_below-requires-clause-levels : goal.whole_cost_below-requires-clause-levels
whole_cost_below-requires-clause-levels c = subst (HasLevel (searched_of c.args.staged.now.search.now)) c.in-Coarse.is c.requires.compared.levels

pub whole_cost_below-requires-in-Finer-clause-levels : goal.whole_cost_below-requires-in-Finer-clause-levels
whole_cost_below-requires-in-Finer-clause-levels c = subst (HasLevel (searched_of c.args.staged.now.search.now)) c.in-Finer.is c.requires.compared.levels

pub sub_cost_below-requires-clause-levels : goal.sub_cost_below-requires-clause-levels
sub_cost_below-requires-clause-levels c = subst (HasLevel (searched_of c.args.staged.now.search.now)) c.in-Sub.is c.requires.compared.levels

pub sub_cost_below-requires-clause-precision : goal.sub_cost_below-requires-clause-precision
sub_cost_below-requires-clause-precision c = subst (λ (st : Stage). HasPrecision st) c.in-Sub.is c.requires.compared.precision
