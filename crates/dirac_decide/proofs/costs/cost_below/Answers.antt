use Rattle.std.proofs.Common.{◌≡◌, ℕ, ◌+◌, length, arith, ◌∙◌}
use Rattle.dirac_costs.specs.Sums.{sum_below}
use Rattle.dirac_costs.specs.Windows.{apart, sample_at}
use Rattle.dirac_costs.proofs.Sums.{sum_more}
use Rattle.dirac_decide.specs.Predictors.{predictor_samples}
use Rattle.dirac_decide.proofs.Distances.{row_apart}
use Rattle.dirac_decide.proofs.Told.{told_early}
use Rattle.dirac_decide.proofs.costs.cost_below.Goals as goal

pub returns-then-cost-limit-clause-told : goal.returns-then-cost-limit-clause-told
returns-then-cost-limit-clause-told c =
    told_early c.args.limit c.args.bits c.loop-b.cost _ c.loop-b.b c.args.window.rows c.loop-b.invariant.cost (omega arith) (omega arith)

pub loop-b-preserved : goal.loop-b-preserved
loop-b-preserved c =
    let w = c.args.window in
    let b = c.loop-b.b in
    let f : ℕ → ℕ → ℕ = λ x y. apart (sample_at c.args.source.now) (predictor_samples c.args.precision c.args.predictor.now) x y in
    let rows : ℕ → ℕ = λ i. sum_below (λ a. f (w.x + a) (w.y + i)) w.columns in
    let len : length c.predicted_row.new.out ≡ w.columns = omega (arith, c.predicted_row.auto.out, c.loop-b.invariant.len) in
    let here : c.from-cost.result ≡ rows b =
    c.from-cost.ensures ∙ c.row_differences.ensures.value
    ∙ row_apart c.args.source.now (predictor_samples c.args.precision c.args.predictor.now) w.x (w.y + b) w.columns c.predicted_row.new.out len
    (λ k l. c.predicted_row.ensures.value k (omega (arith, l, c.loop-b.invariant.len))) in
    record {
      len = len;
      at_most = omega (arith, c.row_differences.ensures.at_most_65535_each, len, here, c.from-cost.ensures, c.requires.window.columns.1, c.loop-b.invariant.at_most);
      cost = omega (arith, sum_more rows b, here, c.loop-b.invariant.cost);
    }
