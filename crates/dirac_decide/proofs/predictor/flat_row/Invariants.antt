use Rattle.dirac_decide.specs.Predictors.{RowIs}
use Rattle.dirac_decide.proofs.predictor.flat_row.Given as goal

abbrev pub invariant-loop-k : goal.invariant-loop-k
invariant-loop-k l = RowIs (λ k. l.value) l.k l.out
