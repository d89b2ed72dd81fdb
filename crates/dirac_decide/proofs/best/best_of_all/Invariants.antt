use Rattle.dirac_decide.specs.Choosing.{IsBestTo}
use Rattle.dirac_decide.specs.Given.{deciding_of, view_of}
use Rattle.dirac_decide.proofs.best.best_of_all.Given as goal

abbrev pub invariant-loop-k : goal.invariant-loop-k
invariant-loop-k l =
    IsBestTo (deciding_of l.inputs) (view_of l.view) l.unit l.k l.best
