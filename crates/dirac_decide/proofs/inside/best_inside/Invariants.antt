use Rattle.dirac_decide.specs.Given.{deciding_of, view_of}
use Rattle.dirac_decide.specs.Insides.{IsBestWhereSome}
use Rattle.dirac_decide.specs.Units.{inside_to}
use Rattle.dirac_decide.proofs.inside.best_inside.Given as goal

abbrev pub invariant-loop-k : goal.invariant-loop-k
invariant-loop-k l =
    IsBestWhereSome (deciding_of l.inputs) (view_of l.view) l.unit (inside_to (deciding_of l.inputs) (view_of l.view) l.unit l.k) l.best
