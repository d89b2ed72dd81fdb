use Rattle.std.proofs.Common.{arith, refl}
use Rattle.dirac_lift.proofs.Lifted.{below_more, below_end}
use Rattle.dirac_lift.proofs.step.lift_by.Goals as goal

pub left-preserved : goal.left-preserved
left-preserved c =
    rw c.lift_pair.ensures (below_more _ _ _ c.left.n _ c.left.invariant c.requires.parity (omega arith) refl)

pub inside-preserved : goal.inside-preserved
inside-preserved c =
    rw c.lift_pair-in-inside.ensures (below_more _ _ _ c.inside.n _ c.inside.invariant c.requires.parity (omega arith) refl)

pub right-preserved : goal.right-preserved
right-preserved c =
    rw c.lift_pair-in-right.ensures (below_more _ _ _ c.right.n _ c.right.invariant c.requires.parity (omega arith) refl)

pub returns : goal.returns
returns c = below_end _ _ _ c.right.n c.right.invariant (omega arith) c.requires.parity c.requires.even
