use Rattle.dirac_common.specs.Table.{table_at}
use Rattle.dirac_synthesis.specs.Residual.{after_levels}
use Rattle.dirac_synthesis.proofs.ZeroBands.{length-filled}
use Rattle.dirac_synthesis.proofs.unfinished.unfinished_residual.Goals as goal

pub invariant_of-result : goal.invariant_of-result
invariant_of-result c = record {
  rows = c.in_ok-part.ensures.rows;
  across = rw c.in_ok-part.ensures.value c.requires.across;
  down = rw c.in_ok-part.ensures.value c.requires.down;
  whole =
      rw c.in_ok-part.ensures.value
      (length-filled c.args.width c.args.height (table_at (after_levels c.args.transform.now c.args.kind c.args.bands.now c.args.transform.now.depth)));
  bound = c.in_ok-part.ensures.bound;
}
