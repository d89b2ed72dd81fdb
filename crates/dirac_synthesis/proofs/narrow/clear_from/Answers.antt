use Rattle.std.proofs.Common.{ℤ, pos, [], arith, refl}
use Rattle.dirac_synthesis.proofs.BesideRows.{one_more_from, before_stays}
use Rattle.dirac_synthesis.proofs.narrow.clear_from.Goals as goal

pub loop-n-preserved : goal.loop-n-preserved
loop-n-preserved c = record {
  written = one_more_from (λ (v : ℤ). pos 0) [] c.loop-n.line c.args.from c.loop-n.n (pos 0) c.loop-n.invariant.written (omega arith) refl;
  before = before_stays c.loop-n.line _ c.args.from c.loop-n.n (pos 0) c.loop-n.invariant.before;
}
