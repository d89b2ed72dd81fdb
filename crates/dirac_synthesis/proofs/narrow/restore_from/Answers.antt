use Rattle.std.proofs.Common.{arith, refl}
use Rattle.dirac_quant.specs.Quantiser.{scaled}
use Rattle.dirac_synthesis.proofs.BesideRows.{one_more_from, before_stays}
use Rattle.dirac_synthesis.proofs.narrow.restore_from.Goals as goal

pub loop-n-preserved : goal.loop-n-preserved
loop-n-preserved c = rw c.put_restored.ensures (record {
  written = one_more_from (λ v. scaled v c.args.scale.factor c.args.scale.offset) c.args.coded.now c.loop-n.line c.args.from c.loop-n.n _ c.loop-n.invariant.written (omega arith) refl;
  before = before_stays c.loop-n.line _ c.args.from c.loop-n.n _ c.loop-n.invariant.before;
})
