use Rattle.std.proofs.Common.{length, arith}
use Rattle.dirac_quant.specs.Quantiser.{reduced}
use Rattle.dirac_synthesis.proofs.Maps.{mapped_all}
use Rattle.dirac_analysis.proofs.coded.reduce_narrow_values.Goals as goal

pub returns : goal.returns
returns c = mapped_all (λ v. reduced v c.args.index) c.args.values.now c.loop-x.coded (length c.args.values.now) (omega arith) (λ k l. c.loop-x.invariant k (omega (arith, l))) (omega arith)
