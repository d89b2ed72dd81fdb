use Rattle.dirac_arith.proofs.Tails.{roomy}
use Rattle.dirac_arith.proofs.tail.Tail.settle.Goals as goal

pub returns-clause-register : goal.returns-clause-register
returns-clause-register c = λ range most fits. roomy c.write.new.self.register c.write.new.self.pending range c.write.ensures.register most
