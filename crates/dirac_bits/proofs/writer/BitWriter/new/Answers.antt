use Rattle.std.proofs.Common.{refl}
use Rattle.dirac_bits.specs.Writing.{bits_below}
use Rattle.dirac_bits.proofs.writer.BitWriter.new.Goals as goal

pub returns : goal.returns
unfolding bits_below
returns c = rw c.new.ensures.items refl
