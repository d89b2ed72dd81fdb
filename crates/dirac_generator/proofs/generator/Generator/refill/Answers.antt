use Rattle.std.proofs.Common.{arith}
use Rattle.dirac_generator.proofs.Lengths.{count_fits}
use Rattle.dirac_generator.proofs.Reading.{still_some}
use Rattle.dirac_generator.proofs.generator.Generator.refill.Goals as goal

pub returns-then-self-gt0-clause-filled : goal.returns-then-self-gt0-clause-filled
returns-then-self-gt0-clause-filled c = λ none.
    let some = (count_fits c.self.inside.settings c.self.invariant.0).0 in
    absurd (still_some c.self.inside.bytes.len c.fill_picture.new.bytes c.self.inside.bytes.items (omega arith) (omega arith) none)
