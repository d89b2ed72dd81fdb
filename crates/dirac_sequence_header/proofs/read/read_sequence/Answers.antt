use Rattle.dirac_bits.proofs.Given.{reads_given, given_spelled, spelled_given}
use Rattle.dirac_sequence_header.specs.Grammar.{sequence}
use Rattle.dirac_sequence_header.proofs.read.read_sequence.Goals as goal

pub returns-clause-spelled : goal.returns-clause-spelled
returns-clause-spelled c =
    given_spelled sequence c.args.payload.now c.read_header.result
    (reads_given c.read_header.result c.read_header.new.r _ (rw c.new-r.ensures at c.read_header.ensures.value))

pub returns-clause-no_other_reading : goal.returns-clause-no_other_reading
returns-clause-no_other_reading c =
    spelled_given sequence c.args.payload.now c.read_header.result
    (reads_given c.read_header.result c.read_header.new.r _ (rw c.new-r.ensures at c.read_header.ensures.value))
