use Rattle.dirac_bits.proofs.Given.{reads_spelled, spelled_reads}
use Rattle.dirac_header.specs.Header.{header}
use Rattle.dirac_header.proofs.header.read_header.Goals as goal

pub returns-clause-spelled : goal.returns-clause-spelled
returns-clause-spelled c =
    reads_spelled (header c.args.code) c.args.r.now c.read_fields.new.r c.read_fields.result c.place-at.ensures.inside c.read_fields.ensures.value

pub returns-clause-no_other_reading : goal.returns-clause-no_other_reading
returns-clause-no_other_reading c =
    spelled_reads (header c.args.code) c.args.r.now c.read_fields.new.r c.read_fields.result c.read_fields.ensures.value
