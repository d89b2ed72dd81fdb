use Rattle.dirac_picture.proofs.Lawful.{header_lawful}
use Rattle.dirac_picture.proofs.picture.read_fields.Goals as goal

pub read_body-requires-clause-header : goal.read_body-requires-clause-header
read_body-requires-clause-header g c =
    header_lawful c.args.reading.now.code c.args.r.now c.read_header.new.r c.in_ok-header.header c.in_ok-header.ensures.value
