use Rattle.dirac_decode_picture.proofs.Naming.{references_fit}
use Rattle.dirac_pardec.proofs.by_rows.decode_reading_by_rows.Goals as goal

pub rebuild_picture-requires-clause-refs : goal.rebuild_picture-requires-clause-refs
rebuild_picture-requires-clause-refs g c = references_fit c.args.asked.sequence.now c.args.refs.now c.in_ok-coded.coded.header c.in_ok-coded.ensures.listed c.requires.listed
