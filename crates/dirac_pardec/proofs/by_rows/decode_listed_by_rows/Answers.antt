use Rattle.dirac_decode_picture.proofs.Naming.{references_fit}
use Rattle.dirac_pardec.proofs.by_rows.decode_listed_by_rows.Goals as goal

pub rebuild_by_rows-requires-clause-refs : goal.rebuild_by_rows-requires-clause-refs
rebuild_by_rows-requires-clause-refs g c = λ lives bound. references_fit c.args.asked.sequence.now c.args.refs.now c.in_ok-coded.coded.header c.in_ok-coded.ensures.listed c.requires.listed
