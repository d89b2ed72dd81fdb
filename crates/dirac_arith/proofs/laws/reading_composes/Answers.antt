use Rattle.dirac_arith.proofs.Spellings.{reads_more}
use Rattle.dirac_arith.proofs.laws.reading_composes.Goals as goal

pub returns : goal.returns
returns c = reads_more
