use Rattle.dirac_block_laws.proofs.Whole.{whole_is_carried}
use Rattle.dirac_block_laws.proofs.laws.read_tables_are_carried.Goals as goal

pub returns : goal.returns
returns c = record { carried = whole_is_carried c.read_lists_are_carried.ensures.units c.read_lists_are_carried.ensures.splits }
