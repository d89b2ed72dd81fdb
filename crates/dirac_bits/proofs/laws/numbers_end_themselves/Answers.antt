use Rattle.dirac_bits.proofs.Ends.{uint_ends, sint_ends}
use Rattle.dirac_bits.proofs.laws.numbers_end_themselves.Goals as goal

pub returns-clause-unsigned : goal.returns-clause-unsigned
returns-clause-unsigned c = uint_ends

pub returns-clause-signed : goal.returns-clause-signed
returns-clause-signed c = sint_ends
