use Rattle.dirac_coeffs.proofs.Read.{band_is_read, plain_is_equal, long_is_refused, no_index_is_refused, ones_are_refused}
use Rattle.dirac_coeffs.proofs.laws.a_block_reads_to_its_band.Goals as goal

pub returns-clause-carried : goal.returns-clause-carried
returns-clause-carried c = band_is_read

pub returns-clause-plain : goal.returns-clause-plain
returns-clause-plain c = plain_is_equal

pub returns-clause-long : goal.returns-clause-long
returns-clause-long c = long_is_refused

pub returns-clause-no_index : goal.returns-clause-no_index
returns-clause-no_index c = no_index_is_refused

pub returns-clause-ones : goal.returns-clause-ones
returns-clause-ones c = ones_are_refused
