use Rattle.dirac_coeffs.proofs.Read.{one_band, no_band_beside_long, no_band_beside_no_index, not_long_and_no_index, ones_carry_nothing}
use Rattle.dirac_coeffs.proofs.laws.one_band_is_carried.Goals as goal

pub returns-clause-one_band_is_carried : goal.returns-clause-one_band_is_carried
returns-clause-one_band_is_carried c = one_band

pub returns-clause-no_band_beside_long_number : goal.returns-clause-no_band_beside_long_number
returns-clause-no_band_beside_long_number c = no_band_beside_long

pub returns-clause-no_band_beside_no_index : goal.returns-clause-no_band_beside_no_index
returns-clause-no_band_beside_no_index c = no_band_beside_no_index

pub returns-clause-not_both : goal.returns-clause-not_both
returns-clause-not_both c = not_long_and_no_index

pub returns-clause-ones_carry_nothing : goal.returns-clause-ones_carry_nothing
returns-clause-ones_carry_nothing c = ones_carry_nothing
