use Rattle.dirac_coeffs.proofs.Sited.{bands_are_read_at_sites}
use Rattle.dirac_coeffs.proofs.site_laws.a_band_is_read_where_its_block_is_found.Goals as goal

pub returns : goal.returns
returns c = bands_are_read_at_sites
