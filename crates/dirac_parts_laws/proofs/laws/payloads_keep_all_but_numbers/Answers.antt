use Rattle.dirac_parts_laws.proofs.Payloads.{payloads_keep}
use Rattle.dirac_parts_laws.proofs.laws.payloads_keep_all_but_numbers.Goals as goal

pub returns : goal.returns
returns c = payloads_keep
