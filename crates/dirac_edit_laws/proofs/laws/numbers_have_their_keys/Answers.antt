use Rattle.dirac_edit_laws.proofs.Numbers.{numbers_have_keys}
use Rattle.dirac_edit_laws.proofs.laws.numbers_have_their_keys.Goals as goal

pub returns : goal.returns
returns c = numbers_have_keys
