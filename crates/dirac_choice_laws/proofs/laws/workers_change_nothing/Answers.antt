use Rattle.dirac_choice_laws.proofs.Workers.{blocks_same, encoding_same}
use Rattle.dirac_choice_laws.proofs.laws.workers_change_nothing.Goals as goal

pub returns : goal.returns
returns c = record { blocks = blocks_same; encoding = encoding_same }
