use Rattle.dirac_synthesis.proofs.ByCodeblock.{each_has_one}
use Rattle.dirac_synthesis.proofs.laws.each_place_has_a_codeblock.Goals as goal

pub returns : goal.returns
returns c = record { codeblock = each_has_one }
