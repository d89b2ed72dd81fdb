use Rattle.dirac_bits.proofs.Fronts.{on_err, none_stand}
use Rattle.dirac_header.proofs.write.write_retirement.Goals as goal

pub returns-in_err-sint-clause-front : goal.returns-in_err-sint-clause-front
returns-in_err-sint-clause-front c = on_err _ (none_stand _ c.in_err-sint.ensures.err)
