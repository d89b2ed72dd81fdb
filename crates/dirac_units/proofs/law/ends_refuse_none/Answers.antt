use Rattle.dirac_units.proofs.Ends.{refused_is_no_end}
use Rattle.dirac_units.proofs.law.ends_refuse_none.Goals as goal

pub returns : goal.returns
returns c = refused_is_no_end
