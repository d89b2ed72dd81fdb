use Rattle.dirac_editing_laws.proofs.Following.{streams_behind}
use Rattle.dirac_editing_laws.proofs.laws.streams_follow.Goals as goal

pub returns : goal.returns
returns c = streams_behind
