use Rattle.std.proofs.Common.{pos, arith}
use Rattle.std.proofs.lemmas.List.{ext_get_or}
use Rattle.dirac_encode.proofs.same.are_same_samples.Goals as goal

pub returns : goal.returns
returns c = λ e. ext_get_or (pos 0) c.args.ours.now c.args.theirs.now (omega arith) (c.agree.ensures e)
