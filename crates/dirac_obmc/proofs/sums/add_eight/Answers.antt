use Rattle.std.proofs.Common.{length, arith}
use Rattle.dirac_obmc.proofs.AddLemmas.{part_put}
use Rattle.dirac_obmc.proofs.sums.add_eight.Goals as goal

pub returns : goal.returns
returns c = part_put _ _ (length c.all_grown.new.out) 8 _ _ _ c.put_sums.ensures (omega (arith, c.all_grown.auto.out)) c.all_grown.ensures
