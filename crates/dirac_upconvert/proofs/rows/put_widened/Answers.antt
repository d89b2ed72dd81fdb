use Rattle.std.proofs.Common.{length, arith}
use Rattle.dirac_upconvert.proofs.Lanes.{put_told}
use Rattle.dirac_upconvert.proofs.rows.put_widened.Goals as goal

pub returns : goal.returns
returns c = put_told _ (length c.copy_widened.new.out) (length c.args.lanes.now) _ _ _ _ c.put.ensures.put (omega (arith, c.copy_widened.auto.out)) c.copy_widened.ensures
