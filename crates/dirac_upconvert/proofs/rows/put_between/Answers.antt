use Rattle.std.proofs.Common.{length, arith}
use Rattle.dirac_upconvert.proofs.Lanes.{put_told}
use Rattle.dirac_upconvert.proofs.rows.put_between.Goals as goal

pub returns : goal.returns
returns c = put_told _ (length c.all_between_rows.new.out) (length c.args.lanes.now) _ _ _ _ c.put.ensures.put (omega (arith, c.all_between_rows.auto.out)) c.all_between_rows.ensures
