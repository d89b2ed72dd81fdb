use Rattle.std.proofs.Common.{◌+◌, ◌*◌, ap}
use Rattle.dirac_obmc.proofs.rows.listed_at.Goals as goal

pub returns : goal.returns
returns c = ap (λ n. c.args.block * c.args.blocks.length + n) c.saturating_sub-behind.ensures
