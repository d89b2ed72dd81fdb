use Rattle.std.proofs.Common.{rules}
use Rattle.dirac_rows.proofs.Keeps.{looks}
use Rattle.dirac_rows.proofs.claims.RowClaims.keeps_each_once.Goals as goal

pub load-requires : goal.load-requires
load-requires c = (search rules, search rules, looks _ _ _ _)
