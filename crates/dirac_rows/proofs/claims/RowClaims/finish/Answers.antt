use Rattle.std.proofs.Common.{sym, ap, ◌∙◌, rules}
use Rattle.dirac_rows.specs.Weights.{times}
use Rattle.dirac_rows.specs.Claims.{Seated}
use Rattle.dirac_rows.proofs.Keeps.{ends}
use Rattle.dirac_rows.proofs.claims.RowClaims.finish.Goals as goal

pub returns-clause-each_row_once : goal.returns-clause-each_row_once
returns-clause-each_row_once c = λ r row.
    ap (λ (s : Seated). times r s.kept) (sym c.seat.view_is) ∙ ends _ _ _ _ _ (search rules) (search rules) (search rules) c.close_with.ensures.values.2 r (search rules)
