use Rattle.std.proofs.Common.{refl, ap, ◌∙◌, rules}
use Rattle.atomic_table.specs.Table.{Me}
use Rattle.dirac_rows.specs.Weights.{times}
use Rattle.dirac_rows.specs.Claims.{Seated}
use Rattle.dirac_rows.specs.declared.view.View.{View}
use Rattle.dirac_rows.proofs.Sums.{not_a_row}
use Rattle.dirac_rows.proofs.Keeps.{draws}
use Rattle.dirac_rows.proofs.claims.RowClaims.claim.Goals as goal

pub fetch_add-number-requires : goal.fetch_add-number-requires
fetch_add-number-requires c =
    (search rules, search rules, draws _ _ _ _ (search rules) (search rules) (search rules) (search rules))

pub returns-else-number-self-clause-none : goal.returns-else-number-self-clause-none
returns-else-number-self-clause-none c = (
  refl,
  λ r row. ap (λ (m : Me (Unit {0}) View). times r m.0.drawn) c.fetch_add-number.ensures.2.0 ∙ not_a_row c.args.self.now.rows c.fetch_add-number.result c.seat.inside.seat.me.0.drawn (search rules) r row ∙ ap (λ (s : Seated). times r s.kept) c.seat.view_is,
)
