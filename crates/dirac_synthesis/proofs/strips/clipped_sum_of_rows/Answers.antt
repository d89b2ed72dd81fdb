use Rattle.std.proofs.Common.{◌≡◌, ap, sym, ◌∙◌}
use Rattle.dirac_common.specs.Table.{Table}
use Rattle.dirac_synthesis.specs.Residual.{clipped, rows_between, with_prediction}
use Rattle.dirac_synthesis.specs.Unfinished.{part_table}
use Rattle.dirac_synthesis.specs.Zeros.{zeros}
use Rattle.dirac_synthesis.proofs.Maps.{ok_weaker}
use Rattle.dirac_synthesis.proofs.ZeroBands.{zeros_between}
use Rattle.dirac_synthesis.proofs.strips.clipped_sum_of_rows.Goals as goal

pub returns-in-Zeros : goal.returns-in-Zeros
returns-in-Zeros c =
    let a = c.args in
    let extent = c.in-Zeros.extent in
    let is : zeros extent.width extent.height ≡ a.residual.now = ap part_table (sym c.in-Zeros.is) ∙ c.part.ensures.value in
    ok_weaker c.clip_predicted.result
    (λ plane e. e ∙ ap (λ (t : Table). clipped (with_prediction t a.predicted.now)) (sym (zeros_between a.from a.to extent.width extent.height) ∙ ap (rows_between a.from a.to) is))
    c.clip_predicted.ensures
