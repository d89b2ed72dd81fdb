use Rattle.std.proofs.Common.{◌∙◌, sym}
use Rattle.dirac_synthesis.proofs.Maps.{ok_weaker}
use Rattle.dirac_synthesis.proofs.ZeroBands.{zeros_between}
use Rattle.dirac_synthesis.proofs.unfinished.rows_of_part.Goals as goal

pub returns-in-Zeros : goal.returns-in-Zeros
returns-in-Zeros c =
    let extent = c.in-Zeros.extent in
    rw c.in-Zeros.is
    (ok_weaker c.try_zeros.result (λ t e. e ∙ sym (zeros_between c.args.from c.args.to extent.width extent.height)) c.try_zeros.ensures)
