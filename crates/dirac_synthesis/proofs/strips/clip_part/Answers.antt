use Rattle.std.proofs.Common.{◌∙◌, sym}
use Rattle.dirac_synthesis.proofs.Maps.{ok_weaker}
use Rattle.dirac_synthesis.proofs.ZeroBands.{zeros_clipped}
use Rattle.dirac_synthesis.proofs.strips.clip_part.Goals as goal

pub returns-in-Nothing : goal.returns-in-Nothing
returns-in-Nothing c =
    let extent = c.in-Zeros.extent in
    rw (c.in-Zeros.is, c.in-Nothing.is)
    (ok_weaker c.try_new.result (λ t e. e ∙ sym (zeros_clipped extent.width extent.height)) c.try_new.ensures)
