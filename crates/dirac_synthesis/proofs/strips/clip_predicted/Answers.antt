use Rattle.dirac_synthesis.proofs.ZeroBands.{predicted_alone}
use Rattle.dirac_synthesis.proofs.strips.clip_predicted.Goals as goal

pub returns : goal.returns
returns c =
    predicted_alone c.args.extent.width c.args.extent.height c.in_ok-plane.plane c.args.predicted.now c.clip_narrow_values.new.samples c.in_ok-plane.ensures
    c.clip_narrow_values.ensures c.requires.predicted
