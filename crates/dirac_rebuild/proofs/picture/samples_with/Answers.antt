use Rattle.std.proofs.Common.{ap, sym, ◌∙◌}
use Rattle.dirac_common.specs.declared.formats.Kind.TheVariants.{Inter}
use Rattle.dirac_obmc.specs.Compensation.{Compensation}
use Rattle.dirac_obmc.specs.Given.{compensation_of}
use Rattle.dirac_rebuild.proofs.MotionRows.{predicted_size}
use Rattle.dirac_rebuild.proofs.Residuals.{residual_size}
use Rattle.dirac_rebuild.proofs.picture.samples_with.Goals as goal

pub clipped_sum_by_rows-requires-clause-size : goal.clipped_sum_by_rows-requires-clause-size
clipped_sum_by_rows-requires-clause-size c =
    let size = residual_size c.args.moved.now.sequence.now Inter c.args.component c.args.residual.now c.in_ok-residual.residual c.in_ok-residual.ensures in
    let told = c.plane_motion-motion.ensures.value in
    predicted_size (compensation_of c.plane_motion-motion.result) c.in_ok-residual.residual.width c.in_ok-residual.residual.height
    (ap (λ (m : Compensation). m.width) told ∙ sym size.0) (ap (λ (m : Compensation). m.height) told ∙ sym size.1)
