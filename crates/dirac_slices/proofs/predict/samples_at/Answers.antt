use Rattle.std.proofs.Common.{◌≡◌, ℤ, ◌-◌, ◌*◌, List, length, ap, arith, sym, ◌∙◌}
use Rattle.dirac_common.specs.declared.formats.Kind.TheVariants.{Inter as OfInter}
use Rattle.dirac_obmc.specs.Compensation.{Compensation, predicted_rows}
use Rattle.dirac_obmc.specs.Directions.{columns_of}
use Rattle.dirac_synthesis.proofs.Maps.{ok_weaker}
use Rattle.dirac_synthesis.specs.Residual.{clipped, rows_between, with_prediction}
use Rattle.dirac_slices.specs.Given.{lent_inter, predicted_between}
use Rattle.dirac_slices.specs.Places.{component_at}
use Rattle.dirac_rebuild.proofs.Residuals.{residual_size}
use Rattle.dirac_slices.proofs.Between.{inter_between, predicted_length}
use Rattle.dirac_slices.proofs.predict.samples_at.Goals as goal

pub predict_rows_with-requires-clause-inside : goal.predict_rows_with-requires-clause-inside
predict_rows_with-requires-clause-inside c =
    omega (arith, c.requires.inside, ap (λ (m : Compensation). m.height) c.motion_at-motion.ensures.value)

pub predict_rows_with-requires-clause-motion : goal.predict_rows_with-requires-clause-motion
predict_rows_with-requires-clause-motion c = c.motion_at-motion.ensures.fits

pub predict_rows_with-requires-clause-weights : goal.predict_rows_with-requires-clause-weights
predict_rows_with-requires-clause-weights c =
    c.weights_at-columns.ensures ∙ ap columns_of (sym c.motion_at-motion.ensures.value)

pub clipped_sum_of_rows-requires-clause-inside : goal.clipped_sum_of_rows-requires-clause-inside
clipped_sum_of_rows-requires-clause-inside c =
    let g = lent_inter c.args.inter.now in
    let size = residual_size g.sequence OfInter (component_at c.args.plane) g.residual c.lent_residual-residual.result.now c.lent_residual-residual.ensures in
    omega (arith, c.requires.inside, size.1)

pub clipped_sum_of_rows-requires-clause-predicted : goal.clipped_sum_of_rows-requires-clause-predicted
clipped_sum_of_rows-requires-clause-predicted c =
    let a = c.args in
    let g = lent_inter a.inter.now in
    let d = component_at a.plane in
    let size = residual_size g.sequence OfInter d g.residual c.lent_residual-residual.result.now c.lent_residual-residual.ensures in
    let told : c.in_ok-predicted.predicted ≡ predicted_between g d a.from a.to =
    c.in_ok-predicted.ensures.value ∙ ap (λ (m : Compensation). predicted_rows m a.from a.to) c.motion_at-motion.ensures.value in
    ap length c.values.ensures.value ∙ predicted_length g d c.in_ok-predicted.predicted a.from a.to told ∙ ap (λ n. n * (a.to - a.from)) (sym size.0)

pub returns : goal.returns
returns c =
    let a = c.args in
    let g = lent_inter a.inter.now in
    let rows = rows_between a.from a.to c.lent_residual-residual.result.now in
    let told : c.in_ok-predicted.predicted ≡ predicted_between g (component_at a.plane) a.from a.to =
    c.in_ok-predicted.ensures.value ∙ ap (λ (m : Compensation). predicted_rows m a.from a.to) c.motion_at-motion.ensures.value in
    ok_weaker c.clipped_sum_of_rows.result
    (λ out e. inter_between g (component_at a.plane) rows c.in_ok-predicted.predicted out a.from a.to c.requires.inter.sequence c.requires.some c.requires.inside
    (ap (rows_between a.from a.to) c.lent_residual-residual.ensures) told (e ∙ ap (λ (ws : List ℤ). clipped (with_prediction rows ws)) c.values.ensures.value)) c.clipped_sum_of_rows.ensures
