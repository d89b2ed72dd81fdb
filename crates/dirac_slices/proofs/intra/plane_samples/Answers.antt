use Rattle.std.proofs.Common.{ap, arith, ◌∙◌}
use Rattle.dirac_common.specs.declared.formats.Kind.TheVariants.{Intra as OfIntra}
use Rattle.dirac_content.specs.Content.{residual_among}
use Rattle.dirac_picture.proofs.Chroma.{part_size}
use Rattle.dirac_synthesis.proofs.Maps.{ok_weaker}
use Rattle.dirac_synthesis.specs.Residual.{clipped}
use Rattle.dirac_rebuild.proofs.Residuals.{residual_size}
use Rattle.dirac_slices.proofs.intra.plane_samples.Goals as goal

pub residual_of-requires-clause-sequence : goal.residual_of-requires-clause-sequence
residual_of-requires-clause-sequence c = c.requires.intra.sequence

pub residual_of-requires-clause-fits : goal.residual_of-requires-clause-fits
residual_of-requires-clause-fits c = c.requires.intra.residual

pub clipped-requires-clause-across : goal.clipped-requires-clause-across
clipped-requires-clause-across c =
    let i = c.args.intra.now in
    let d = c.component_at-component.result in
    let size = residual_size i.sequence.now OfIntra d i.residual.now c.in_ok-residual.residual c.in_ok-residual.ensures.value in
    omega (arith, size.0, (part_size i.sequence.now d c.requires.intra.sequence).across.1)

pub clipped-requires-clause-down : goal.clipped-requires-clause-down
clipped-requires-clause-down c =
    let i = c.args.intra.now in
    let d = c.component_at-component.result in
    let size = residual_size i.sequence.now OfIntra d i.residual.now c.in_ok-residual.residual c.in_ok-residual.ensures.value in
    omega (arith, size.1, (part_size i.sequence.now d c.requires.intra.sequence).down.1)

pub returns : goal.returns
returns c =
    let i = c.args.intra.now in
    ok_weaker c.clipped.result
    (λ out e. e ∙ ap clipped (c.in_ok-residual.ensures.value ∙ ap (λ d. residual_among i.sequence.now OfIntra d i.residual.now) c.component_at-component.ensures)) c.clipped.ensures
