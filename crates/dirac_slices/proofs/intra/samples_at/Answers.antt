use Rattle.std.proofs.Common.{ap, arith, ◌∙◌}
use Rattle.dirac_common.specs.declared.formats.Kind.TheVariants.{Intra as OfIntra}
use Rattle.dirac_picture.proofs.Chroma.{part_size}
use Rattle.dirac_synthesis.proofs.Maps.{ok_weaker}
use Rattle.dirac_synthesis.specs.Residual.{rows_between}
use Rattle.dirac_slices.specs.Places.{component_at}
use Rattle.dirac_rebuild.proofs.Residuals.{residual_size}
use Rattle.dirac_slices.proofs.Between.{intra_between, strip_size}
use Rattle.dirac_slices.proofs.intra.samples_at.Goals as goal

pub rows-requires-clause-inside : goal.rows-requires-clause-inside
rows-requires-clause-inside c =
    let a = c.args in
    let residual = c.index-residuals-plane.is ∙ (c.requires.residuals.1 a.plane c.index-residuals-plane.result c.requires.plane).is in
    omega (arith, c.requires.inside, (residual_size a.intra.now.sequence.now OfIntra (component_at a.plane) a.intra.now.residual.now c.index-residuals-plane.result residual).1)

pub clipped-requires-clause-across : goal.clipped-requires-clause-across
clipped-requires-clause-across c =
    let a = c.args in
    let s = a.intra.now.sequence.now in
    let residual = c.index-residuals-plane.is ∙ (c.requires.residuals.1 a.plane c.index-residuals-plane.result c.requires.plane).is in
    let rows = c.in_ok-rows.ensures.value ∙ ap (rows_between a.from a.to) residual in
    let size = strip_size s OfIntra (component_at a.plane) a.intra.now.residual.now a.from a.to c.in_ok-rows.rows rows in
    omega (arith, size.0, (part_size s (component_at a.plane) c.requires.intra.sequence).across.1)

pub clipped-requires-clause-down : goal.clipped-requires-clause-down
clipped-requires-clause-down c =
    let a = c.args in
    let s = a.intra.now.sequence.now in
    let residual = c.index-residuals-plane.is ∙ (c.requires.residuals.1 a.plane c.index-residuals-plane.result c.requires.plane).is in
    let rows = c.in_ok-rows.ensures.value ∙ ap (rows_between a.from a.to) residual in
    let size = strip_size s OfIntra (component_at a.plane) a.intra.now.residual.now a.from a.to c.in_ok-rows.rows rows in
    omega (arith, size.1, c.requires.inside, (part_size s (component_at a.plane) c.requires.intra.sequence).down.1)

pub returns : goal.returns
returns c =
    let a = c.args in
    let residual = c.index-residuals-plane.is ∙ (c.requires.residuals.1 a.plane c.index-residuals-plane.result c.requires.plane).is in
    let rows = c.in_ok-rows.ensures.value ∙ ap (rows_between a.from a.to) residual in
    ok_weaker c.clipped.result (λ out e. intra_between a.intra.now (component_at a.plane) c.in_ok-rows.rows out a.from a.to c.requires.intra.sequence c.requires.some c.requires.inside rows e) c.clipped.ensures
