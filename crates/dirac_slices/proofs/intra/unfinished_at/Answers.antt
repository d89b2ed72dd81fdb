use Rattle.std.proofs.Common.{ap, ◌∙◌}
use Rattle.dirac_common.specs.declared.formats.Kind.TheVariants.{Intra as OfIntra}
use Rattle.dirac_content.specs.Content.{residual_among}
use Rattle.dirac_synthesis.proofs.Maps.{ok_weaker}
use Rattle.dirac_slices.proofs.intra.unfinished_at.Goals as goal

pub unfinished_of-requires-clause-sequence : goal.unfinished_of-requires-clause-sequence
unfinished_of-requires-clause-sequence c = c.requires.intra.sequence

pub unfinished_of-requires-clause-fits : goal.unfinished_of-requires-clause-fits
unfinished_of-requires-clause-fits c = c.requires.intra.residual

pub returns : goal.returns
returns c =
    let i = c.args.intra.now in
    ok_weaker c.unfinished_of.result
    (λ t e. record { is = e ∙ ap (λ d. residual_among i.sequence.now OfIntra d i.residual.now) c.component_at.ensures }) c.unfinished_of.ensures
