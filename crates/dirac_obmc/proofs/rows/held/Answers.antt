use Rattle.std.proofs.Common.{refl, ◌∙◌}
use Rattle.dirac_obmc.proofs.Spans.{span_is}
use Rattle.dirac_obmc.proofs.rows.held.Goals as goal

pub returns : goal.returns
returns c =
    span_is c.args.block c.args.blocks.count c.args.blocks.length c.args.blocks.separation c.args.least c.args.most _ _ _ c.requires.overlap c.requires.block
    (c.max-start.ensures ∙ rw c.saturating_sub.ensures refl) c.min-end.ensures refl
