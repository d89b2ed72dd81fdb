use Rattle.std.proofs.Common.{max, min, ap, ◌∙◌}
use Rattle.dirac_obmc.proofs.RunWeights.{run_parts}
use Rattle.dirac_obmc.proofs.rows.parts_of.Goals as goal

pub returns : goal.returns
returns c =
    run_parts c.args.blocks.length c.args.blocks.separation c.args.run.i c.args.run.count c.args.left c.args.right _ _ c.requires.overlap c.requires.left c.requires.right c.requires.ordered
    (c.min-single.ensures ∙ ap (λ a. min a c.args.right) c.saturating_sub.ensures) (c.max-last.ensures ∙ ap (λ a. max a c.min-single.result) c.min-reach.ensures)
