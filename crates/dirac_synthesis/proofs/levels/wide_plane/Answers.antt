use Rattle.std.proofs.Common.{◌∙◌}
use Rattle.dirac_synthesis.proofs.LevelBounds.{one_plane}
use Rattle.dirac_synthesis.proofs.Maps.{ok_weaker}
use Rattle.dirac_synthesis.proofs.levels.wide_plane.Goals as goal

pub returns-then-have_one_index : goal.returns-then-have_one_index
returns-then-have_one_index c =
    let kind = c.args.by.kind in
    let one = c.if-have_one_index.true in
    ok_weaker c.join_restored.result
    (λ t e. e ∙ one_plane c.args.by c.args.low.now c.args.bands (c.have_one_index.ensures.hl one kind) (c.have_one_index.ensures.lh one kind) (c.have_one_index.ensures.hh one kind))
    c.join_restored.ensures
