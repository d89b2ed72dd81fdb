use Rattle.std.proofs.Common.{ap, ◌∙◌}
use Rattle.dirac_lift.specs.Level.{synthesised}
use Rattle.dirac_synthesis.proofs.LevelBounds.{one_plane}
use Rattle.dirac_synthesis.proofs.levels.level_of_narrow.Goals as goal

pub returns-then-have_one_index : goal.returns-then-have_one_index
returns-then-have_one_index c =
    let kind = c.args.by.kind in
    let one = c.if-have_one_index.true in
    c.of_narrow.ensures ∙ c.in_ok-next.ensures
    ∙ ap (synthesised c.args.by.wavelet) (one_plane c.args.by c.args.low.now c.args.bands (c.have_one_index.ensures.hl one kind) (c.have_one_index.ensures.lh one kind) (c.have_one_index.ensures.hh one kind))
