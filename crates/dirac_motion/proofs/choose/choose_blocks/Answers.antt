use Rattle.std.proofs.Common.{◌≡◌, false, sym, ◌∙◌}
use Rattle.dirac_picture.specs.Grammar.{is_intra}
use Rattle.dirac_motion.proofs.Fitting.{fits_some, inter_has}
use Rattle.dirac_motion.proofs.Indices.{chosen_same}
use Rattle.dirac_motion.proofs.choose.choose_blocks.Goals as goal

pub returns-clause-fits : goal.returns-clause-fits
returns-clause-fits g c =
    let inter : is_intra c.args.planned.now.code ≡ false = sym c.is_intra.ensures ∙ c.if-is_intra.false in
    λ x e. fits_some c.args.settings.now c.args.refs.now c.args.planned.now c.args.source.now c.in_ok-blocks.blocks x c.requires inter c.in_ok-blocks.ensures e

pub returns-clause-without_index : goal.returns-clause-without_index
returns-clause-without_index g c =
    let inter : is_intra c.args.planned.now.code ≡ false = sym c.is_intra.ensures ∙ c.if-is_intra.false in
    λ index. inter_has _ c.args.refs.now c.args.planned.now c.args.source.now c.in_ok-blocks.blocks inter
    (c.in_ok-blocks.ensures ∙ sym (chosen_same c.args.settings.now index c.args.refs.now c.args.planned.now c.args.source.now))
