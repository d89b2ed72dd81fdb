use Rattle.std.proofs.Common.{◌≡◌, true, false, sym, ◌∙◌}
use Rattle.dirac_picture.specs.Grammar.{is_intra}
use Rattle.dirac_encode_picture.proofs.Choices.{choices_same, inter_choice, intra_choice}
use Rattle.dirac_encode_picture.proofs.choosing.prepare_picture.Goals as goal

pub returns-then-is_intra-clause-blocks : goal.returns-then-is_intra-clause-blocks
returns-then-is_intra-clause-blocks g c =
    let intra : is_intra c.args.asked.now.planned.now.code ≡ true = sym c.is_intra.ensures ∙ c.if-is_intra.true in
    intra_choice c.args.asked.now.settings.now c.args.asked.now.refs.now c.args.asked.now.planned.now c.args.asked.now.source.now _ intra c.in_ok-prepared.ensures.blocks

pub returns-then-is_intra-clause-without_index : goal.returns-then-is_intra-clause-without_index
returns-then-is_intra-clause-without_index g c =
    choices_same c.args.asked.now.settings.now c.args.asked.now.refs.now c.args.asked.now.planned.now
    c.args.asked.now.source.now _ (returns-then-is_intra-clause-blocks g c)

pub returns-clause-blocks : goal.returns-clause-blocks
returns-clause-blocks g c =
    let inter : is_intra c.args.asked.now.planned.now.code ≡ false = sym c.is_intra.ensures ∙ c.if-is_intra.false in
    inter_choice c.args.asked.now.settings.now c.args.asked.now.refs.now c.args.asked.now.planned.now c.args.asked.now.source.now _ inter c.in_ok-prepared-2.ensures.blocks

pub returns-clause-without_index : goal.returns-clause-without_index
returns-clause-without_index g c =
    choices_same c.args.asked.now.settings.now c.args.asked.now.refs.now c.args.asked.now.planned.now
    c.args.asked.now.source.now _ (returns-clause-blocks g c)
