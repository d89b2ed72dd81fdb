use Rattle.std.proofs.Common.{ap, sym, Some, ◌∙◌}
use Rattle.std.specs.Option.{option_copied}
use Rattle.dirac_motion.proofs.Asked.{has_luma, have_luma}
use Rattle.dirac_synthesis.proofs.Maps.{ok_weaker}
use Rattle.dirac_encode_picture.proofs.Choices.{can_choose}
use Rattle.dirac_encode_picture.proofs.Lending.{chosen_is, chosen_so, first_is, moving_so, moving_some, second_is}
use Rattle.dirac_encode_picture.proofs.choosing.prepare_searched.Goals as goal

pub by_workers-requires-clause-first : goal.by_workers-requires-clause-first
by_workers-requires-clause-first g c κs within =
    has_luma c.args.asked.now.settings.now c.in-Some.first.now c.requires.asked.accepted
    (first_is c.args.asked.now.settings.now c.args.asked.now.refs.now c.args.asked.now.planned.now c.args.asked.now.source.now c.in-Some.first.now c.requires.asked (sym c.named_reference.ensures ∙ ap option_copied c.in-Some.is))

pub by_workers-requires-clause-second : goal.by_workers-requires-clause-second
by_workers-requires-clause-second g c κs within =
    have_luma c.args.asked.now.settings.now (option_copied c.named_reference-second.result) c.requires.asked.accepted
    (second_is c.args.asked.now.settings.now c.args.asked.now.refs.now c.args.asked.now.planned.now c.args.asked.now.source.now (option_copied c.named_reference-second.result) c.requires.asked c.named_reference-second.ensures)

pub choose_from-requires-clause-source : goal.choose_from-requires-clause-source
choose_from-requires-clause-source g c κs within =
    (can_choose c.args.asked.now.settings.now c.args.asked.now.refs.now c.args.asked.now.planned.now c.args.asked.now.source.now c.requires.asked).source

pub choose_from-requires-clause-references : goal.choose_from-requires-clause-references
choose_from-requires-clause-references g c κs within =
    (moving_so c.args.asked.now.settings.now c.args.asked.now.refs.now c.args.asked.now.planned.now c.args.asked.now.source.now c.in-Some.first.now (option_copied c.named_reference-second.result) c.lend-references.result c.requires.asked
    (sym c.named_reference.ensures ∙ ap option_copied c.in-Some.is) c.named_reference-second.ensures c.lend-references.ensures.first c.lend-references.ensures.second c.lend-references.ensures.lent).1

pub prepare_by-requires-clause-moving : goal.prepare_by-requires-clause-moving
prepare_by-requires-clause-moving g c m e =
    moving_some c.args.asked.now.settings.now c.args.asked.now.refs.now c.args.asked.now.planned.now _ m
    (moving_so c.args.asked.now.settings.now c.args.asked.now.refs.now c.args.asked.now.planned.now c.args.asked.now.source.now c.in-Some.first.now (option_copied c.named_reference-second.result) c.lend-references.result c.requires.asked
    (sym c.named_reference.ensures ∙ ap option_copied c.in-Some.is) c.named_reference-second.ensures c.lend-references.ensures.first c.lend-references.ensures.second c.lend-references.ensures.lent)
    e

pub prepare_by-requires-clause-blocks : goal.prepare_by-requires-clause-blocks
prepare_by-requires-clause-blocks g c =
    let named = (moving_so c.args.asked.now.settings.now c.args.asked.now.refs.now c.args.asked.now.planned.now c.args.asked.now.source.now c.in-Some.first.now (option_copied c.named_reference-second.result) c.lend-references.result c.requires.asked
    (sym c.named_reference.ensures ∙ ap option_copied c.in-Some.is) c.named_reference-second.ensures c.lend-references.ensures.first c.lend-references.ensures.second c.lend-references.ensures.lent).0 in (
      c.requires.inter,
      chosen_is c.args.asked.now.settings.now c.args.asked.now.refs.now c.args.asked.now.planned.now c.args.asked.now.source.now c.in_ok-blocks-in-Some.blocks c.requires.asked c.requires.inter
          (chosen_so c.args.asked.now.settings.now c.args.asked.now.refs.now c.args.asked.now.planned.now c.args.asked.now.source.now c.lend-references.result c.in_ok-blocks-in-Some.blocks named c.in_ok-blocks-in-Some.ensures),
    )

pub returns-clause-blocks : goal.returns-clause-blocks
returns-clause-blocks g c =
    let named = (moving_so c.args.asked.now.settings.now c.args.asked.now.refs.now c.args.asked.now.planned.now c.args.asked.now.source.now c.in-Some.first.now (option_copied c.named_reference-second.result) c.lend-references.result c.requires.asked
    (sym c.named_reference.ensures ∙ ap option_copied c.in-Some.is) c.named_reference-second.ensures c.lend-references.ensures.first c.lend-references.ensures.second c.lend-references.ensures.lent).0 in
    let so = chosen_so c.args.asked.now.settings.now c.args.asked.now.refs.now c.args.asked.now.planned.now c.args.asked.now.source.now c.lend-references.result c.in_ok-blocks-in-Some.blocks named c.in_ok-blocks-in-Some.ensures in
    ok_weaker c.prepare_by.result (λ x is. is ∙ ap Some so) c.prepare_by.ensures.blocks
