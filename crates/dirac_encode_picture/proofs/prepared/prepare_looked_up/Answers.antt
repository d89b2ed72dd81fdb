use Rattle.std.proofs.Common.{ap, sym, ◌∙◌}
use Rattle.std.specs.Option.{option_copied}
use Rattle.dirac_motion.proofs.Asked.{has_luma, have_luma}
use Rattle.dirac_encode_picture.proofs.Lending.{first_is, moving_so, moving_some, second_is}
use Rattle.dirac_encode_picture.proofs.prepared.prepare_looked_up.Goals as goal

pub of-requires-clause-first : goal.of-requires-clause-first
of-requires-clause-first c =
    has_luma c.args.asked.now.settings.now c.in-Some.first.now c.requires.asked.accepted
    (first_is c.args.asked.now.settings.now c.args.asked.now.refs.now c.args.asked.now.planned.now c.args.asked.now.source.now c.in-Some.first.now c.requires.asked (sym c.named_reference.ensures ∙ ap option_copied c.in-Some.is))

pub of-requires-clause-second : goal.of-requires-clause-second
of-requires-clause-second c =
    have_luma c.args.asked.now.settings.now (option_copied c.named_reference-second.result) c.requires.asked.accepted
    (second_is c.args.asked.now.settings.now c.args.asked.now.refs.now c.args.asked.now.planned.now c.args.asked.now.source.now (option_copied c.named_reference-second.result) c.requires.asked c.named_reference-second.ensures)

pub prepare_by-requires-clause-moving : goal.prepare_by-requires-clause-moving
prepare_by-requires-clause-moving c m e =
    moving_some c.args.asked.now.settings.now c.args.asked.now.refs.now c.args.asked.now.planned.now _ m
    (moving_so c.args.asked.now.settings.now c.args.asked.now.refs.now c.args.asked.now.planned.now c.args.asked.now.source.now c.in-Some.first.now (option_copied c.named_reference-second.result) c.lend-references.result c.requires.asked
    (sym c.named_reference.ensures ∙ ap option_copied c.in-Some.is) c.named_reference-second.ensures c.lend-references.ensures.first c.lend-references.ensures.second c.lend-references.ensures.lent)
    e

pub prepare_by-requires-clause-blocks : goal.prepare_by-requires-clause-blocks
prepare_by-requires-clause-blocks c = (c.requires.inter, c.requires.blocks)
