use Rattle.std.proofs.Common.{Option, Some, ap, sym, subst, ◌∙◌}
use Rattle.std.specs.Option.{ForSome, option_copied}
use Rattle.dirac_common.specs.declared.picture.Picture.{Picture}
use Rattle.dirac_sequence.specs.Written.{sequence_of}
use Rattle.dirac_content.specs.Content.{IsPicture}
use Rattle.dirac_motion.specs.Lent.{first_of, second_of}
use Rattle.dirac_motion.proofs.Asked.{has_luma, have_luma}
use Rattle.dirac_motion.proofs.Fitting.{chosen_found}
use Rattle.dirac_motion.proofs.choose.choose_for.Goals as goal

pub by_workers-requires-clause-first : goal.by_workers-requires-clause-first
by_workers-requires-clause-first g c κs within =
    has_luma c.args.settings.now c.in-Some.first.now c.requires.asked.accepted
    (c.requires.asked.references.first c.in-Some.first.now (sym c.named_reference.ensures ∙ ap option_copied c.in-Some.is))

pub by_workers-requires-clause-second : goal.by_workers-requires-clause-second
by_workers-requires-clause-second g c κs within =
    have_luma c.args.settings.now (option_copied c.named_reference-second.result) c.requires.asked.accepted
    (subst (λ (o : Option Picture). ForSome o (IsPicture (sequence_of c.args.settings.now))) (sym c.named_reference-second.ensures) c.requires.asked.references.second)

pub choose_from-requires-clause-references : goal.choose_from-requires-clause-references
choose_from-requires-clause-references g c κs within =
    c.lend-references.ensures.lent (sequence_of c.args.settings.now)
    (c.requires.asked.references.first c.in-Some.first.now (sym c.named_reference.ensures ∙ ap option_copied c.in-Some.is))
    (subst (λ (o : Option Picture). ForSome o (IsPicture (sequence_of c.args.settings.now))) (sym c.named_reference-second.ensures) c.requires.asked.references.second)

pub returns : goal.returns
returns g c =
    let r = c.lend-references.result in
    chosen_found c.args.settings.now c.args.refs.now c.args.planned.now c.args.source.now (first_of r) (second_of r) c.choose_from.result
    (sym c.named_reference.ensures ∙ ap option_copied c.in-Some.is ∙ ap Some (sym c.lend-references.ensures.first)) (c.lend-references.ensures.second ∙ c.named_reference-second.ensures) c.choose_from.ensures
