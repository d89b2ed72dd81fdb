use Rattle.std.proofs.Common.{ap, sym, ◌∙◌, length}
use Rattle.dirac_content.specs.Raw.{raws}
use Rattle.dirac_encode_laws.specs.Encoding.{encoding}
use Rattle.dirac_generator.specs.Generated.{exact_from}
use Rattle.dirac_encode_commands.proofs.Delivered.{made_shown}
use Rattle.dirac_encode_commands.proofs.Making.{came_out, never_partial, same_line, whole_raw}
use Rattle.dirac_encode_commands.proofs.made.line_of_made.Goals as goal

pub returns-in-Done-clause-line : goal.returns-in-Done-clause-line
returns-in-Done-clause-line g c =
    let t = c.args.settings.now in
    let count = c.args.count in
    let out = c.in-Done.ensures.encoded.1 in
    c.in_ok-line_of-in-Done.ensures
    ∙ same_line count _ _ _ _ _ _
    (ap length (c.as_slice-in-Done.ensures ∙ came_out t count (λ e. e.stream) _ _ _ c.in_ok-source.ensures c.new-stream.ensures out.0))
    (whole_raw t count _ c.picture_length.ensures.value)
    (c.in_ok-exact-in-Done.ensures.value
    ∙ ap (exact_from t count 0) (c.as_slice.ensures ∙ came_out t count (λ e. raws e.shown) _ _ _ c.in_ok-source.ensures c.new-shown.ensures out.1))

pub unreachable-requires : goal.unreachable-requires
unreachable-requires g c =
    let t = c.args.settings.now in
    never_partial t c.args.count c.in-PartialPicture.field-0 c.requires.accepted
    (sym (c.in-PartialPicture.ensures.encoded.0 ∙ ap (λ h. (encoding t h).answer) c.in_ok-source.ensures))

pub returns-in-Done-clause-shows : goal.returns-in-Done-clause-shows
returns-in-Done-clause-shows g c =
    made_shown c.plans_can_be_coded.ensures c.args.settings.now c.args.count _ c.requires.accepted c.in_ok-source.ensures
    c.in-Done.ensures.encoded.0 c.in-Done.ensures.recovered
