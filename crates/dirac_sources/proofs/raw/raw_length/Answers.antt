use Rattle.std.proofs.Common.{◌+◌, ◌*◌, ap, ◌∙◌}
use Rattle.dirac_types.specs.Sizes.{picture_height}
use Rattle.dirac_sequence_header.specs.declared.sequence.Sequence.{Sequence}
use Rattle.dirac_picture.specs.Grammar.{chroma_height, chroma_width}
use Rattle.dirac_sequence.proofs.Accepted.{writable}
use Rattle.dirac_sources.proofs.Raws.{raw_sizes}
use Rattle.dirac_sources.proofs.raw.raw_length.Goals as goal

pub length_in-requires-clause-luma : goal.length_in-requires-clause-luma
length_in-requires-clause-luma c =
    (raw_sizes c.args.settings.now c.sequence_of-sequence.result (writable c.args.settings.now c.requires) c.sequence_of-sequence.ensures.value).0

pub length_in-requires-clause-chroma : goal.length_in-requires-clause-chroma
length_in-requires-clause-chroma c =
    (raw_sizes c.args.settings.now c.sequence_of-sequence.result (writable c.args.settings.now c.requires) c.sequence_of-sequence.ensures.value).1

pub returns : goal.returns
returns c =
    let t = c.args.settings.now in
    c.length_in.ensures
    ∙ ap (λ (s : Sequence). t.width * picture_height t + chroma_width s * chroma_height s + chroma_width s * chroma_height s) c.sequence_of-sequence.ensures.value
