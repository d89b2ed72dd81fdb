use Rattle.std.proofs.Common.{◌≡◌, ◌+◌, ◌*◌, length, ap, sym, ◌∙◌, subst, arith}
use Rattle.dirac_types.specs.Sizes.{picture_height}
use Rattle.dirac_sequence_header.specs.declared.sequence.Sequence.{Sequence}
use Rattle.dirac_picture.specs.Grammar.{chroma_height, chroma_width}
use Rattle.dirac_synthesis.proofs.Maps.{ok_weaker}
use Rattle.dirac_sequence.proofs.Accepted.{writable}
use Rattle.dirac_sources.proofs.Raws.{raw_sizes, raw_source, ok_four}
use Rattle.dirac_content.specs.Raw.{raw}
use Rattle.dirac_sources.specs.Sources.{picture_in}
use Rattle.dirac_sources.proofs.RawBytes.{raw_again}
use Rattle.dirac_bits.proofs.Packed.{all_below}
use Rattle.dirac_sources.proofs.raw.picture_of.Goals as goal

pub planes_of-requires-clause-luma : goal.planes_of-requires-clause-luma
planes_of-requires-clause-luma c =
    (raw_sizes c.args.settings.now c.sequence_of-sequence.result (writable c.args.settings.now c.requires.accepted) c.sequence_of-sequence.ensures.value).0

pub planes_of-requires-clause-chroma : goal.planes_of-requires-clause-chroma
planes_of-requires-clause-chroma c =
    (raw_sizes c.args.settings.now c.sequence_of-sequence.result (writable c.args.settings.now c.requires.accepted) c.sequence_of-sequence.ensures.value).1

pub planes_of-requires-clause-bytes : goal.planes_of-requires-clause-bytes
planes_of-requires-clause-bytes c =
    let t = c.args.settings.now in
    subst (λ (s : Sequence). length c.args.bytes.now ≡ t.width * picture_height t + chroma_width s * chroma_height s + chroma_width s * chroma_height s) (sym c.sequence_of-sequence.ensures.value) c.requires.bytes

pub returns-clause-value : goal.returns-clause-value
returns-clause-value c =
    let t = c.args.settings.now in
    ok_weaker c.planes_of.result
    (λ p e. e ∙ ap (λ (s : Sequence). picture_in t.width (picture_height t) (chroma_width s) (chroma_height s) c.args.number c.args.bytes.now) c.sequence_of-sequence.ensures.value)
    c.planes_of.ensures.value

pub returns-clause-fits : goal.returns-clause-fits
returns-clause-fits c =
    let t = c.args.settings.now in
    ok_four c.planes_of.result
    (λ p e y u v.
    raw_source t c.args.number c.args.bytes.now p
    (e ∙ ap (λ (s : Sequence). picture_in t.width (picture_height t) (chroma_width s) (chroma_height s) c.args.number c.args.bytes.now) c.sequence_of-sequence.ensures.value) y u v)
    c.planes_of.ensures.value c.planes_of.ensures.y c.planes_of.ensures.u c.planes_of.ensures.v

pub returns-clause-raw : goal.returns-clause-raw
returns-clause-raw c =
    let t = c.args.settings.now in
    let s = c.sequence_of-sequence.result in
    let bytes = c.args.bytes.now in
    let below = all_below bytes (λ i. omega (arith, c.type_inv.bytes i)) in
    ok_weaker c.planes_of.result (λ p e. ap raw e ∙ raw_again t.width (picture_height t) (chroma_width s) (chroma_height s) c.args.number bytes below) c.planes_of.ensures.value
