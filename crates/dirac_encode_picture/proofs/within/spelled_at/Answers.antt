use Rattle.std.proofs.Common.{◌<◌, ◌^◌, ℕ, [], List, ap, ◌∙◌, subst}
use Rattle.std.specs.List.{AllByRecursion}
use Rattle.dirac_common.specs.Bytes.{bytes_of}
use Rattle.dirac_bits.specs.Writing.{up_to_byte}
use Rattle.dirac_bits.proofs.Packed.{packed}
use Rattle.dirac_sequence_header.specs.declared.sequence.Sequence.{Sequence}
use Rattle.dirac_picture.specs.Written.{payload_by, with_coded}
use Rattle.dirac_picture.specs.declared.coded.CodedPicture.{CodedPicture}
use Rattle.dirac_encode_laws.specs.Payloads.{with_coded_picture}
use Rattle.dirac_encode_laws.specs.Coded.{motion_among}
use Rattle.dirac_encode_laws.proofs.Reading.{predicting}
use Rattle.dirac_encode_picture.specs.Prepared.{blocks_in}
use Rattle.dirac_encode_picture.proofs.Facts.{coded_fits, moves_of}
use Rattle.dirac_encode_picture.proofs.within.spelled_at.Goals as goal

pub payload_bytes-requires-clause-index : goal.payload_bytes-requires-clause-index
payload_bytes-requires-clause-index c = let is = predicting c.args.asked.now.settings.now c.requires.asked.accepted in (is.some_blocks, is.most_blocks)

pub payload_bytes-requires-clause-precision : goal.payload_bytes-requires-clause-precision
payload_bytes-requires-clause-precision c = (predicting c.args.asked.now.settings.now c.requires.asked.accepted).precision

pub texts_of-requires-clause-written : goal.texts_of-requires-clause-written
texts_of-requires-clause-written c =
    let t = c.args.asked.now.settings.now in
    let q = c.args.asked.now.planned.now in
    let o = blocks_in c.args.prepared.now in
    (coded_fits t c.sequence_of-sequence.result c.args.asked.now.refs.now q c.args.asked.now.source.now (motion_among t o) c.in_ok-coded.coded c.requires.asked (moves_of t q o c.requires.blocks) c.sequence_of-sequence.ensures.value c.in_ok-coded.ensures).1

pub payload_bytes-requires-clause-written : goal.payload_bytes-requires-clause-written
payload_bytes-requires-clause-written c =
    let t = c.args.asked.now.settings.now in
    let q = c.args.asked.now.planned.now in
    let o = blocks_in c.args.prepared.now in
    (coded_fits t c.sequence_of-sequence.result c.args.asked.now.refs.now q c.args.asked.now.source.now (motion_among t o) c.in_ok-coded.coded c.requires.asked (moves_of t q o c.requires.blocks) c.sequence_of-sequence.ensures.value c.in_ok-coded.ensures).1

pub returns-clause-payload : goal.returns-clause-payload
unfolding payload_by
returns-clause-payload c =
    let t = c.args.asked.now.settings.now in
    let coded = c.in_ok-coded.coded in
    packed (up_to_byte (with_coded_picture t coded [])) c.in_ok-payload.payload.items
    (subst (λ (l : List ℕ). AllByRecursion (λ b. b < 2 ^ 8) l) c.as_slice.ensures.value c.are_bytes.ensures)
    (c.in_ok-payload.ensures.value ∙ ap (λ (s : Sequence). up_to_byte (with_coded s t.blocks t.precision coded [])) c.sequence_of-sequence.ensures.value)
    ∙ ap (λ (x : CodedPicture). bytes_of (up_to_byte (with_coded_picture t x []))) c.in_ok-coded.ensures
