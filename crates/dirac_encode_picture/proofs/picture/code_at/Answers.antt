use Rattle.std.proofs.Common.{◌≡◌, ◌<◌, ◌^◌, ℕ, [], List, ap, ◌∙◌, sym, subst}
use Rattle.std.specs.List.{AllByRecursion}
use Rattle.dirac_common.specs.Bytes.{bytes_of}
use Rattle.dirac_bits.specs.Writing.{up_to_byte}
use Rattle.dirac_bits.proofs.Packed.{packed}
use Rattle.dirac_sequence.specs.Written.{sequence_of}
use Rattle.dirac_content.specs.Content.{rebuilt}
use Rattle.dirac_sequence_header.specs.declared.sequence.Sequence.{Sequence}
use Rattle.dirac_picture.specs.Written.{payload_by, with_coded}
use Rattle.dirac_picture.specs.declared.coded.CodedPicture.{CodedPicture}
use Rattle.dirac_encode_laws.specs.Payloads.{payload_of, with_coded_picture}
use Rattle.dirac_encode_laws.specs.Coded.{motion_among}
use Rattle.dirac_encode_laws.proofs.Reading.{predicting}
use Rattle.dirac_encode_picture.specs.Asked.{coded_by}
use Rattle.dirac_encode_picture.specs.Prepared.{blocks_in}
use Rattle.dirac_encode_picture.proofs.Facts.{coded_fits, moves_of, payload_read, shown_again, shown_from, small_so}
use Rattle.dirac_encode_picture.proofs.Finishing.{can_finish}
use Rattle.dirac_encode_picture.proofs.picture.code_at.Goals as goal

pub payload_bytes-requires-clause-index : goal.payload_bytes-requires-clause-index
payload_bytes-requires-clause-index g c = let is = predicting c.args.asked.now.settings.now c.requires.prepared.asked.accepted in (is.some_blocks, is.most_blocks)

pub payload_bytes-requires-clause-precision : goal.payload_bytes-requires-clause-precision
payload_bytes-requires-clause-precision g c =
    (predicting c.args.asked.now.settings.now c.requires.prepared.asked.accepted).precision

pub payload_bytes-requires-clause-written : goal.payload_bytes-requires-clause-written
payload_bytes-requires-clause-written g c =
    let o = blocks_in c.args.prepared.now in
    (coded_fits c.args.asked.now.settings.now c.sequence_of-sequence.result c.args.asked.now.refs.now c.args.asked.now.planned.now c.args.asked.now.source.now (motion_among c.args.asked.now.settings.now o) c.in_ok-coded.coded
    c.requires.prepared.asked (moves_of c.args.asked.now.settings.now c.args.asked.now.planned.now o c.requires.prepared.blocks) c.sequence_of-sequence.ensures.value c.in_ok-coded.ensures).1

pub finish-requires-clause-from : goal.finish-requires-clause-from
finish-requires-clause-from g c =
    can_finish c.args.asked.now.settings.now c.sequence_of-sequence.result c.args.asked.now.refs.now c.args.asked.now.planned.now c.args.asked.now.source.now c.args.prepared.now c.in_ok-coded.coded c.requires.prepared c.sequence_of-sequence.ensures.value c.in_ok-coded.ensures

pub returns : goal.returns
unfolding payload_by
returns g c =
    let t = c.args.asked.now.settings.now in
    let refs = c.args.asked.now.refs.now in
    let q = c.args.asked.now.planned.now in
    let p = c.args.asked.now.source.now in
    let o = blocks_in c.args.prepared.now in
    let coded = c.in_ok-coded.coded in
    let known = moves_of t q o c.requires.prepared.blocks in
    let shown : c.in_ok-finished.finished.shown ≡ rebuilt (sequence_of t) refs (coded_by t refs q p o) =
    c.in_ok-finished.ensures.shown ∙ shown_from c.sequence_of-sequence.result (sequence_of t) refs coded _ c.sequence_of-sequence.ensures.value c.in_ok-coded.ensures in
    let exact : c.in_ok-payload.payload.items ≡ payload_of t (coded_by t refs q p o) =
    packed (up_to_byte (with_coded_picture t coded [])) c.in_ok-payload.payload.items
    (subst (λ (l : List ℕ). AllByRecursion (λ b. b < 2 ^ 8) l) c.as_slice.ensures.value c.are_bytes.ensures)
    (c.in_ok-payload.ensures.value ∙ ap (λ (s : Sequence). up_to_byte (with_coded s t.blocks t.precision coded [])) c.sequence_of-sequence.ensures.value)
    ∙ ap (λ (x : CodedPicture). bytes_of (up_to_byte (with_coded_picture t x []))) c.in_ok-coded.ensures in
    record {
      payload = exact;
      shown = shown;
      read = payload_read t refs q p (motion_among t o) coded c.in_ok-payload.payload.items c.requires.prepared.asked known c.in_ok-coded.ensures (exact ∙ ap (payload_of t) (sym c.in_ok-coded.ensures)) c.in_ok-payload.ensures.spelled;
      magnitudes_bounded = small_so t refs q p (motion_among t o) c.requires.prepared.asked known;
      lossless = λ number none. shown ∙ shown_again t refs q p (motion_among t o) c.requires.prepared.asked known c.requires.prepared.as_many_samples number none;
    }
