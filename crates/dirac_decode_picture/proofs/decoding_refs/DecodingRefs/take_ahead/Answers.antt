use Rattle.std.proofs.Common.{List, subst, sym}
use Rattle.dirac_common.specs.declared.picture.Picture.{Picture}
use Rattle.dirac_decode_picture.specs.Ahead.{AreDecodedFrom}
use Rattle.dirac_decode_picture.proofs.Kept.{decodes_payload}
use Rattle.dirac_decode_picture.proofs.decoding_refs.DecodingRefs.take_ahead.Goals as goal

pub returns-clause-value : goal.returns-clause-value
returns-clause-value c =
    let kept : AreDecodedFrom c.self.inside.refs c.in_ok-ahead.ahead.items = c.self.invariant.1 c.in_ok-ahead.ahead (sym c.in_ok-ahead.ensures.value) in
    decodes_payload c.args.payload.now c.args.code c.args.sequence.now c.args.self.now c.in_ok-decoded.decoded
    (c.in_ok-decoded.ensures.value c.args.self.now (subst (λ (refs : List Picture). AreDecodedFrom refs c.in_ok-ahead.ahead.items) c.self.view_is kept))
