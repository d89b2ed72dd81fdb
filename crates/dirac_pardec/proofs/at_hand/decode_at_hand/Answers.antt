use Rattle.std.proofs.Common.{◌∙◌, sym}
use Rattle.dirac_pardec.proofs.Unlisted.{decoded_alike}
use Rattle.dirac_pardec.proofs.at_hand.decode_at_hand.Goals as goal

pub returns-in-Some : goal.returns-in-Some
returns-in-Some g c =
    rw c.take_room.ensures
    (decoded_alike c.args.asked.payload.now c.args.asked.code c.args.asked.sequence.now c.args.refs.now c.in-Some.decoded (sym c.is_intra.ensures ∙ c.if-is_intra.true) c.in-Some.ensures)
