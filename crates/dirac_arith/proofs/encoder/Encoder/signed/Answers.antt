use Rattle.std.proofs.Common.{pos, nat_abs, w64, to_z, of_z, ap, ◌∙◌}
use Rattle.std.proofs.lemmas.Int.{to_z-of_z}
use lib.Signed.{lt_z}
use Rattle.dirac_arith.proofs.Encodings.{zero_from, taken_zero, taken_signed}
use Rattle.dirac_arith.proofs.encoder.Encoder.signed.Goals as goal

pub returns-then-value-eq0 : goal.returns-then-value-eq0
returns-then-value-eq0 c =
    let same = to_z-of_z w64 c.args.value c.ranges.value in
    taken_zero c.args.self.now c.number.new.self c.args.follow.now c.args.bits c.args.sign c.unsigned_abs.result c.args.value
    c.in_ok-number.ensures (c.unsigned_abs.ensures.value ∙ ap nat_abs same) (zero_from c.args.value c.if-value-eq0.true c.requires.value)

pub returns : goal.returns
returns c =
    let same = to_z-of_z w64 c.args.value c.ranges.value in
    taken_signed c.args.self.now c.number.new.self c.decision.new.self c.args.follow.now c.args.bits c.args.sign c.unsigned_abs.result c.args.value
    (lt_z (to_z w64 (of_z w64 c.args.value)) (pos 0))
    c.in_ok-number.ensures (c.unsigned_abs.ensures.value ∙ ap nat_abs same) (λ e. c.if-value-eq0.false (ap (of_z w64) e))
    (ap (λ z. lt_z z (pos 0)) same) c.in_ok-decision.ensures.taken
