use Rattle.std.proofs.Common.{◌≡◌, ℤ, sym, subst, ◌∙◌, w64, to_z, of_z, rules}
use Rattle.std.proofs.lemmas.Int.{to_z-of_z}
use Rattle.dirac_common.specs.Numbers.{signed_value}
use Rattle.dirac_arith.specs.Reading.{DecisionsAreRead}
use Rattle.dirac_arith.specs.Spelling.{signed_spelling}
use Rattle.dirac_arith.proofs.Numbers.{reads_zero, reads_signed}
use Rattle.dirac_arith.proofs.decoder.Decoder.read_signed.Goals as goal

pub returns-then-magnitude-eq0-clause-found : goal.returns-then-magnitude-eq0-clause-found
returns-then-magnitude-eq0-clause-found c =
    reads_zero c.args.self.now c.read_number.new.self c.args.follow.now c.args.bits c.args.sign c.in_ok-magnitude.magnitude c.if-magnitude-eq0.true c.in_ok-magnitude.ensures.found

pub returns-clause-found : goal.returns-clause-found
returns-clause-found c =
    let taken = c.in_ok-negative.ensures in
    let P : ℤ → Type 0 = λ v. DecisionsAreRead c.args.self.now (signed_spelling c.args.follow.now c.args.bits c.args.sign v) c.decision.new.self in
    let value : to_z w64 (of_z w64 c.with_sign.result) ≡ signed_value c.in_ok-magnitude.magnitude c.in_ok-negative.negative = to_z-of_z w64 c.with_sign.result (search rules) ∙ c.with_sign.ensures.value in
    subst P (sym value)
    (reads_signed c.args.self.now c.read_number.new.self c.decision.new.self c.args.follow.now c.args.bits c.args.sign c.in_ok-magnitude.magnitude c.in_ok-negative.negative
    c.if-magnitude-eq0.false c.in_ok-magnitude.ensures.found taken.narrows taken.lies_inside)
