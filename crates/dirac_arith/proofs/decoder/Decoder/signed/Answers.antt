use Rattle.std.proofs.Common.{◌≡◌, subst, arith}
use Rattle.dirac_arith.specs.Carried.{Lies}
use Rattle.dirac_arith.specs.Front.{front}
use Rattle.dirac_arith.specs.Reading.{Reading}
use Rattle.dirac_arith.proofs.Carrieds.{signed_gives}
use Rattle.dirac_arith.proofs.Numbers.{signed_read, no_signed_read, sound_tame, shut}
use Rattle.dirac_arith.proofs.Spellings.{IsTame}
use Rattle.dirac_arith.proofs.decoder.Decoder.signed.Goals as goal

pub returns-clause-number : goal.returns-clause-number
returns-clause-number c =
    λ v fits lies.
    let a = c.self.inside in
    let taken = c.read_signed.ensures in
    let T : Reading → Type 0 = λ x. IsTame x.at in
    let tame = subst T c.self.view_is (sound_tame a (omega arith) c.self.invariant) in
    let S : Reading → Type 0 = λ x. front x.block 16 ≡ 0xFFFF → Lies x.block x.at → ⊥ in
    let closed = subst S c.self.view_is (shut a c.self.invariant) in
    signed_read c.read_signed.result c.args.self.now c.read_signed.new.self c.args.follow.now c.args.bits c.args.sign v tame
    (λ e. closed (taken.refused.0 e)) taken.found taken.below_2_39 taken.long taken.no_other_cause fits lies

pub returns-clause-no_number : goal.returns-clause-no_number
returns-clause-no_number c =
    λ digits count lies.
    let a = c.self.inside in
    let taken = c.read_signed.ensures in
    let T : Reading → Type 0 = λ x. IsTame x.at in
    let tame = subst T c.self.view_is (sound_tame a (omega arith) c.self.invariant) in
    let S : Reading → Type 0 = λ x. front x.block 16 ≡ 0xFFFF → Lies x.block x.at → ⊥ in
    let closed = subst S c.self.view_is (shut a c.self.invariant) in
    no_signed_read c.read_signed.result c.args.self.now c.read_signed.new.self c.args.follow.now c.args.bits c.args.sign digits tame
    (λ e. closed (taken.refused.0 e)) taken.found taken.no_other_cause count lies

pub returns-clause-read : goal.returns-clause-read
returns-clause-read c =
    let taken = c.read_signed.ensures in
    let T : Reading → Type 0 = λ x. IsTame x.at in
    let tame = subst T c.self.view_is (sound_tame c.self.inside (omega arith) c.self.invariant) in
    signed_gives c.read_signed.result c.args.self.now c.read_signed.new.self c.args.follow.now c.args.bits c.args.sign tame taken.found taken.below_2_39 taken.long taken.refused taken.no_other_cause
