use Rattle.std.proofs.Common.{◌≡◌, subst, arith}
use Rattle.dirac_arith.specs.Carried.{Lies}
use Rattle.dirac_arith.specs.Front.{front}
use Rattle.dirac_arith.specs.Reading.{Reading}
use Rattle.dirac_arith.proofs.Carrieds.{number_gives}
use Rattle.dirac_arith.proofs.Numbers.{number_read, no_number_read, sound_tame, shut}
use Rattle.dirac_arith.proofs.Spellings.{IsTame}
use Rattle.dirac_arith.proofs.decoder.Decoder.number.Goals as goal

pub returns-clause-number : goal.returns-clause-number
returns-clause-number c =
    λ v fits lies.
    let a = c.self.inside in
    let taken = c.read_number.ensures in
    let T : Reading → Type 0 = λ x. IsTame x.at in
    let tame = subst T c.self.view_is (sound_tame a (omega arith) c.self.invariant) in
    let S : Reading → Type 0 = λ x. front x.block 16 ≡ 0xFFFF → Lies x.block x.at → ⊥ in
    let closed = subst S c.self.view_is (shut a c.self.invariant) in
    number_read c.read_number.result c.args.self.now c.read_number.new.self c.args.follow.now c.args.bits v tame
    (λ e. closed (taken.refused.0 e)) taken.found taken.below_2_39 taken.long taken.no_other_cause fits lies

pub returns-clause-no_number : goal.returns-clause-no_number
returns-clause-no_number c =
    λ digits count lies.
    let a = c.self.inside in
    let taken = c.read_number.ensures in
    let T : Reading → Type 0 = λ x. IsTame x.at in
    let tame = subst T c.self.view_is (sound_tame a (omega arith) c.self.invariant) in
    let S : Reading → Type 0 = λ x. front x.block 16 ≡ 0xFFFF → Lies x.block x.at → ⊥ in
    let closed = subst S c.self.view_is (shut a c.self.invariant) in
    no_number_read c.read_number.result c.args.self.now c.read_number.new.self c.args.follow.now c.args.bits digits tame
    (λ e. closed (taken.refused.0 e)) taken.found taken.no_other_cause count lies

pub returns-clause-read : goal.returns-clause-read
returns-clause-read c =
    let taken = c.read_number.ensures in
    let T : Reading → Type 0 = λ x. IsTame x.at in
    let tame = subst T c.self.view_is (sound_tame c.self.inside (omega arith) c.self.invariant) in
    number_gives c.read_number.result c.args.self.now c.read_number.new.self c.args.follow.now c.args.bits tame taken.found taken.below_2_39 taken.long taken.refused taken.no_other_cause
