use Rattle.std.proofs.Common.{◌≡◌, ◌*ℤ◌, pos, to_z, of_z, arith, refl, ◌∙◌}
use Rattle.std.specs.Int.{w16, w64}
use Rattle.std.proofs.lemmas.Int.{ints, to_z-of_z}
use Rattle.dirac_upconvert.proofs.parts.whole_sample.Goals as goal

pub returns-clause-value : goal.returns-clause-value
returns-clause-value c =
    let across : to_z w64 (of_z w64 c.twice.result) ≡ pos 2 *ℤ c.args.x = omega (arith, ints, c.twice.ensures) in
    let down : to_z w64 (of_z w64 c.twice-2.result) ≡ pos 2 *ℤ c.args.y = omega (arith, ints, c.twice-2.ensures) in
    to_z-of_z w16 _ (record { sfits = c.sample.type_inv }) ∙ c.sample.ensures.value ∙ rw (across, down) refl
