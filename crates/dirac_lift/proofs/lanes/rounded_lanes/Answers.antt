use Rattle.std.proofs.Common.{◌≡◌, ◌≤◌, ◌/◌, ◌^◌, pos, to_z, of_z, arith, refl, ◌∙◌}
use Rattle.std.specs.Int.{w32}
use Rattle.std.proofs.lemmas.Int.{to_z_pos}
use Rattle.dirac_lift.specs.Lanes.{lane}
use Rattle.dirac_lift.proofs.HalfLemmas.{half_small}
use Rattle.dirac_lift.proofs.LaneLemmas.{handed, handed_own, lanes_same, passed, same_number}
use Rattle.dirac_lift.proofs.lanes.rounded_lanes.Goals as goal

pub shifted_lanes-requires-clause-lanes : goal.shifted_lanes-requires-clause-lanes
shifted_lanes-requires-clause-lanes c = ((handed_own c.args.sum c.requires.lanes).eight, (handed _ _ c.lanes_of.ensures).eight, (handed _ _ c.lanes_of-2.ensures).eight)

pub shifted_lanes-requires-clause-fits : goal.shifted_lanes-requires-clause-fits
shifted_lanes-requires-clause-fits c = λ j l.
    let small : 2 ^ c.args.shift / 2 ≤ 2 ^ 11 = half_small c.args.shift c.requires.shift in
    let half : to_z w32 (of_z w32 c.half_of.result) ≡ pos (2 ^ c.args.shift / 2) = same_number _ _ c.half_of.ensures (omega (arith, small)) in
    rw ((handed_own c.args.sum c.requires.lanes).each j l, (handed _ _ c.lanes_of.ensures).each j l, half) (omega (arith, small, c.requires.sum j l))

pub shifted_lanes-requires-clause-bits : goal.shifted_lanes-requires-clause-bits
shifted_lanes-requires-clause-bits c = λ j l.
    let bits : lane (passed c.lanes_of-2.result) j ≡ pos c.args.shift = (handed _ _ c.lanes_of-2.ensures).each j l ∙ to_z_pos w32 c.args.shift (omega (arith, c.requires.shift)) in
    rw bits (refl, c.requires.shift)

pub returns : goal.returns
returns c = handed _ _ (lanes_same _ _ _ c.shifted_lanes.ensures (λ j l.
    let small : 2 ^ c.args.shift / 2 ≤ 2 ^ 11 = half_small c.args.shift c.requires.shift in
    let half : lane (passed c.lanes_of.result) j ≡ pos (2 ^ c.args.shift / 2) = (handed _ _ c.lanes_of.ensures).each j l ∙ same_number _ _ c.half_of.ensures (omega (arith, small)) in
    let bits : lane (passed c.lanes_of-2.result) j ≡ pos c.args.shift = (handed _ _ c.lanes_of-2.ensures).each j l ∙ to_z_pos w32 c.args.shift (omega (arith, c.requires.shift)) in
    rw ((handed_own c.args.sum c.requires.lanes).each j l, half, bits) refl))
