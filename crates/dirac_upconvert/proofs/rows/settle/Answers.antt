use Rattle.std.proofs.Common.{◌^◌, ◌*◌, ◌≤◌, arith}
use Rattle.std.specs.Int.{w16}
use Rattle.std.proofs.lemmas.Int.{to_z-of_z}
use Rattle.std.proofs.Math.Pow.{pow_mono}
use Rattle.dirac_upconvert.proofs.Mixing.{more_within, within_small}
use Rattle.dirac_upconvert.proofs.rows.settle.Goals as goal

pub mix-requires-clause-a : goal.mix-requires-clause-a
mix-requires-clause-a c =
    let small : 2 ^ c.args.bits ≤ 2 ^ 2 = pow_mono {i = c.args.bits} {j = 2} c.requires.bits in
    rw (to_z-of_z w16 c.args.above c.ranges.above) (more_within (2 ^ c.args.bits * 1) 4 _ (omega (arith, small)) c.requires.above)

pub mix-requires-clause-b : goal.mix-requires-clause-b
mix-requires-clause-b c =
    let small : 2 ^ c.args.bits ≤ 2 ^ 2 = pow_mono {i = c.args.bits} {j = 2} c.requires.bits in
    rw (to_z-of_z w16 c.args.under c.ranges.under) (more_within (2 ^ c.args.bits * 1) 4 _ (omega (arith, small)) c.requires.under)

pub rounded_sum-requires-clause-sum : goal.rounded_sum-requires-clause-sum
rounded_sum-requires-clause-sum c =
    rw (to_z-of_z w16 c.mix.result (record { sfits = c.mix.type_inv }))
    (within_small c.args.bits _ c.requires.bits
    (c.mix.ensures.within (2 ^ c.args.bits * 1) (rw (to_z-of_z w16 c.args.above c.ranges.above) c.requires.above) (rw (to_z-of_z w16 c.args.under c.ranges.under) c.requires.under)))
