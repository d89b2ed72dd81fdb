use Rattle.std.proofs.Common.{◌≡◌, ◌+ℤ◌, pos, to_z, of_z, arith, refl, ◌∙◌}
use Rattle.std.specs.Int.{w16, w64}
use Rattle.std.proofs.lemmas.Int.{ints, to_z-of_z}
use Rattle.dirac_common.specs.Table.{clamped_at}
use Rattle.dirac_upconvert.proofs.Mixing.{sample_within}
use Rattle.dirac_upconvert.proofs.parts.mixed_row.Goals as goal

pub mix-requires-clause-a : goal.mix-requires-clause-a
mix-requires-clause-a c =
    rw (to_z-of_z w16 c.sample.result (record { sfits = c.sample.type_inv })) (sample_within 4 _ (omega arith) c.sample.ensures.sample)

pub mix-requires-clause-b : goal.mix-requires-clause-b
mix-requires-clause-b c =
    rw (to_z-of_z w16 c.sample-2.result (record { sfits = c.sample-2.type_inv })) (sample_within 4 _ (omega arith) c.sample-2.ensures.sample)

pub returns-clause-value : goal.returns-clause-value
returns-clause-value c =
    let place : to_z w64 (of_z w64 c.next.result) ≡ c.args.across +ℤ pos 1 = omega (arith, ints, c.next.ensures) in
    let left : to_z w16 (of_z w16 c.sample.result) ≡ clamped_at c.args.table.now c.args.across c.args.y =
    to_z-of_z w16 _ (record { sfits = c.sample.type_inv }) ∙ c.sample.ensures.value
    ∙ rw (to_z-of_z w64 c.args.across c.ranges.across, to_z-of_z w64 c.args.y c.ranges.y) refl in
    let right : to_z w16 (of_z w16 c.sample-2.result) ≡ clamped_at c.args.table.now (c.args.across +ℤ pos 1) c.args.y =
    to_z-of_z w16 _ (record { sfits = c.sample-2.type_inv }) ∙ c.sample-2.ensures.value
    ∙ rw (place, to_z-of_z w64 c.args.y c.ranges.y) refl in
    to_z-of_z w16 _ (record { sfits = c.mix.type_inv }) ∙ c.mix.ensures.value
    ∙ rw (to_z-of_z w16 c.args.right c.ranges.right, left, right) refl

pub returns-clause-within : goal.returns-clause-within
returns-clause-within c =
    rw (to_z-of_z w16 c.mix.result (record { sfits = c.mix.type_inv }))
    (c.mix.ensures.within 1
    (rw (to_z-of_z w16 c.sample.result (record { sfits = c.sample.type_inv })) (sample_within 1 _ (omega arith) c.sample.ensures.sample))
    (rw (to_z-of_z w16 c.sample-2.result (record { sfits = c.sample-2.type_inv })) (sample_within 1 _ (omega arith) c.sample-2.ensures.sample)))
