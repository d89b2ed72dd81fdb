use Rattle.std.proofs.Common.{◌≡◌, ◌^◌, ◌+ℤ◌, ◌-ℤ◌, ◌*ℤ◌, pos, to_z, of_z, arith, refl, ◌∙◌}
use Rattle.std.specs.Int.{w16}
use Rattle.std.proofs.lemmas.Int.{to_z-of_z}
use Rattle.dirac_upconvert.specs.SubSamples.{mixed}
use Rattle.dirac_upconvert.proofs.Mixing.{left_fits, right_fits, weight_is, after_zero, mixed_within}
use Rattle.dirac_upconvert.proofs.parts.mix.Goals as goal

pub multiply_add-requires : goal.multiply_add-requires
multiply_add-requires c =
    let scale : to_z w16 (of_z w16 c.positions-scale.result) ≡ pos (2 ^ c.args.bits) = to_z-of_z w16 _ (record { sfits = c.positions-scale.type_inv }) ∙ c.positions-scale.ensures in
    rw (scale, to_z-of_z w16 c.args.rest c.ranges.rest, weight_is c.args.bits c.args.rest c.requires.bits c.requires.rest, to_z-of_z w16 c.args.a c.ranges.a)
    (omega (arith, left_fits c.args.bits c.args.rest c.args.a c.requires.bits c.requires.rest c.requires.a))

pub multiply_add-requires-2 : goal.multiply_add-requires-2
multiply_add-requires-2 c =
    let scale : to_z w16 (of_z w16 c.positions-scale.result) ≡ pos (2 ^ c.args.bits) = to_z-of_z w16 _ (record { sfits = c.positions-scale.type_inv }) ∙ c.positions-scale.ensures in
    let first : to_z w16 (of_z w16 c.multiply_add.result) ≡ pos 0 +ℤ (pos (2 ^ c.args.bits) -ℤ c.args.rest) *ℤ c.args.a =
    to_z-of_z w16 _ (record { sfits = c.multiply_add.type_inv }) ∙ c.multiply_add.ensures.value
    ∙ rw (scale, to_z-of_z w16 c.args.rest c.ranges.rest, weight_is c.args.bits c.args.rest c.requires.bits c.requires.rest, to_z-of_z w16 c.args.a c.ranges.a) refl in
    rw (to_z-of_z w16 c.args.rest c.ranges.rest, to_z-of_z w16 c.args.b c.ranges.b)
    (right_fits c.args.bits c.args.rest c.args.a c.args.b _ c.requires.bits c.requires.rest c.requires.a c.requires.b first)

pub returns-clause-value : goal.returns-clause-value
returns-clause-value c =
    let scale : to_z w16 (of_z w16 c.positions-scale.result) ≡ pos (2 ^ c.args.bits) = to_z-of_z w16 _ (record { sfits = c.positions-scale.type_inv }) ∙ c.positions-scale.ensures in
    let first : to_z w16 (of_z w16 c.multiply_add.result) ≡ pos 0 +ℤ (pos (2 ^ c.args.bits) -ℤ c.args.rest) *ℤ c.args.a =
    to_z-of_z w16 _ (record { sfits = c.multiply_add.type_inv }) ∙ c.multiply_add.ensures.value
    ∙ rw (scale, to_z-of_z w16 c.args.rest c.ranges.rest, weight_is c.args.bits c.args.rest c.requires.bits c.requires.rest, to_z-of_z w16 c.args.a c.ranges.a) refl in
    to_z-of_z w16 _ (record { sfits = c.multiply_add-2.type_inv }) ∙ c.multiply_add-2.ensures.value
    ∙ rw (first, to_z-of_z w16 c.args.rest c.ranges.rest, to_z-of_z w16 c.args.b c.ranges.b)
    (after_zero ((pos (2 ^ c.args.bits) -ℤ c.args.rest) *ℤ c.args.a) (c.args.rest *ℤ c.args.b))

pub returns-clause-within : goal.returns-clause-within
returns-clause-within c m p q =
    let scale : to_z w16 (of_z w16 c.positions-scale.result) ≡ pos (2 ^ c.args.bits) = to_z-of_z w16 _ (record { sfits = c.positions-scale.type_inv }) ∙ c.positions-scale.ensures in
    let first : to_z w16 (of_z w16 c.multiply_add.result) ≡ pos 0 +ℤ (pos (2 ^ c.args.bits) -ℤ c.args.rest) *ℤ c.args.a =
    to_z-of_z w16 _ (record { sfits = c.multiply_add.type_inv }) ∙ c.multiply_add.ensures.value
    ∙ rw (scale, to_z-of_z w16 c.args.rest c.ranges.rest, weight_is c.args.bits c.args.rest c.requires.bits c.requires.rest, to_z-of_z w16 c.args.a c.ranges.a) refl in
    let value : to_z w16 (of_z w16 c.multiply_add-2.result) ≡ mixed (2 ^ c.args.bits) c.args.rest c.args.a c.args.b =
    to_z-of_z w16 _ (record { sfits = c.multiply_add-2.type_inv }) ∙ c.multiply_add-2.ensures.value
    ∙ rw (first, to_z-of_z w16 c.args.rest c.ranges.rest, to_z-of_z w16 c.args.b c.ranges.b)
    (after_zero ((pos (2 ^ c.args.bits) -ℤ c.args.rest) *ℤ c.args.a) (c.args.rest *ℤ c.args.b)) in
    rw value (mixed_within c.args.bits m c.args.rest c.args.a c.args.b c.requires.bits c.requires.rest p q)
