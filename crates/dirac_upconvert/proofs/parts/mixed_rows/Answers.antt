use Rattle.std.proofs.Common.{◌≡◌, ◌^◌, ◌*◌, ◌≤◌, ◌+ℤ◌, pos, to_z, of_z, arith, refl, ◌∙◌}
use Rattle.std.specs.Int.{w16, w64}
use Rattle.std.proofs.lemmas.Int.{to_z-of_z}
use Rattle.std.proofs.Math.Pow.{pow_mono}
use Rattle.dirac_common.specs.Table.{clamped_at}
use Rattle.dirac_upconvert.specs.SubSamples.{mixed, place_at, rest_at}
use Rattle.dirac_upconvert.proofs.Mixing.{four_products, more_within}
use Rattle.dirac_upconvert.proofs.parts.mixed_rows.Goals as goal

pub mix-requires-clause-a : goal.mix-requires-clause-a
mix-requires-clause-a c =
    let small : 2 ^ c.args.bits ≤ 2 ^ 2 = pow_mono {i = c.args.bits} {j = 2} c.requires.bits in
    rw (to_z-of_z w16 c.mixed_row-above.result (record { sfits = c.mixed_row-above.type_inv }))
    (more_within (2 ^ c.args.bits * 1) 4 _ (omega (arith, small)) c.mixed_row-above.ensures.within)

pub mix-requires-clause-b : goal.mix-requires-clause-b
mix-requires-clause-b c =
    let small : 2 ^ c.args.bits ≤ 2 ^ 2 = pow_mono {i = c.args.bits} {j = 2} c.requires.bits in
    rw (to_z-of_z w16 c.mixed_row-under.result (record { sfits = c.mixed_row-under.type_inv }))
    (more_within (2 ^ c.args.bits * 1) 4 _ (omega (arith, small)) c.mixed_row-under.ensures.within)

pub returns-clause-value : goal.returns-clause-value
returns-clause-value c =
    let across : to_z w64 (of_z w64 c.place-across.result) ≡ place_at c.args.x c.args.bits =
    to_z-of_z w64 _ (record { sfits = c.place-across.type_inv }) ∙ c.place-across.ensures.value ∙ rw (to_z-of_z w64 c.args.x c.ranges.x) refl in
    let down : to_z w64 (of_z w64 c.place-down.result) ≡ place_at c.args.y c.args.bits =
    to_z-of_z w64 _ (record { sfits = c.place-down.type_inv }) ∙ c.place-down.ensures.value ∙ rw (to_z-of_z w64 c.args.y c.ranges.y) refl in
    let lower : to_z w64 (of_z w64 c.next.result) ≡ place_at c.args.y c.args.bits +ℤ pos 1 =
    to_z-of_z w64 _ (record { sfits = c.next.type_inv }) ∙ c.next.ensures ∙ rw down refl in
    let right : to_z w16 (of_z w16 c.rest-right.result) ≡ rest_at c.args.x c.args.bits =
    to_z-of_z w16 _ (record { sfits = c.rest-right.type_inv }) ∙ c.rest-right.ensures.value ∙ rw (to_z-of_z w64 c.args.x c.ranges.x) refl in
    let below : to_z w16 (of_z w16 c.rest.result) ≡ rest_at c.args.y c.args.bits =
    to_z-of_z w16 _ (record { sfits = c.rest.type_inv }) ∙ c.rest.ensures.value ∙ rw (to_z-of_z w64 c.args.y c.ranges.y) refl in
    let above : to_z w16 (of_z w16 c.mixed_row-above.result) ≡ mixed (2 ^ c.args.bits) (rest_at c.args.x c.args.bits) (clamped_at c.args.table.now (place_at c.args.x c.args.bits) (place_at c.args.y c.args.bits)) (clamped_at c.args.table.now (place_at c.args.x c.args.bits +ℤ pos 1) (place_at c.args.y c.args.bits)) =
    to_z-of_z w16 _ (record { sfits = c.mixed_row-above.type_inv }) ∙ c.mixed_row-above.ensures.value ∙ rw (right, across, down) refl in
    let under : to_z w16 (of_z w16 c.mixed_row-under.result) ≡ mixed (2 ^ c.args.bits) (rest_at c.args.x c.args.bits) (clamped_at c.args.table.now (place_at c.args.x c.args.bits) (place_at c.args.y c.args.bits +ℤ pos 1)) (clamped_at c.args.table.now (place_at c.args.x c.args.bits +ℤ pos 1) (place_at c.args.y c.args.bits +ℤ pos 1)) =
    to_z-of_z w16 _ (record { sfits = c.mixed_row-under.type_inv }) ∙ c.mixed_row-under.ensures.value ∙ rw (right, across, lower) refl in
    to_z-of_z w16 _ (record { sfits = c.mix.type_inv }) ∙ c.mix.ensures.value ∙ rw (below, above, under)
    (four_products (2 ^ c.args.bits) (rest_at c.args.x c.args.bits) (rest_at c.args.y c.args.bits)
    (clamped_at c.args.table.now (place_at c.args.x c.args.bits) (place_at c.args.y c.args.bits)) (clamped_at c.args.table.now (place_at c.args.x c.args.bits +ℤ pos 1) (place_at c.args.y c.args.bits))
    (clamped_at c.args.table.now (place_at c.args.x c.args.bits) (place_at c.args.y c.args.bits +ℤ pos 1)) (clamped_at c.args.table.now (place_at c.args.x c.args.bits +ℤ pos 1) (place_at c.args.y c.args.bits +ℤ pos 1)))

pub returns-clause-within : goal.returns-clause-within
returns-clause-within c =
    rw (to_z-of_z w16 c.mix.result (record { sfits = c.mix.type_inv }))
    (c.mix.ensures.within (2 ^ c.args.bits * 1)
    (rw (to_z-of_z w16 c.mixed_row-above.result (record { sfits = c.mixed_row-above.type_inv })) c.mixed_row-above.ensures.within)
    (rw (to_z-of_z w16 c.mixed_row-under.result (record { sfits = c.mixed_row-under.type_inv })) c.mixed_row-under.ensures.within))
