use Rattle.std.proofs.Common.{◌≡◌, ◌^◌, ◌*◌, to_z, of_z, refl, ap, ◌∙◌}
use Rattle.std.specs.Int.{w16}
use Rattle.std.proofs.lemmas.Int.{to_z-of_z}
use Rattle.dirac_upconvert.specs.SubSamples.{mixed, rounded}
use Rattle.dirac_upconvert.proofs.Lanes.{plain_rest}
use Rattle.dirac_upconvert.proofs.Mixing.{four_products}
use Rattle.dirac_upconvert.proofs.rows.between_four.Goals as goal

pub returns : goal.returns
returns c =
    let r = c.args.rests in
    let right = plain_rest r.bits r.right c.requires.rests.bits c.requires.rests.right in
    let below = plain_rest r.bits r.below c.requires.rests.bits c.requires.rests.below in
    let above : to_z w16 (of_z w16 c.beside_each_other.result) ≡ mixed (2 ^ r.bits) r.right c.args.v00 c.args.v10 =
    to_z-of_z w16 _ (record { sfits = c.beside_each_other.type_inv }) ∙ c.beside_each_other.ensures.value
    ∙ rw (right, to_z-of_z w16 c.args.v00 c.ranges.v00, to_z-of_z w16 c.args.v10 c.ranges.v10) refl in
    let under : to_z w16 (of_z w16 c.beside_each_other-2.result) ≡ mixed (2 ^ r.bits) r.right c.args.v01 c.args.v11 =
    to_z-of_z w16 _ (record { sfits = c.beside_each_other-2.type_inv }) ∙ c.beside_each_other-2.ensures.value
    ∙ rw (right, to_z-of_z w16 c.args.v01 c.ranges.v01, to_z-of_z w16 c.args.v11 c.ranges.v11) refl in
    to_z-of_z w16 _ (record { sfits = c.settle.type_inv }) ∙ c.settle.ensures
    ∙ rw (below, above, under)
    (ap (rounded (2 * r.bits)) (four_products (2 ^ r.bits) r.right r.below c.args.v00 c.args.v10 c.args.v01 c.args.v11))
