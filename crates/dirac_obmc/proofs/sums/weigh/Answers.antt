use Rattle.std.proofs.Common.{◌≡◌, ◌*◌, ◌*ℤ◌, ◌≤◌, ◌^◌, pos, unsigned_abs, to_z, of_z, arith, ◌∙◌}
use Rattle.std.specs.Int.{w16, w32}
use Rattle.std.proofs.lemmas.Int.{to_z-of_z, fits_signed_from_abs}
use Rattle.std.proofs.lemmas.Nat.{mul-le}
use Rattle.dirac_obmc.proofs.Totals.{weighed_small}
use Rattle.dirac_obmc.proofs.sums.weigh.Goals as goal

pub returns-clause-value : goal.returns-clause-value
returns-clause-value c =
    let few : c.args.weight * c.args.down ≤ 64 = omega (arith, mul-le c.args.weight c.args.down 8 8 c.requires.weight c.requires.down) in
    let weight : to_z w32 (of_z w32 c.from.result) ≡ pos (c.args.weight * c.args.down) =
    to_z-of_z w32 _ (record { sfits = c.from.type_inv }) ∙ c.from.ensures ∙ to_z-of_z w16 _ (record { sfits = c.both.type_inv }) ∙ c.both.ensures in
    let value : to_z w32 (of_z w32 c.from-2.result) ≡ c.args.value =
    to_z-of_z w32 _ (record { sfits = c.from-2.type_inv }) ∙ c.from-2.ensures ∙ to_z-of_z w16 c.args.value c.ranges.value in
    let small : unsigned_abs (pos (c.args.weight * c.args.down) *ℤ c.args.value) ≤ 2 ^ 21 = weighed_small (c.args.weight * c.args.down) c.args.value few c.requires.value in
    rw (weight, value) (to_z-of_z w32 _ (fits_signed_from_abs w32 _ (omega (arith, small))))

pub returns-clause-at_most_2_21 : goal.returns-clause-at_most_2_21
returns-clause-at_most_2_21 c =
    let few : c.args.weight * c.args.down ≤ 64 = omega (arith, mul-le c.args.weight c.args.down 8 8 c.requires.weight c.requires.down) in
    let weight : to_z w32 (of_z w32 c.from.result) ≡ pos (c.args.weight * c.args.down) =
    to_z-of_z w32 _ (record { sfits = c.from.type_inv }) ∙ c.from.ensures ∙ to_z-of_z w16 _ (record { sfits = c.both.type_inv }) ∙ c.both.ensures in
    let value : to_z w32 (of_z w32 c.from-2.result) ≡ c.args.value =
    to_z-of_z w32 _ (record { sfits = c.from-2.type_inv }) ∙ c.from-2.ensures ∙ to_z-of_z w16 c.args.value c.ranges.value in
    let small : unsigned_abs (pos (c.args.weight * c.args.down) *ℤ c.args.value) ≤ 2 ^ 21 = weighed_small (c.args.weight * c.args.down) c.args.value few c.requires.value in
    rw (weight, value, to_z-of_z w32 _ (fits_signed_from_abs w32 (pos (c.args.weight * c.args.down) *ℤ c.args.value) (omega (arith, small)))) small
