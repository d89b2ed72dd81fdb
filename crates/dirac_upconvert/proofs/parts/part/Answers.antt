use Rattle.std.proofs.Common.{◌≡◌, ◌^◌, ◌*◌, to_z, of_z, refl, ap, ◌∙◌}
use Rattle.std.specs.Int.{w16, w64}
use Rattle.std.proofs.lemmas.Int.{to_z-of_z}
use Rattle.dirac_upconvert.specs.SubSamples.{bilinear, part_sample, place_at, rest_at, rounded}
use Rattle.dirac_upconvert.proofs.Mixing.{rounded_sample, within_small}
use Rattle.dirac_upconvert.proofs.parts.part.Goals as goal

pub rounded_sum-requires-clause-sum : goal.rounded_sum-requires-clause-sum
rounded_sum-requires-clause-sum c =
    rw (to_z-of_z w16 c.mixed_rows.result (record { sfits = c.mixed_rows.type_inv })) (within_small c.args.bits _ c.requires.bits c.mixed_rows.ensures.within)

pub returns-clause-sample : goal.returns-clause-sample
returns-clause-sample c =
    let sum : to_z w16 (of_z w16 c.mixed_rows.result) ≡ c.mixed_rows.result = to_z-of_z w16 _ (record { sfits = c.mixed_rows.type_inv }) in
    let value : to_z w16 (of_z w16 c.rounded_sum.result) ≡ rounded (2 * c.args.bits) c.mixed_rows.result =
    to_z-of_z w16 _ (record { sfits = c.rounded_sum.type_inv }) ∙ c.rounded_sum.ensures ∙ rw sum refl in
    rw value (rounded_sample c.args.bits _ c.requires.bits c.mixed_rows.ensures.within)

pub returns-clause-value : goal.returns-clause-value
unfolding part_sample
returns-clause-value c =
    let sum : to_z w16 (of_z w16 c.mixed_rows.result) ≡ bilinear c.args.table.now (2 ^ c.args.bits) (place_at c.args.x c.args.bits) (place_at c.args.y c.args.bits) (rest_at c.args.x c.args.bits) (rest_at c.args.y c.args.bits) =
    to_z-of_z w16 _ (record { sfits = c.mixed_rows.type_inv }) ∙ c.mixed_rows.ensures.value
    ∙ rw (to_z-of_z w64 c.args.x c.ranges.x, to_z-of_z w64 c.args.y c.ranges.y) refl in
    to_z-of_z w16 _ (record { sfits = c.rounded_sum.type_inv }) ∙ c.rounded_sum.ensures ∙ ap (rounded (2 * c.args.bits)) sum
