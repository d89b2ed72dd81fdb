use Rattle.std.proofs.Common.{◌≡◌, ◌+◌, ◌*◌, ◌*ℤ◌, pos, to_z, of_z, slice_index, slice_index_or, arith, rules, refl, ◌∙◌}
use Rattle.std.specs.Int.{w16, w32}
use Rattle.std.proofs.lemmas.Int.{to_z-of_z, fits_signed_from_abs}
use Rattle.dirac_obmc.specs.Adding.{weighed_at}
use Rattle.dirac_obmc.proofs.sums.grown.Goals as goal

pub returns : goal.returns
unfolding weighed_at
returns c =
    let old : to_z w32 (of_z w32 (slice_index_or c.args.sums.now c.args.place (pos 0))) ≡ slice_index_or c.args.sums.now c.args.place (pos 0) =
    to_z-of_z w32 _ (fits_signed_from_abs w32 (slice_index_or c.args.sums.now c.args.place (pos 0)) (omega (arith, c.requires.sum))) in
    let value : to_z w16 (of_z w16 (slice_index_or c.args.weighed.values.now (c.args.weighed.at + c.args.k) (pos 0))) ≡ slice_index_or c.args.weighed.values.now (c.args.weighed.at + c.args.k) (pos 0) = search rules in
    let more : to_z w32 (of_z w32 c.weigh.result) ≡ pos (slice_index c.args.weighed.weights.now c.args.k * c.args.weighed.down) *ℤ slice_index_or c.args.weighed.values.now (c.args.weighed.at + c.args.k) (pos 0) =
    to_z-of_z w32 _ (record { sfits = c.weigh.type_inv }) ∙ c.weigh.ensures.value ∙ rw value refl in
    to_z-of_z w32 _ (record { sfits = c.sum.type_inv }) ∙ c.sum.ensures ∙ rw (old, more) refl

pub sum-requires-clause-sum : goal.sum-requires-clause-sum
sum-requires-clause-sum c =
    rw (to_z-of_z w32 _ (fits_signed_from_abs w32 (slice_index_or c.args.sums.now c.args.place (pos 0)) (omega (arith, c.requires.sum)))) c.requires.sum
