use Rattle.std.proofs.Common.{◌≡◌, ◌≤◌, ◌^◌, pos, unsigned_abs, to_z, of_z, slice_index_or, arith, refl, ◌∙◌}
use Rattle.std.specs.Int.{w32}
use Rattle.std.proofs.lemmas.Int.{to_z-of_z, fits_signed_from_abs}
use Rattle.dirac_obmc.proofs.AddLemmas.{divided_none, divided_more, divided_next}
use Rattle.dirac_obmc.proofs.sums.divide_sums.Goals as goal

pub loop-x-init : goal.loop-x-init
loop-x-init c = divided_none _

pub divided-requires : goal.divided-requires
divided-requires c =
    let small : unsigned_abs (slice_index_or c.loop-x.sums c.loop-x.x (pos 0)) ≤ 2 ^ 21 = divided_next c.loop-x.x (2 ^ 21) _ _ c.loop-x.invariant c.requires (omega arith) in
    rw (to_z-of_z w32 _ (fits_signed_from_abs w32 (slice_index_or c.loop-x.sums c.loop-x.x (pos 0)) (omega (arith, small)))) small

pub loop-x-preserved : goal.loop-x-preserved
loop-x-preserved c =
    let small : unsigned_abs (slice_index_or c.loop-x.sums c.loop-x.x (pos 0)) ≤ 2 ^ 21 = divided_next c.loop-x.x (2 ^ 21) _ _ c.loop-x.invariant c.requires (omega arith) in
    let old : to_z w32 (of_z w32 (slice_index_or c.loop-x.sums c.loop-x.x (pos 0))) ≡ slice_index_or c.loop-x.sums c.loop-x.x (pos 0) =
    to_z-of_z w32 _ (fits_signed_from_abs w32 (slice_index_or c.loop-x.sums c.loop-x.x (pos 0)) (omega (arith, small))) in
    divided_more c.loop-x.x _ _ _ _ c.loop-x.invariant (omega arith) refl
    (to_z-of_z w32 _ (record { sfits = c.divided.type_inv }) ∙ c.divided.ensures.value ∙ rw old refl)

pub returns : goal.returns
returns c x l = c.loop-x.invariant.done x (omega (arith, l))
