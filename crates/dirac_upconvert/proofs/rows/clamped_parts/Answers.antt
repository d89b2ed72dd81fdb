use Rattle.std.proofs.Common.{◌≡◌, ◌+ℤ◌, ◌*◌, ◌^◌, pos, to_z, of_z, arith, refl, ◌∙◌}
use Rattle.std.specs.Int.{w16, w64}
use Rattle.std.proofs.lemmas.Int.{to_z-of_z}
use Rattle.dirac_upconvert.specs.SubSamples.{bilinear, rounded}
use Rattle.dirac_upconvert.proofs.Lanes.{plain_place}
use Rattle.dirac_upconvert.proofs.PartRows.{written_more}
use Rattle.dirac_upconvert.proofs.rows.clamped_parts.Goals as goal

pub loop-k-preserved : goal.loop-k-preserved
loop-k-preserved c =
    let p = c.args.from in
    let right = plain_place p.across (omega (arith, c.requires.from.1)) in
    let down = plain_place p.down c.requires.from.2 in
    let across : to_z w64 (of_z w64 c.ahead.result) ≡ p.across +ℤ pos (2 * c.loop-k.k) = to_z-of_z w64 _ (record { sfits = c.ahead.type_inv }) ∙ c.ahead.ensures.value ∙ rw right refl in
    written_more (λ k. rounded (2 * p.rests.bits) (bilinear c.args.table.now (2 ^ p.rests.bits) (p.across +ℤ pos (2 * k)) p.down p.rests.right p.rests.below)) _ c.loop-k.k _ _ c.loop-k.invariant (omega arith) refl
    (to_z-of_z w16 _ (record { sfits = c.clamped_part.type_inv }) ∙ c.clamped_part.ensures ∙ rw (across, down) refl)
