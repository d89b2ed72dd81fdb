use Rattle.std.proofs.Common.{◌≡◌, ◌+ℤ◌, ◌*◌, pos, to_z, of_z, arith, refl, ◌∙◌}
use Rattle.std.specs.Int.{w16, w64}
use Rattle.std.proofs.lemmas.Int.{to_z-of_z}
use Rattle.dirac_common.specs.Table.{clamped_at}
use Rattle.dirac_upconvert.proofs.PartRows.{places_told, written_more}
use Rattle.dirac_upconvert.proofs.rows.clamped_places.Goals as goal

pub loop-k-preserved : goal.loop-k-preserved
loop-k-preserved c =
    let across : to_z w64 (of_z w64 c.ahead.result) ≡ to_z w64 (of_z w64 c.args.across) +ℤ pos (2 * c.loop-k.k) = to_z-of_z w64 _ (record { sfits = c.ahead.type_inv }) ∙ c.ahead.ensures.value in
    written_more (λ k. clamped_at c.args.table.now (to_z w64 (of_z w64 c.args.across) +ℤ pos (2 * k)) (to_z w64 (of_z w64 c.args.down))) _ c.loop-k.k _ _ c.loop-k.invariant (omega arith) refl
    (to_z-of_z w16 _ (record { sfits = c.clamped.type_inv }) ∙ c.clamped.ensures.value ∙ rw across refl)

pub returns : goal.returns
returns c =
    places_told c.args.table.now _ _ _ _ _ c.loop-k.k c.loop-k.invariant (omega arith) (to_z-of_z w64 c.args.across c.ranges.across) (to_z-of_z w64 c.args.down c.ranges.down)
