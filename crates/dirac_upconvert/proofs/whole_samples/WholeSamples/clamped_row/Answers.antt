use Rattle.std.proofs.Common.{◌≡◌, ◌+ℤ◌, pos, to_z, of_z, arith, refl, ◌∙◌}
use Rattle.std.specs.Int.{w16, w64}
use Rattle.std.proofs.lemmas.Int.{to_z-of_z}
use Rattle.dirac_common.specs.Table.{clamped_at}
use Rattle.dirac_upconvert.proofs.PartRows.{written_more}
use Rattle.dirac_upconvert.proofs.whole_samples.WholeSamples.clamped_row.Goals as goal

pub loop-k-preserved : goal.loop-k-preserved
loop-k-preserved c =
    let x : to_z w64 (of_z w64 c.further.result) ≡ to_z w64 (of_z w64 c.args.x) +ℤ pos c.loop-k.k = to_z-of_z w64 _ (record { sfits = c.further.type_inv }) ∙ c.further.ensures in
    written_more (λ k. clamped_at c.args.self.now (to_z w64 (of_z w64 c.args.x) +ℤ pos k) (to_z w64 (of_z w64 c.args.y))) _ c.loop-k.k _ _ c.loop-k.invariant (omega arith) refl
    (to_z-of_z w16 _ (record { sfits = c.clamped.type_inv }) ∙ c.clamped.ensures.value ∙ rw x refl)

pub returns : goal.returns
returns c k l =
    c.loop-k.invariant k (omega (arith, l, c.loop-k.auto.out, c.loop-k-test.false))
    ∙ rw (to_z-of_z w64 c.args.x c.ranges.x, to_z-of_z w64 c.args.y c.ranges.y) refl
