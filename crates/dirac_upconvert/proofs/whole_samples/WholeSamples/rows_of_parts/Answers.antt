use Rattle.std.proofs.Common.{◌≡◌, ◌+ℤ◌, ◌*◌, ◌/◌, ◌%◌, pos, to_z, of_z, arith, refl, ◌∙◌}
use Rattle.std.specs.Int.{w16, w64}
use Rattle.std.proofs.lemmas.Int.{to_z-of_z}
use Rattle.dirac_upconvert.specs.HalfSamples.{half}
use Rattle.dirac_upconvert.specs.Positions.{sample_from}
use Rattle.dirac_upconvert.proofs.Lanes.{plain_place}
use Rattle.dirac_upconvert.proofs.PartRows.{written_more}
use Rattle.dirac_upconvert.proofs.whole_samples.WholeSamples.rows_of_parts.Goals as goal

pub loop-n-preserved : goal.loop-n-preserved
loop-n-preserved c =
    let p = c.args.from in
    let n = c.loop-n.n in
    let right = plain_place p.across (omega (arith, c.requires.from.1)) in
    let under = plain_place p.down (omega (arith, c.requires.from.2)) in
    let across : to_z w64 (of_z w64 c.ahead-across.result) ≡ p.across +ℤ pos (2 * (n % c.args.width)) = to_z-of_z w64 _ (record { sfits = c.ahead-across.type_inv }) ∙ c.ahead-across.ensures.value ∙ rw right refl in
    let down : to_z w64 (of_z w64 c.ahead-down.result) ≡ p.down +ℤ pos (2 * (n / c.args.width)) = to_z-of_z w64 _ (record { sfits = c.ahead-down.type_inv }) ∙ c.ahead-down.ensures.value ∙ rw under refl in
    written_more (λ k. sample_from (half c.args.self.now) p (k % c.args.width) (k / c.args.width)) _ n _ _ c.loop-n.invariant (omega arith) refl
    (to_z-of_z w16 _ (record { sfits = c.part.type_inv }) ∙ c.part.ensures ∙ rw (across, down) refl)
