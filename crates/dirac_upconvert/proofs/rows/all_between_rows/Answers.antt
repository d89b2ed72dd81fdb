use Rattle.std.proofs.Common.{◌+◌, arith, refl, ◌∙◌}
use Rattle.std.specs.Int.{w16}
use Rattle.std.proofs.lemmas.Int.{to_z-of_z}
use Rattle.dirac_upconvert.specs.SubSamples.{between_sides}
use Rattle.dirac_upconvert.proofs.PartRows.{written_more}
use Rattle.dirac_upconvert.proofs.rows.all_between_rows.Goals as goal

pub loop-k-preserved : goal.loop-k-preserved
loop-k-preserved c =
    let r = c.args.rests in
    let s = c.args.sides in
    written_more (λ k. between_sides r.bits r.right r.below c.args.above.now c.args.under.now (s.left + k) (s.next + k)) _ c.loop-k.k _ _ c.loop-k.invariant (omega arith) refl
    (to_z-of_z w16 _ (record { sfits = c.between_rows.type_inv }) ∙ c.between_rows.ensures)
