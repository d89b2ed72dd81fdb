use Rattle.std.proofs.Common.{◌-◌, arith, refl, ◌∙◌}
use Rattle.std.specs.Int.{w64}
use Rattle.std.proofs.lemmas.Int.{to_z-of_z}
use Rattle.dirac_upconvert.proofs.SampleRows.{from_part, from_place}
use Rattle.dirac_upconvert.proofs.plane.position_of.Goals as goal

pub returns-then-precision-eq0-clause-samples : goal.returns-then-precision-eq0-clause-samples
returns-then-precision-eq0-clause-samples c u j k =
    let p = c.whole_position.ensures in
    let x = to_z-of_z w64 c.args.x c.ranges.x in
    let y = to_z-of_z w64 c.args.y c.ranges.y in
    from_place u c.args.precision c.args.x c.args.y c.whole_position.result j k c.if-precision-eq0.true p.bits p.right p.below (p.across ∙ rw x refl) (p.down ∙ rw y refl)

pub returns-else-precision-eq0-clause-samples : goal.returns-else-precision-eq0-clause-samples
returns-else-precision-eq0-clause-samples c u j k =
    let p = c.part_position.ensures in
    let x = to_z-of_z w64 c.args.x c.ranges.x in
    let y = to_z-of_z w64 c.args.y c.ranges.y in
    from_part u c.args.precision (c.from.result - 1) c.args.x c.args.y c.part_position.result j k (omega (arith, c.from.ensures, c.requires.precision)) (omega (arith, c.from.ensures, c.if-precision-eq0.false))
    p.bits (p.right ∙ rw x refl) (p.below ∙ rw y refl) (p.across ∙ rw x refl) (p.down ∙ rw y refl)
