use Rattle.std.proofs.Common.{◌≡◌, ◌-◌, to_z, of_z, arith, refl, ◌∙◌}
use Rattle.std.specs.Int.{w16, w64}
use Rattle.std.proofs.lemmas.Int.{to_z-of_z}
use Rattle.dirac_upconvert.specs.HalfSamples.{half}
use Rattle.dirac_upconvert.specs.SubSamples.{place_at}
use Rattle.dirac_upconvert.proofs.Wholes.{part_sub, whole_sub}
use Rattle.dirac_upconvert.proofs.plane.sample_alone.Goals as goal

pub returns-then-precision-eq0 : goal.returns-then-precision-eq0
returns-then-precision-eq0 c u e =
    to_z-of_z w16 _ (record { sfits = c.clamped.type_inv }) ∙ c.clamped.ensures.value ∙ rw (to_z-of_z w64 c.args.x c.ranges.x, to_z-of_z w64 c.args.y c.ranges.y) refl
    ∙ whole_sub u c.args.samples.now c.args.precision c.args.x c.args.y c.clamped.ensures.not_empty.0 c.clamped.ensures.not_empty.1 e c.if-precision-eq0.true

pub returns-else-precision-eq0 : goal.returns-else-precision-eq0
returns-else-precision-eq0 c u e =
    let x = to_z-of_z w64 c.args.x c.ranges.x in
    let y = to_z-of_z w64 c.args.y c.ranges.y in
    let r = c.rests_of.ensures in
    let across : to_z w64 (of_z w64 c.place.result) ≡ place_at c.args.x (c.from-bits.result - 1) = to_z-of_z w64 _ (record { sfits = c.place.type_inv }) ∙ c.place.ensures.value ∙ rw x refl in
    let down : to_z w64 (of_z w64 c.place-else-precision-eq0.result) ≡ place_at c.args.y (c.from-bits.result - 1) = to_z-of_z w64 _ (record { sfits = c.place-else-precision-eq0.type_inv }) ∙ c.place-else-precision-eq0.ensures.value ∙ rw y refl in
    to_z-of_z w16 _ (record { sfits = c.part.type_inv }) ∙ c.part.ensures
    ∙ part_sub u (half c.args.samples.now) c.args.precision (c.from-bits.result - 1) c.args.x c.args.y c.rests_of.result _ _ e (omega (arith, c.from-bits.ensures, c.if-precision-eq0.false)) r.bits (r.right ∙ rw x refl) (r.below ∙ rw y refl) across down
