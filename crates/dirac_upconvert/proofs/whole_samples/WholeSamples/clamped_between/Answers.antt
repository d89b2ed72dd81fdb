use Rattle.std.proofs.Common.{◌≡◌, ◌-◌, ◌*◌, arith, refl, ◌∙◌}
use Rattle.std.specs.Int.{w16, w64}
use Rattle.std.proofs.lemmas.Int.{to_z-of_z}
use Rattle.dirac_common.specs.Table.{clamped_to}
use Rattle.dirac_upconvert.proofs.Wholes.{nearest_half}
use Rattle.dirac_upconvert.proofs.whole_samples.WholeSamples.clamped_between.Goals as goal

pub returns-clause-value : goal.returns-clause-value
returns-clause-value c =
    let t = c.args.self.now in
    let column : c.nearest.result ≡ clamped_to c.args.x (2 * t.width - 1) = c.nearest.ensures.value ∙ rw (to_z-of_z w64 c.args.x c.ranges.x, c.width.ensures.value) refl in
    let row : c.nearest-2.result ≡ clamped_to c.args.y (2 * t.height - 1) = c.nearest-2.ensures.value ∙ rw (to_z-of_z w64 c.args.y c.ranges.y, c.height.ensures.value) refl in
    to_z-of_z w16 _ (record { sfits = c.between.type_inv }) ∙ c.between.ensures.value
    ∙ nearest_half t c.args.x c.args.y _ _ (omega (arith, c.width.ensures.value, c.width.ensures.at_least_1)) (omega (arith, c.height.ensures.value, c.height.ensures.at_least_1)) column row
