use Rattle.std.proofs.Common.{◌≡◌, ◌*ℤ◌, pos, arith, ap, ◌∙◌}
use Rattle.dirac_common.specs.Table.{clamped_at}
use Rattle.dirac_upconvert.specs.HalfSamples.{half, half_at}
use Rattle.dirac_upconvert.proofs.Halves.{is_up, up_is, whole_samples}
use Rattle.dirac_upconvert.proofs.Phased.{phases_all}
use Rattle.dirac_upconvert.proofs.plane.upconvert.Goals as goal

pub invariant_of-result : goal.invariant_of-result
invariant_of-result c =
    let table : c.of_rows-table.result ≡ half c.args.plane.now =
    c.of_rows-table.ensures
    ∙ rw (c.width-width.ensures.value, c.height-height.ensures.value)
    (phases_all _ _ (half_at c.args.plane.now) c.in_ok-samples.samples.items (omega arith) (omega arith) (c.in_ok-samples.ensures).value) in
    is_up c.args.plane.now c.of_rows-table.result _ _ table c.width-width.ensures.value c.height-height.ensures.value (omega arith, c.requires.across) (omega arith, c.requires.down) c.requires.samples

pub returns-clause-value : goal.returns-clause-value
returns-clause-value c =
    let table : c.of_rows-table.result ≡ half c.args.plane.now =
    c.of_rows-table.ensures
    ∙ rw (c.width-width.ensures.value, c.height-height.ensures.value)
    (phases_all _ _ (half_at c.args.plane.now) c.in_ok-samples.samples.items (omega arith) (omega arith) (c.in_ok-samples.ensures).value) in
    up_is c.args.plane.now c.of_rows-table.result _ _ table c.width-width.ensures.value c.height-height.ensures.value

pub returns-clause-whole_positions : goal.returns-clause-whole_positions
returns-clause-whole_positions c x y =
    let table : c.of_rows-table.result ≡ half c.args.plane.now =
    c.of_rows-table.ensures
    ∙ rw (c.width-width.ensures.value, c.height-height.ensures.value)
    (phases_all _ _ (half_at c.args.plane.now) c.in_ok-samples.samples.items (omega arith) (omega arith) (c.in_ok-samples.ensures).value) in
    ap (λ t. clamped_at t (pos 2 *ℤ x) (pos 2 *ℤ y)) table ∙ whole_samples c.args.plane.now (omega arith) (omega arith) x y
