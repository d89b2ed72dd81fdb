use Rattle.std.proofs.Common.{◌≡◌, ◌+◌, ◌-◌, ◌*◌, ◌≤◌, ◌<◌, ℕ, length, get_or, pos, arith, refl, ap, subst, ◌∙◌}
use Rattle.std.specs.Int.{w64}
use Rattle.std.specs.List.{slice_range}
use Rattle.std.proofs.lemmas.Int.{to_z-of_z}
use Rattle.std.proofs.lemmas.Nat.{row_fits}
use Rattle.dirac_common.specs.Table.{Table, clamped_to, table_at}
use Rattle.dirac_upconvert.specs.Phases.{place_in_row, table_of_phases}
use Rattle.dirac_upconvert.proofs.Lanes.{part_length}
use Rattle.dirac_upconvert.proofs.Phased.{held_row}
use Rattle.dirac_upconvert.proofs.phases.Phases.nearest_row.Goals as goal

pub returns-clause-value : goal.returns-clause-value
returns-clause-value c =
    let columns = c.self.inside.columns in
    let rows = c.self.inside.rows in
    let samples = c.deref.result.now in
    let y = c.nearest.result in
    let start = y * (2 * columns) in
    let end = y * (2 * columns) + 2 * columns in
    let fits : end ≤ length samples = omega (arith, row_fits y (2 * columns) (2 * rows - 1) (2 * columns) c.nearest.ensures.inside (omega arith), c.self.invariant.0, ap length c.deref.ensures.value) in
    let len : length (slice_range samples start end) ≡ 2 * columns = omega (arith, part_length samples start end fits) in
    let near : y ≡ clamped_to c.args.y (2 * rows - 1) = c.nearest.ensures.value ∙ rw (to_z-of_z w64 c.args.y c.ranges.y) refl in
    subst (λ (t : Table). (x : ℕ) → x < t.width → get_or (slice_range samples start end) (place_in_row (length (slice_range samples start end)) x) (pos 0) ≡ table_at t x (clamped_to c.args.y t.height)) c.self.view_is
    (λ x l. ap (λ n. get_or (slice_range samples start end) (place_in_row n x) (pos 0)) len
    ∙ held_row columns rows y start end x samples l c.nearest.ensures.inside refl refl fits
    ∙ ap (λ ss. table_at (table_of_phases columns rows ss) x y) c.deref.ensures.value
    ∙ ap (table_at (table_of_phases columns rows c.self.inside.samples.items) x) near)
