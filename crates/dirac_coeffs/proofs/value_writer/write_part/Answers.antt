use Rattle.dirac_arith.specs.Interval.{narrowed_by}
use Rattle.std.proofs.Common.{◌≡◌, ◌+◌, ◌∙◌, length, ap, arith, of_z, refl, to_z, ℕ, subst}
use Rattle.std.specs.Int.{w64}
use Rattle.std.proofs.lemmas.Int.{to_z-of_z}
use Rattle.dirac_arith.proofs.Spellings.{narrowed_more}
use Rattle.dirac_coeffs.specs.Contexts.{value_in_corner, value_left_of}
use Rattle.dirac_coeffs.specs.Decisions.{value_part, row_part}
use Rattle.dirac_coeffs.specs.Lent.{numbers_in}
use Rattle.dirac_coeffs.specs.WrittenBand.{frame_in}
use Rattle.dirac_coeffs.proofs.Agreement.{row_next}
use Rattle.dirac_coeffs.proofs.Edges.{rows_inside}
use Rattle.dirac_coeffs.proofs.value_writer.write_part.Goals as goal

pub values-init : goal.values-init
unfolding row_part
values-init c =
    let w = c.args.band.layout.width in
    let xs = numbers_in c.args.band.values in
    let same : c.args.columns.start ≡ c.args.columns.start + 0 = omega arith in
    let left : to_z w64 (of_z w64 c.left_value-left.result) ≡ c.left_value-left.result = to_z-of_z w64 _ (record { sfits = c.left_value-left.type_inv }) in
    let corner : to_z w64 (of_z w64 c.corner_value-corner.result) ≡ c.corner_value-corner.result = to_z-of_z w64 _ (record { sfits = c.corner_value-corner.type_inv }) in
    record {
      written = refl;
      left = left ∙ c.left_value-left.ensures ∙ ap (λ x. value_left_of w xs x c.args.y) same;
      corner = corner ∙ c.corner_value-corner.ensures ∙ ap (λ x. value_in_corner w xs x c.args.y) same;
    }

pub values-preserved : goal.values-preserved
values-preserved c =
    let f = frame_in c.args.band in
    let w = c.args.band.layout.width in
    let xs = numbers_in c.args.band.values in
    let from = c.args.columns.start in
    let y = c.args.y in
    let i = c.values.i in
    let next : from + i + 1 ≡ from + (i + 1) = omega arith in
    let done = c.in-Ok.ensures in
    record {
      written = narrowed_more _ _ _ (row_part f xs y from i) (value_part f xs (from + i) y) _ c.values.invariant.written done.written (row_next f xs y from i);
      left = done.left ∙ ap (λ x. value_left_of w xs x y) next;
      corner = done.corner ∙ ap (λ x. value_in_corner w xs x y) next;
    }

pub left_value-left-requires-clause-column : goal.left_value-left-requires-clause-column
left_value-left-requires-clause-column c = omega (arith, c.requires.columns)

pub left_value-left-requires-clause-width : goal.left_value-left-requires-clause-width
left_value-left-requires-clause-width c = c.requires.writable.layout.width.1

pub left_value-left-requires-clause-row : goal.left_value-left-requires-clause-row
left_value-left-requires-clause-row c = omega (arith, c.requires.row, c.requires.writable.layout.height)

pub left_value-left-requires-clause-inside : goal.left_value-left-requires-clause-inside
left_value-left-requires-clause-inside c =
    let layout = c.args.band.layout in
    rows_inside (c.args.y + 1) layout.width layout.height (length (numbers_in c.args.band.values)) (omega (arith, c.requires.row)) c.requires.writable.len

pub corner_value-corner-requires-clause-column : goal.corner_value-corner-requires-clause-column
corner_value-corner-requires-clause-column c = omega (arith, c.requires.columns)

pub corner_value-corner-requires-clause-width : goal.corner_value-corner-requires-clause-width
corner_value-corner-requires-clause-width c = c.requires.writable.layout.width.1

pub corner_value-corner-requires-clause-row : goal.corner_value-corner-requires-clause-row
corner_value-corner-requires-clause-row c = omega (arith, c.requires.row, c.requires.writable.layout.height)

pub corner_value-corner-requires-clause-inside : goal.corner_value-corner-requires-clause-inside
corner_value-corner-requires-clause-inside c =
    let layout = c.args.band.layout in
    rows_inside (c.args.y + 1) layout.width layout.height (length (numbers_in c.args.band.values)) (omega (arith, c.requires.row)) c.requires.writable.len

pub overflow_add-columns : goal.overflow_add-columns
overflow_add-columns c = omega (arith, c.requires.columns, c.requires.writable.layout.width.1)

pub write_at-requires-clause-column : goal.write_at-requires-clause-column
write_at-requires-clause-column c = omega (arith, c.requires.columns)

pub write_at-requires-clause-writable : goal.write_at-requires-clause-writable
write_at-requires-clause-writable c = c.requires.writable

pub write_at-requires-clause-row : goal.write_at-requires-clause-row
write_at-requires-clause-row c = c.requires.row

pub write_at-requires-clause-left : goal.write_at-requires-clause-left
write_at-requires-clause-left c = c.values.invariant.left

pub write_at-requires-clause-corner : goal.write_at-requires-clause-corner
write_at-requires-clause-corner c = c.values.invariant.corner

pub overflow_cast-width : goal.overflow_cast-width
overflow_cast-width c = omega (arith, c.requires.writable.layout.width.1)

pub returns : goal.returns
returns c =
    let all : c.values.i ≡ c.args.columns.length = omega (arith, c.values.auto.i-end) in
    let P : ℕ → Type 0 = λ n. c.values.encoder ≡ narrowed_by c.args.encoder.now (row_part (frame_in c.args.band) (numbers_in c.args.band.values) c.args.y c.args.columns.start n) in
    subst P all c.values.invariant.written
