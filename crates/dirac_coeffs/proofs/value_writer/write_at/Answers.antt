use Rattle.std.proofs.lemmas.Nat.{mul-le}
use Rattle.std.proofs.Common.{◌≡◌, ℤ, pos, length, ◌+◌, ◌-◌, ◌*◌, ◌^◌, ◌<◌, ◌∙◌, of_z, refl, subst, sym, to_z, unsigned_abs, arith}
use Rattle.std.specs.Int.{w64}
use Rattle.std.proofs.lemmas.Int.{to_z-of_z}
use Rattle.dirac_common.specs.declared.formats.Band.{Band}
use Rattle.dirac_arith.specs.Interval.{Interval, narrowed_by}
use Rattle.dirac_coeffs.specs.Contexts.{value_spelling}
use Rattle.dirac_coeffs.specs.Lent.{numbers_in}
use Rattle.dirac_coeffs.proofs.Carrying.{corner_behind, left_behind}
use Rattle.dirac_coeffs.proofs.Edges.{rows_inside}
use Rattle.dirac_coeffs.proofs.value_writer.write_at.Goals as goal

pub returns-in-Ok-clause-left : goal.returns-in-Ok-clause-left
returns-in-Ok-clause-left c =
    let value : to_z w64 (of_z w64 c.number_at-value.result) ≡ c.number_at-value.result = to_z-of_z w64 _ (record { sfits = c.number_at-value.type_inv }) in
    value ∙ c.number_at-value.ensures ∙ left_behind c.args.band.layout.width (numbers_in c.args.band.values) c.args.x c.args.y (c.args.x + 1) refl

pub returns-in-Ok-clause-corner : goal.returns-in-Ok-clause-corner
returns-in-Ok-clause-corner c =
    let above : to_z w64 (of_z w64 c.above_value-above.result) ≡ c.above_value-above.result = to_z-of_z w64 _ (record { sfits = c.above_value-above.type_inv }) in
    above ∙ c.above_value-above.ensures ∙ corner_behind c.args.band.layout.width (numbers_in c.args.band.values) c.args.x c.args.y (c.args.x + 1) refl

pub above_value-above-requires-clause-column : goal.above_value-above-requires-clause-column
above_value-above-requires-clause-column c = c.requires.column

pub above_value-above-requires-clause-width : goal.above_value-above-requires-clause-width
above_value-above-requires-clause-width c = c.requires.writable.layout.width.1

pub above_value-above-requires-clause-row : goal.above_value-above-requires-clause-row
above_value-above-requires-clause-row c = omega (arith, c.requires.row, c.requires.writable.layout.height)

pub above_value-above-requires-clause-inside : goal.above_value-above-requires-clause-inside
above_value-above-requires-clause-inside c =
    let layout = c.args.band.layout in
    rows_inside (c.args.y + 1) layout.width layout.height (length (numbers_in c.args.band.values)) (omega (arith, c.requires.row)) c.requires.writable.len

pub parent_value-parent-requires-clause-column : goal.parent_value-parent-requires-clause-column
parent_value-parent-requires-clause-column c = c.requires.column

pub parent_value-parent-requires-clause-width : goal.parent_value-parent-requires-clause-width
parent_value-parent-requires-clause-width c = c.requires.writable.layout.width.1

pub parent_value-parent-requires-clause-row : goal.parent_value-parent-requires-clause-row
parent_value-parent-requires-clause-row c = omega (arith, c.requires.row, c.requires.writable.layout.height)

pub overflow_mul-y : goal.overflow_mul-y
overflow_mul-y c = omega (arith, c.requires.column, c.requires.writable.layout.width.1, mul-le c.args.y c.args.band.layout.width 8192 8192 (omega (arith, c.requires.row, c.requires.writable.layout.height)) c.requires.writable.layout.width.1)

pub overflow_add-y : goal.overflow_add-y
overflow_add-y c = omega (arith, c.requires.column, c.requires.writable.layout.width.1, mul-le c.args.y c.args.band.layout.width 8192 8192 (omega (arith, c.requires.row, c.requires.writable.layout.height)) c.requires.writable.layout.width.1)

pub number_at-value-requires : goal.number_at-value-requires
number_at-value-requires c =
    let layout = c.args.band.layout in
    let inside = rows_inside (c.args.y + 1) layout.width layout.height (length (numbers_in c.args.band.values)) (omega (arith, c.requires.row)) c.requires.writable.len in
    omega (arith, inside, c.requires.column)

pub write_value-requires : goal.write_value-requires
write_value-requires c =
    let layout = c.args.band.layout in
    let inside = rows_inside (c.args.y + 1) layout.width layout.height (length (numbers_in c.args.band.values)) (omega (arith, c.requires.row)) c.requires.writable.len in
    let value : to_z w64 (of_z w64 c.number_at-value.result) ≡ c.number_at-value.result = to_z-of_z w64 _ (record { sfits = c.number_at-value.type_inv }) in
    subst (λ (z : ℤ). unsigned_abs z < 2 ^ 39 - 1) (sym (value ∙ c.number_at-value.ensures)) (c.requires.writable.magnitudes_bounded (c.args.y * layout.width + c.args.x) (pos 0) (omega (arith, inside, c.requires.column)))

-- a value under other names of it and its neighbours
same_value : {l m a b c d p q v w : ℤ} (s : Interval) (band : Band) → l ≡ m → a ≡ b → c ≡ d → p ≡ q → v ≡ w → narrowed_by s (value_spelling band l a c p v) ≡ narrowed_by s (value_spelling band m b d q w)
same_value {l} {m} {a} {b} {c} {d} {p} {q} {v} {w} s band left above corner parent value = cc

pub returns-in-Ok-clause-written : goal.returns-in-Ok-clause-written
returns-in-Ok-clause-written c =
    let above : to_z w64 (of_z w64 c.above_value-above.result) ≡ c.above_value-above.result = to_z-of_z w64 _ (record { sfits = c.above_value-above.type_inv }) in
    let parent : to_z w64 (of_z w64 c.parent_value-parent.result) ≡ c.parent_value-parent.result = to_z-of_z w64 _ (record { sfits = c.parent_value-parent.type_inv }) in
    let value : to_z w64 (of_z w64 c.number_at-value.result) ≡ c.number_at-value.result = to_z-of_z w64 _ (record { sfits = c.number_at-value.type_inv }) in
    c.in-Ok.ensures ∙ same_value c.args.encoder.now c.args.band.layout.band c.requires.left (above ∙ c.above_value-above.ensures) c.requires.corner (parent ∙ c.parent_value-parent.ensures) (value ∙ c.number_at-value.ensures)

pub overflow_cast-width : goal.overflow_cast-width
overflow_cast-width c = omega (arith, c.requires.writable.layout.width.1)
