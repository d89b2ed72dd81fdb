use Rattle.std.proofs.Common.{◌≡◌, ◌+◌, ◌*◌, ◌≤◌, ◌&&◌, ◌∙◌, ℕ, Ok, arith, of_z, refl, rules, subst, sym, to_z, w64}
use Rattle.std.proofs.lemmas.Int.{to_z-of_z}
use Rattle.std.proofs.lemmas.List.{length-set}
use Rattle.std.proofs.lemmas.Nat.{mul-le}
use Rattle.dirac_arith.specs.Coded.{read_coded}
use Rattle.dirac_arith.specs.Spelling.{follow_at}
use Rattle.dirac_arith.proofs.CodedValues.{repeated_none, repeated_next, repeated_stops}
use Rattle.dirac_coeffs.specs.BandRead.{value_step, row_step}
use Rattle.dirac_coeffs.specs.Contexts.{bits_context, follow_among, is_zero, sign_neighbour, sign_of}
use Rattle.dirac_coeffs.specs.Decisions.{frame_of}
use Rattle.dirac_coeffs.specs.Lent.{numbers_in}
use Rattle.dirac_coeffs.proofs.Carrying.{number_read, value_put, value_stops}
use Rattle.dirac_coeffs.proofs.wide_values.read_wide_row.Goals as goal

pub values-init : goal.values-init
values-init c =
    record {
      value = repeated_none (λ i. value_step (frame_of c.args.layout (numbers_in c.args.parent)) (c.args.columns.start + i) c.args.y) c.args.values.now c.args.decoder.now;
      len = refl;
      few_doublings = omega arith;
    }

pub values-preserved : goal.values-preserved
values-preserved c =
    let few : c.signed.new.self.at.doublings ≤ c.args.decoder.now.at.doublings + 702 * (c.values.i + 1) = omega (arith, c.signed.ensures.few_doublings, c.values.invariant.few_doublings) in
    let f = frame_of c.args.layout (numbers_in c.args.parent) in
    let x = c.args.columns.start + c.values.i in
    let left : to_z w64 (of_z w64 c.left_value-left.result) ≡ c.left_value-left.result = to_z-of_z w64 _ (record { sfits = c.left_value-left.type_inv }) in
    let above : to_z w64 (of_z w64 c.above_value-above.result) ≡ c.above_value-above.result = to_z-of_z w64 _ (record { sfits = c.above_value-above.type_inv }) in
    let corner : to_z w64 (of_z w64 c.corner_value-corner.result) ≡ c.corner_value-corner.result = to_z-of_z w64 _ (record { sfits = c.corner_value-corner.type_inv }) in
    let parent : to_z w64 (of_z w64 c.parent_value-parent.result) ≡ c.parent_value-parent.result = to_z-of_z w64 _ (record { sfits = c.parent_value-parent.type_inv }) in
    let context : c.first_among-first.result ≡ follow_at (follow_among c.left_value-left.result c.above_value-above.result c.corner_value-corner.result c.parent_value-parent.result) 0 = rw (← parent, ← left, ← above, ← corner) c.first_among-first.ensures.value in
    let follow = c.follow_from-follow.ensures.value (is_zero c.parent_value-parent.result) (is_zero c.left_value-left.result && (is_zero c.above_value-above.result && is_zero c.corner_value-corner.result)) context in
    let sign : c.sign_context-sign.result ≡ sign_of (sign_neighbour c.args.layout.band c.left_value-left.result c.above_value-above.result) = rw (← left, ← above) c.sign_context-sign.ensures.exact in
    let value : to_z w64 (of_z w64 c.in-Ok.value) ≡ c.in-Ok.value = search rules in
    let read =
    value_put f x c.args.y c.values.values _ c.in-Ok.value c.values.decoder c.signed.new.self
    (rw (sym c.left_value-left.ensures, sym c.above_value-above.ensures, sym c.corner_value-corner.ensures, sym c.parent_value-parent.ensures) (number_read bits_context c.values.decoder follow sign c.in-Ok.ensures.read))
    (search rules) in
    record {
      value = repeated_next (λ i. value_step f (c.args.columns.start + i) c.args.y) c.values.i c.args.values.now c.args.decoder.now c.values.values c.values.decoder _ c.values.invariant.value read;
      len = length-set c.values.values _ _ ∙ c.values.invariant.len;
      few_doublings = few;
    }

pub returns-in-Err-clause-value : goal.returns-in-Err-clause-value
returns-in-Err-clause-value c =
    let f = frame_of c.args.layout (numbers_in c.args.parent) in
    let x = c.args.columns.start + c.values.i in
    let left : to_z w64 (of_z w64 c.left_value-left.result) ≡ c.left_value-left.result = to_z-of_z w64 _ (record { sfits = c.left_value-left.type_inv }) in
    let above : to_z w64 (of_z w64 c.above_value-above.result) ≡ c.above_value-above.result = to_z-of_z w64 _ (record { sfits = c.above_value-above.type_inv }) in
    let corner : to_z w64 (of_z w64 c.corner_value-corner.result) ≡ c.corner_value-corner.result = to_z-of_z w64 _ (record { sfits = c.corner_value-corner.type_inv }) in
    let parent : to_z w64 (of_z w64 c.parent_value-parent.result) ≡ c.parent_value-parent.result = to_z-of_z w64 _ (record { sfits = c.parent_value-parent.type_inv }) in
    let context : c.first_among-first.result ≡ follow_at (follow_among c.left_value-left.result c.above_value-above.result c.corner_value-corner.result c.parent_value-parent.result) 0 = rw (← parent, ← left, ← above, ← corner) c.first_among-first.ensures.value in
    let follow = c.follow_from-follow.ensures.value (is_zero c.parent_value-parent.result) (is_zero c.left_value-left.result && (is_zero c.above_value-above.result && is_zero c.corner_value-corner.result)) context in
    let sign : c.sign_context-sign.result ≡ sign_of (sign_neighbour c.args.layout.band c.left_value-left.result c.above_value-above.result) = rw (← left, ← above) c.sign_context-sign.ensures.exact in
    let refused =
    value_stops f x c.args.y c.values.values c.values.decoder c.in-Err.cause
    (rw (sym c.left_value-left.ensures, sym c.above_value-above.ensures, sym c.corner_value-corner.ensures, sym c.parent_value-parent.ensures) (number_read bits_context c.values.decoder follow sign c.in-Err.ensures.read)) in
    repeated_stops (λ i. value_step f (c.args.columns.start + i) c.args.y) c.values.i c.args.columns.length c.args.values.now c.args.decoder.now c.values.values c.values.decoder _ (omega arith) c.values.invariant.value refused

pub returns-in-Err-clause-len : goal.returns-in-Err-clause-len
returns-in-Err-clause-len c = c.values.invariant.len

pub returns-in-Err-clause-few_doublings : goal.returns-in-Err-clause-few_doublings
returns-in-Err-clause-few_doublings c = omega (arith, c.values.invariant.few_doublings, c.signed.ensures.few_doublings)

pub returns-clause-len : goal.returns-clause-len
returns-clause-len c = c.values.invariant.len

pub returns-clause-few_doublings : goal.returns-clause-few_doublings
returns-clause-few_doublings c = omega (arith, c.values.invariant.few_doublings)

pub returns-clause-value : goal.returns-clause-value
returns-clause-value c =
    let all : c.values.i ≡ c.args.columns.length = omega (arith, c.values.auto.i-end) in
    let P : ℕ → Type 0 = λ n. read_coded (row_step (frame_of c.args.layout (numbers_in c.args.parent)) c.args.y c.args.columns.start n c.args.values.now) c.args.decoder.now ≡ Ok (c.values.values, c.values.decoder) in
    subst P all c.values.invariant.value

pub signed-requires-clause-follow : goal.signed-requires-clause-follow
signed-requires-clause-follow c = c.follow_from-follow.ensures.contexts

pub signed-requires-clause-sign : goal.signed-requires-clause-sign
signed-requires-clause-sign c = c.sign_context-sign.ensures.context

pub signed-requires-clause-no_overflow : goal.signed-requires-clause-no_overflow
signed-requires-clause-no_overflow c = omega (arith, c.values.invariant.few_doublings, c.requires.no_overflow, c.requires.columns, c.requires.width)

pub overflow_add-x : goal.overflow_add-x
overflow_add-x c = omega (arith, c.requires.columns, c.requires.width)

pub overflow_mul-value : goal.overflow_mul-value
overflow_mul-value c = omega (arith, c.requires.columns, c.requires.width, mul-le c.args.y c.args.layout.width 8192 8192 (omega (arith, c.requires.row)) c.requires.width)

pub overflow_add-value : goal.overflow_add-value
overflow_add-value c = omega (arith, c.requires.columns, c.requires.width, mul-le c.args.y c.args.layout.width 8192 8192 (omega (arith, c.requires.row)) c.requires.width)

pub bounds-values-y : goal.bounds-values-y
bounds-values-y c = omega (arith, c.requires.inside, c.requires.columns, c.values.invariant.len)

pub left_value-left-requires-clause-column : goal.left_value-left-requires-clause-column
left_value-left-requires-clause-column c = omega (arith, c.requires.columns)

pub left_value-left-requires-clause-width : goal.left_value-left-requires-clause-width
left_value-left-requires-clause-width c = c.requires.width

pub left_value-left-requires-clause-row : goal.left_value-left-requires-clause-row
left_value-left-requires-clause-row c = c.requires.row

pub left_value-left-requires-clause-inside : goal.left_value-left-requires-clause-inside
left_value-left-requires-clause-inside c = omega (arith, c.requires.inside, c.values.invariant.len)

pub above_value-above-requires-clause-column : goal.above_value-above-requires-clause-column
above_value-above-requires-clause-column c = omega (arith, c.requires.columns)

pub above_value-above-requires-clause-width : goal.above_value-above-requires-clause-width
above_value-above-requires-clause-width c = c.requires.width

pub above_value-above-requires-clause-row : goal.above_value-above-requires-clause-row
above_value-above-requires-clause-row c = c.requires.row

pub above_value-above-requires-clause-inside : goal.above_value-above-requires-clause-inside
above_value-above-requires-clause-inside c = omega (arith, c.requires.inside, c.values.invariant.len)

pub corner_value-corner-requires-clause-column : goal.corner_value-corner-requires-clause-column
corner_value-corner-requires-clause-column c = omega (arith, c.requires.columns)

pub corner_value-corner-requires-clause-width : goal.corner_value-corner-requires-clause-width
corner_value-corner-requires-clause-width c = c.requires.width

pub corner_value-corner-requires-clause-row : goal.corner_value-corner-requires-clause-row
corner_value-corner-requires-clause-row c = c.requires.row

pub corner_value-corner-requires-clause-inside : goal.corner_value-corner-requires-clause-inside
corner_value-corner-requires-clause-inside c = omega (arith, c.requires.inside, c.values.invariant.len)

pub parent_value-parent-requires-clause-column : goal.parent_value-parent-requires-clause-column
parent_value-parent-requires-clause-column c = omega (arith, c.requires.columns)

pub parent_value-parent-requires-clause-width : goal.parent_value-parent-requires-clause-width
parent_value-parent-requires-clause-width c = c.requires.width

pub parent_value-parent-requires-clause-row : goal.parent_value-parent-requires-clause-row
parent_value-parent-requires-clause-row c = c.requires.row

pub overflow_cast-width : goal.overflow_cast-width
overflow_cast-width c = omega (arith, c.requires.width)
