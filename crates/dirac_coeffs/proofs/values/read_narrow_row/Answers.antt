use Rattle.std.proofs.Common.{◌≡◌, ◌+◌, ◌∙◌, ℕ, ℤ, List, Result, Ok, Err, arith, ap, refl, subst, sym}
use Rattle.std.specs.Prelude.{⊤}
use Rattle.std.specs.Int.{w64}
use Rattle.std.proofs.lemmas.Int.{to_z-of_z}
use Rattle.dirac_common.specs.declared.faults.Cause.{Cause}
use Rattle.dirac_common.specs.declared.faults.Cause.TheVariants as cause
use Rattle.dirac_arith.specs.Coded.{Coded, read_coded}
use Rattle.dirac_arith.specs.Decoding.{reading_at}
use Rattle.dirac_arith.specs.Front.{front}
use Rattle.dirac_arith.specs.Reading.{Reading}
use Rattle.dirac_arith.proofs.CodedValues.{repeated_none, repeated_next, repeated_stops}
use Rattle.dirac_arith.proofs.Decidings.{signed_is_shut}
use Rattle.dirac_coeffs.specs.BandRead.{value_step, row_step}
use Rattle.dirac_coeffs.specs.Contexts.{bits_context, value_in_corner, value_left_of}
use Rattle.dirac_coeffs.specs.Decisions.{Frame, frame_of, follow_here, sign_here}
use Rattle.dirac_coeffs.proofs.Steps.{repeated_unread}
use Rattle.dirac_coeffs.proofs.values.read_narrow_row.Goals as goal

-- a block that begins with sixteen ones has no value
value_refused : (f : Frame) (x y : ℕ) (xs : List ℤ) (r : Reading) → front r.block 16 ≡ 0xFFFF → read_coded (value_step f x y xs) r ≡ Err cause.CodeWord
unfolding value_step
value_refused f x y xs r ones = rw (signed_is_shut (follow_here f xs x y) bits_context (sign_here f xs x y) r ones) refl

pub returns-then-columns-eq0-clause-value : goal.returns-then-columns-eq0-clause-value
returns-then-columns-eq0-clause-value c =
    rw c.if-columns-eq0.true
    (repeated_none (λ i. value_step (frame_of c.args.layout c.args.parent.now) (c.args.columns.start + i) c.args.y) c.args.values.now c.args.decoder.now)

pub returns-then-is_refused-clause-value : goal.returns-then-is_refused-clause-value
returns-then-is_refused-clause-value c =
    let f = frame_of c.args.layout c.args.parent.now in
    let xs = c.args.values.now in
    let r = c.args.decoder.now in
    let step : ℕ → List ℤ → Coded (List ℤ) = λ i. value_step f (c.args.columns.start + i) c.args.y in
    repeated_stops step 0 c.args.columns.length xs r xs r cause.CodeWord (omega arith) (repeated_none step xs r)
    (value_refused f (c.args.columns.start + 0) c.args.y xs r (c.is_refused.ensures.refused c.if-is_refused.true))

pub returns-in-Err-clause-value : goal.returns-in-Err-clause-value
returns-in-Err-clause-value c =
    repeated_unread ⊤ (λ i. value_step (frame_of c.args.layout c.args.parent.now) (c.args.columns.start + i) c.args.y) c.values.i c.args.columns.length c.args.values.now c.args.decoder.now c.values.values (reading_at c.values.decoder c.values.place.left.registers) c.in-Err.unread (omega arith) c.values.invariant.value c.in-Err.ensures.refused

pub returns-in-Err-clause-few_doublings : goal.returns-in-Err-clause-few_doublings
returns-in-Err-clause-few_doublings c = omega (arith, c.values.invariant.few_doublings, c.in-Err.ensures.few_then)

pub returns-clause-value : goal.returns-clause-value
returns-clause-value c =
    let all : c.values.i ≡ c.args.columns.length = omega (arith, c.values.auto.i-end) in
    let P : ℕ → Type 0 = λ n. read_coded (row_step (frame_of c.args.layout c.args.parent.now) c.args.y c.args.columns.start n c.args.values.now) c.args.decoder.now ≡ Ok (c.values.values, c.resume.new.self) in
    subst P all (rw c.resume.ensures c.values.invariant.value)

pub returns-clause-few_doublings : goal.returns-clause-few_doublings
returns-clause-few_doublings c = omega (arith, c.values.invariant.few_doublings, ap (λ (r : Reading). r.at.doublings) c.resume.ensures)

pub returns-then-columns-eq0-clause-len : goal.returns-then-columns-eq0-clause-len
returns-then-columns-eq0-clause-len c = refl

pub returns-then-columns-eq0-clause-few_doublings : goal.returns-then-columns-eq0-clause-few_doublings
returns-then-columns-eq0-clause-few_doublings c = omega arith

pub returns-then-is_refused-clause-len : goal.returns-then-is_refused-clause-len
returns-then-is_refused-clause-len c = refl

pub returns-then-is_refused-clause-few_doublings : goal.returns-then-is_refused-clause-few_doublings
returns-then-is_refused-clause-few_doublings c = omega arith

pub overflow_add-at : goal.overflow_add-at
overflow_add-at c = omega (arith, c.requires.columns, c.requires.width)

pub read_at-requires-clause-runs : goal.read_at-requires-clause-runs
read_at-requires-clause-runs c = c.values.invariant.runs

pub read_at-requires-clause-column : goal.read_at-requires-clause-column
read_at-requires-clause-column c = omega (arith, c.requires.columns)

pub read_at-requires-clause-width : goal.read_at-requires-clause-width
read_at-requires-clause-width c = c.requires.width

pub read_at-requires-clause-row : goal.read_at-requires-clause-row
read_at-requires-clause-row c = c.requires.row

pub read_at-requires-clause-inside : goal.read_at-requires-clause-inside
read_at-requires-clause-inside c = omega (arith, c.requires.inside, c.values.invariant.len)

pub read_at-requires-clause-no_overflow : goal.read_at-requires-clause-no_overflow
read_at-requires-clause-no_overflow c = omega (arith, c.values.invariant.few_doublings, c.requires.no_overflow, c.requires.columns, c.requires.width)

pub returns-in-Err-clause-len : goal.returns-in-Err-clause-len
returns-in-Err-clause-len c = c.read_at.ensures.len ∙ c.values.invariant.len

pub resume-requires : goal.resume-requires
resume-requires c = record { runs = c.values.invariant.runs }

pub returns-clause-len : goal.returns-clause-len
returns-clause-len c = c.values.invariant.len

pub left_value-value-requires-clause-column : goal.left_value-value-requires-clause-column
left_value-value-requires-clause-column c = omega (arith, c.requires.columns)

pub left_value-value-requires-clause-width : goal.left_value-value-requires-clause-width
left_value-value-requires-clause-width c = c.requires.width

pub left_value-value-requires-clause-row : goal.left_value-value-requires-clause-row
left_value-value-requires-clause-row c = c.requires.row

pub left_value-value-requires-clause-inside : goal.left_value-value-requires-clause-inside
left_value-value-requires-clause-inside c = c.requires.inside

pub corner_value-corner-requires-clause-column : goal.corner_value-corner-requires-clause-column
corner_value-corner-requires-clause-column c = omega (arith, c.requires.columns)

pub corner_value-corner-requires-clause-width : goal.corner_value-corner-requires-clause-width
corner_value-corner-requires-clause-width c = c.requires.width

pub corner_value-corner-requires-clause-row : goal.corner_value-corner-requires-clause-row
corner_value-corner-requires-clause-row c = c.requires.row

pub corner_value-corner-requires-clause-inside : goal.corner_value-corner-requires-clause-inside
corner_value-corner-requires-clause-inside c = c.requires.inside

pub registers-registers-requires : goal.registers-registers-requires
registers-registers-requires c = record { not_refused = c.is_refused.ensures.not_refused c.if-is_refused.false }

pub values-init : goal.values-init
values-init c =
    let same : c.args.columns.start ≡ c.args.columns.start + 0 = omega arith in
    let here = c.registers-registers.ensures in
    record {
      value =
          repeated_none (λ i. value_step (frame_of c.args.layout c.args.parent.now) (c.args.columns.start + i) c.args.y) c.args.values.now c.args.decoder.now
          ∙ ap (λ (r : Reading). let x : Result (List ℤ × Reading) Cause = Ok (c.args.values.now, r) in x) (sym here.stands);
      runs = here.runs;
      len = refl;
      few_doublings = omega (arith, ap (λ (r : Reading). r.at.doublings) here.stands);
      left = to_z-of_z w64 _ (record { sfits = c.left_value-value.type_inv }) ∙ c.left_value-value.ensures ∙ ap (λ x. value_left_of c.args.layout.width c.args.values.now x c.args.y) same;
      corner = to_z-of_z w64 _ (record { sfits = c.corner_value-corner.type_inv }) ∙ c.corner_value-corner.ensures ∙ ap (λ x. value_in_corner c.args.layout.width c.args.values.now x c.args.y) same;
    }

pub values-preserved : goal.values-preserved
values-preserved c =
    let next : c.args.columns.start + c.values.i + 1 ≡ c.args.columns.start + (c.values.i + 1) = omega arith in
    record {
      value =
          repeated_next (λ i. value_step (frame_of c.args.layout c.args.parent.now) (c.args.columns.start + i) c.args.y) c.values.i c.args.values.now c.args.decoder.now c.values.values (reading_at c.values.decoder c.values.place.left.registers) _ c.values.invariant.value c.in-Ok.ensures.value;
      runs = c.in-Ok.ensures.runs;
      len = c.read_at.ensures.len ∙ c.values.invariant.len;
      few_doublings = omega (arith, c.values.invariant.few_doublings, c.in-Ok.ensures.few_doublings);
      left = c.in-Ok.ensures.left ∙ ap (λ x. value_left_of c.args.layout.width c.read_at.new.values x c.args.y) next;
      corner = c.in-Ok.ensures.corner ∙ ap (λ x. value_in_corner c.args.layout.width c.read_at.new.values x c.args.y) next;
    }

pub read_at-requires-clause-left : goal.read_at-requires-clause-left
read_at-requires-clause-left c = c.values.invariant.left

pub read_at-requires-clause-corner : goal.read_at-requires-clause-corner
read_at-requires-clause-corner c = c.values.invariant.corner

pub overflow_cast-width : goal.overflow_cast-width
overflow_cast-width c = omega (arith, c.requires.width)
