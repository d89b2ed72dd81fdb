use Rattle.std.proofs.Common.{◌≡◌, ◌+◌, ◌*◌, ◌≤◌, ℤ, List, slice_set, ap, arith, of_z, refl, rules, subst, sym, to_z, ◌∙◌}
use Rattle.std.specs.Int.{w32, w64}
use Rattle.std.proofs.lemmas.List.{length-set}
use Rattle.std.proofs.lemmas.Int.{to_z-of_z}
use Rattle.dirac_coeffs.specs.Contexts.{parent_of, value_above, value_in_corner, value_left_of}
use Rattle.std.proofs.lemmas.Nat.{mul-le}
use Rattle.dirac_arith.specs.Decoding.{reading_at}
use Rattle.dirac_arith.specs.Reading.{Reading}
use Rattle.dirac_arith.specs.Registers.{doublings_of}
use Rattle.dirac_coeffs.specs.Decisions.{frame_of}
use Rattle.dirac_coeffs.proofs.Carrying.{corner_next, half_same, left_next, value_put, value_stops}
use Rattle.dirac_coeffs.proofs.values.read_at.Goals as goal

pub above_value-above-requires-clause-column : goal.above_value-above-requires-clause-column
above_value-above-requires-clause-column c = c.requires.column

pub above_value-above-requires-clause-width : goal.above_value-above-requires-clause-width
above_value-above-requires-clause-width c = c.requires.width

pub above_value-above-requires-clause-row : goal.above_value-above-requires-clause-row
above_value-above-requires-clause-row c = c.requires.row

pub above_value-above-requires-clause-inside : goal.above_value-above-requires-clause-inside
above_value-above-requires-clause-inside c = c.requires.inside

pub parent_value-parent-requires-clause-column : goal.parent_value-parent-requires-clause-column
parent_value-parent-requires-clause-column c = c.requires.column

pub parent_value-parent-requires-clause-width : goal.parent_value-parent-requires-clause-width
parent_value-parent-requires-clause-width c = c.requires.width

pub parent_value-parent-requires-clause-row : goal.parent_value-parent-requires-clause-row
parent_value-parent-requires-clause-row c = c.requires.row

pub read_value-requires-clause-runs : goal.read_value-requires-clause-runs
read_value-requires-clause-runs c = c.requires.runs

pub read_value-requires-clause-no_overflow : goal.read_value-requires-clause-no_overflow
read_value-requires-clause-no_overflow c = c.requires.no_overflow

pub overflow_mul-half : goal.overflow_mul-half
overflow_mul-half c = omega (arith, c.requires.column, c.requires.width, mul-le c.args.at.row c.args.layout.width 8192 8192 (omega (arith, c.requires.row)) c.requires.width)

pub overflow_add-half : goal.overflow_add-half
overflow_add-half c = omega (arith, c.requires.column, c.requires.width, mul-le c.args.at.row c.args.layout.width 8192 8192 (omega (arith, c.requires.row)) c.requires.width)

pub bounds-values-at : goal.bounds-values-at
bounds-values-at c = omega (arith, c.requires.inside, c.requires.column)

pub resume-requires : goal.resume-requires
resume-requires c = record { runs = c.in-Ok.ensures.runs }

pub returns-then-kept-read : goal.returns-then-kept-read
returns-then-kept-read c =
    record {
      value = tt;
      runs = tt;
      few_doublings = tt;
      left = tt;
      corner = tt;
      len = length-set c.args.values.now _ _;
      refused = tt;
      few_then = subst (λ (r : Reading). r.at.doublings ≤ doublings_of c.args.place.left.registers + 702) (sym c.resume.ensures) c.in-Ok.ensures.few_doublings;
    }

pub returns-else-kept-read : goal.returns-else-kept-read
returns-else-kept-read c =
    let w = c.args.layout.width in
    let x = c.args.at.column in
    let y = c.args.at.row in
    let xs = c.args.values.now in
    let read = c.in-Ok.read in
    let above : to_z w64 (of_z w64 c.above_value-above.result) ≡ value_above w xs x y = to_z-of_z w64 _ (record { sfits = c.above_value-above.type_inv }) ∙ c.above_value-above.ensures in
    let parent : to_z w64 (of_z w64 c.parent_value-parent.result) ≡ parent_of w c.args.parent.now x y = to_z-of_z w64 _ (record { sfits = c.parent_value-parent.type_inv }) ∙ c.parent_value-parent.ensures in
    let half = c.lower_half-half.result in
    let from : to_z w64 (of_z w64 c.from-kept.result) ≡ c.from-kept.result = to_z-of_z w64 _ (record { sfits = c.from-kept.type_inv }) in
    let value : to_z w64 (of_z w64 read.value) ≡ read.value = search rules in
    let new = slice_set xs (y * w + x) (to_z w32 (of_z w32 half)) in
    let written : new ≡ slice_set xs (y * w + x) read.value =
    ap (λ (z : ℤ). slice_set xs (y * w + x) z) (half_same read.value half c.from-kept.result c.from-kept.ensures from value c.if-kept-read.false) in
    record {
      value =
          value_put (frame_of c.args.layout c.args.parent.now) x y xs new read.value (reading_at c.args.decoder.now c.args.place.left.registers) (reading_at c.read_value.new.decoder read.registers)
          (rw (sym c.requires.left, sym above, sym c.requires.corner, sym parent) c.in-Ok.ensures.read)
          written;
      runs = c.in-Ok.ensures.runs;
      few_doublings = c.in-Ok.ensures.few_doublings;
      left = subst (λ (l : List ℤ). read.value ≡ value_left_of w l (x + 1) y) (sym written) (left_next w xs x y (x + 1) read.value (omega (arith, c.requires.inside, c.requires.column)) refl);
      corner = subst (λ (l : List ℤ). to_z w64 (of_z w64 c.above_value-above.result) ≡ value_in_corner w l (x + 1) y) (sym written) (corner_next w xs x y (x + 1) read.value _ c.requires.column above refl);
      len = length-set c.args.values.now _ _;
      refused = tt;
      few_then = tt;
    }

pub returns-in-Err : goal.returns-in-Err
returns-in-Err c =
    let w = c.args.layout.width in
    let x = c.args.at.column in
    let y = c.args.at.row in
    let xs = c.args.values.now in
    let above : to_z w64 (of_z w64 c.above_value-above.result) ≡ value_above w xs x y = to_z-of_z w64 _ (record { sfits = c.above_value-above.type_inv }) ∙ c.above_value-above.ensures in
    let parent : to_z w64 (of_z w64 c.parent_value-parent.result) ≡ parent_of w c.args.parent.now x y = to_z-of_z w64 _ (record { sfits = c.parent_value-parent.type_inv }) ∙ c.parent_value-parent.ensures in
    record {
      value = tt;
      runs = tt;
      few_doublings = tt;
      left = tt;
      corner = tt;
      len = refl;
      refused =
          value_stops (frame_of c.args.layout c.args.parent.now) x y xs (reading_at c.args.decoder.now c.args.place.left.registers) c.in-Err.cause
          (rw (sym c.requires.left, sym above, sym c.requires.corner, sym parent) c.in-Err.ensures.refused);
      few_then = c.in-Err.ensures.few_then;
    }

pub overflow_cast-width : goal.overflow_cast-width
overflow_cast-width c = omega (arith, c.requires.width)
