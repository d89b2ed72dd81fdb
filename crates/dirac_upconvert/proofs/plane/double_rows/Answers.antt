use Rattle.std.proofs.Common.{◌≡◌, ◌+◌, ◌-◌, ◌*◌, ◌++◌, length, get_or, pos, arith, ap, sym, ◌∙◌}
use Rattle.std.proofs.lemmas.List.{length-append, take_at}
use Rattle.std.proofs.Math.Nat.{suc-mul}
use Rattle.dirac_upconvert.specs.HalfSamples.{half_at}
use Rattle.dirac_upconvert.specs.Phases.{phase_at, place_in_row}
use Rattle.dirac_upconvert.proofs.Phased.{phases_more}
use Rattle.dirac_upconvert.proofs.plane.double_rows.Goals as goal

pub loop-y-init : goal.loop-y-init
loop-y-init c = (
  (c.in_ok-line.ensures).len ∙ c.width-2.ensures.value,
  (c.in_ok-row.ensures).len ∙ ap (λ n. 2 * n) c.width.ensures.value,
  ap length (c.in_ok-samples.ensures).items ∙ omega arith,
  λ x y a l. absurd (omega (arith, l)),
)

pub loop-y-preserved : goal.loop-y-preserved
loop-y-preserved c =
    let w = c.args.plane.now.width in
    let y = c.loop-y.y in
    let row = c.double_row.new.out in
    let held : length c.as_mut_slice-in-loop-y.result.now ≡ 2 * w = c.as_mut_slice-in-loop-y.ensures.len ∙ c.loop-y.invariant.1 in
    let row_len : length row ≡ 2 * w = c.double_row.auto.out ∙ held in
    let row_whole = take_at row _ _ (c.double_row.auto.out ∙ c.as_mut_slice-in-loop-y.ensures.len) in
    let appended : c.extend_from_slice.new.self.items ≡ c.loop-y.samples.items ++ row =
    (c.in_ok-extend_from_slice.ensures).items ∙ ap (λ r. c.loop-y.samples.items ++ r) (c.as_slice.ensures.value ∙ row_whole) in (
      c.loop-y.invariant.0,
      c.loop-y.invariant.1,
      ap length appended ∙ omega (arith, length-append c.loop-y.samples.items row, c.loop-y.invariant.2, row_len, suc-mul y (2 * w)),
      λ x j a l. ap (λ s. phase_at w s x j) appended
          ∙ phases_more w y (y + 1) (half_at c.args.plane.now) c.loop-y.samples.items row c.loop-y.invariant.3 c.loop-y.invariant.2 (omega arith)
          (λ i b. ap (λ n. get_or row (place_in_row n i) (pos 0)) (sym held) ∙ c.double_row.ensures i (omega (arith, b, held))) x j a l,
    )

pub returns-clause-len : goal.returns-clause-len
returns-clause-len c =
    let all : c.loop-y.y ≡ 2 * c.args.plane.now.height - 1 = omega (arith, c.loop-y-test.false, c.loop-y.auto.y-end, c.height.ensures.value) in
    c.loop-y.invariant.2 ∙ ap (λ n. n * (2 * c.args.plane.now.width)) all

pub returns-clause-value : goal.returns-clause-value
returns-clause-value c x y a l = c.loop-y.invariant.3 x y a (omega (arith, l, c.loop-y-test.false, c.height.ensures.value))
