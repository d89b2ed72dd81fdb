use Rattle.std.proofs.Common.{◌≡◌, ◌+◌, ◌-◌, ◌*◌, ◌/◌, ◌%◌, length, arith, refl, ap, ◌∙◌}
use Rattle.std.proofs.Math.Nat.{mul_comm, zero-mul}
use Rattle.std.proofs.lemmas.List.Edits.{length-between}
use Rattle.std.proofs.lemmas.Nat.{mul-le}
use Rattle.dirac_obmc.specs.Compensation.{predicted_at}
use Rattle.dirac_obmc.specs.Given.{compensation_of}
use Rattle.dirac_obmc.proofs.StripRows.{IsStrip, rows_written_more, strip_is, told_down, zeros_between}
use Rattle.dirac_obmc.proofs.rows.predict_lines.Goals as goal

pub loop-n-init : goal.loop-n-init
loop-n-init c = record {
  room_fits = c.requires.room_fits;
  rows = record { done = λ p l inside. absurd (omega (arith, l, zero-mul c.args.motion.now.width)); rest = λ p l. c.requires.out p };
}

pub predict_strip-requires-clause-blending : goal.predict_strip-requires-clause-blending
predict_strip-requires-clause-blending c =
    let h = c.requires.blending in
    record {
      motion = h.motion;
      sound = h.sound;
      columns = h.columns;
      lines = record { direction = h.lines.direction; weights = h.lines.weights; some = omega (arith, c.min-end.ensures); inside = omega (arith, h.lines.inside, c.min-end.ensures) };
    }

pub predict_strip-requires-clause-len : goal.predict_strip-requires-clause-len
predict_strip-requires-clause-len c =
    let w = c.args.motion.now.width in
    let first = c.args.lines.first in
    let rows = c.args.lines.end - first in
    let n = 64 * c.loop-n.n in
    let e = c.min-end.result - first in
    let s : IsStrip w n e rows (w * rows) ((first + 64 * c.loop-n.n - first) * w) (e * w) =
    strip_is w n e rows (w * rows) _ _ (ap (λ r. r * w) (omega arith)) refl (omega (arith, c.min-end.ensures)) (omega (arith, c.min-end.ensures)) refl in
    let high : e - n ≡ c.min-end.result - (first + 64 * c.loop-n.n) = omega arith in
    omega (
      arith,
      length-between c.loop-n.out ((first + 64 * c.loop-n.n - first) * w) (e * w) (omega (arith, s.fits, c.loop-n.auto.out, c.requires.len)),
      s.count,
      mul_comm w (c.min-end.result - (first + 64 * c.loop-n.n)),
      ap (λ r. r * w) high,
    )

pub predict_strip-requires-clause-out : goal.predict_strip-requires-clause-out
predict_strip-requires-clause-out c =
    let w = c.args.motion.now.width in
    let first = c.args.lines.first in
    let rows = c.args.lines.end - first in
    let n = 64 * c.loop-n.n in
    let e = c.min-end.result - first in
    let s : IsStrip w n e rows (w * rows) ((first + 64 * c.loop-n.n - first) * w) (e * w) =
    strip_is w n e rows (w * rows) _ _ (ap (λ r. r * w) (omega arith)) refl (omega (arith, c.min-end.ensures)) (omega (arith, c.min-end.ensures)) refl in
    zeros_between ((first + 64 * c.loop-n.n - first) * w) (e * w) c.loop-n.out (omega (arith, s.fits, c.loop-n.auto.out, c.requires.len)) (λ p l. c.loop-n.invariant.rows.rest p (omega (arith, l, s.start_is)))

pub loop-n-preserved : goal.loop-n-preserved
loop-n-preserved c =
    let w = c.args.motion.now.width in
    let first = c.args.lines.first in
    let rows = c.args.lines.end - first in
    let n = 64 * c.loop-n.n in
    let e = c.min-end.result - first in
    let s : IsStrip w n e rows (w * rows) ((first + 64 * c.loop-n.n - first) * w) (e * w) =
    strip_is w n e rows (w * rows) _ _ (ap (λ r. r * w) (omega arith)) refl (omega (arith, c.min-end.ensures)) (omega (arith, c.min-end.ensures)) refl in
    let size : length c.loop-n.out ≡ w * rows = omega (arith, c.loop-n.auto.out, c.requires.len) in
    let strip = length-between c.loop-n.out ((first + 64 * c.loop-n.n - first) * w) (e * w) (omega (arith, s.fits, size)) in
    let next : 64 * (c.loop-n.n + 1) ≡ n + 64 = omega arith in
    record {
      room_fits = c.predict_strip.ensures.room_fits;
      rows =
          rw next
          (rows_written_more (λ p. predicted_at (compensation_of c.args.motion.now) (p % w) (first + p / w)) w n rows (w * rows) _ (e * w - (first + 64 * c.loop-n.n - first) * w) e c.loop-n.out c.predict_strip.new.out
          c.loop-n.invariant.rows size refl s.start_is (omega (arith, c.min-end.ensures)) (omega (arith, c.min-end.ensures)) s.count (omega (arith, c.predict_strip.auto.out, strip))
          (λ i l. c.predict_strip.ensures.value i (omega (arith, l, c.predict_strip.auto.out)) ∙ told_down (predicted_at (compensation_of c.args.motion.now)) w n i first (omega (arith, c.requires.blending.motion.some_across))));
    }

pub returns : goal.returns
returns c p l =
    let w = c.args.motion.now.width in
    let rows = c.args.lines.end - c.args.lines.first in
    c.loop-n.invariant.rows.done p (omega (arith, l, c.requires.len, mul-le w rows w (64 * c.loop-n.n) (omega arith) (omega arith), mul_comm w (64 * c.loop-n.n))) (omega (arith, l, c.requires.len))

pub slice_bounds-predict_strip-count : goal.slice_bounds-predict_strip-count
slice_bounds-predict_strip-count c =
    mul-le (c.args.lines.first + 64 * c.loop-n.n - c.args.lines.first) c.args.motion.now.width (c.min-end.result - c.args.lines.first) c.args.motion.now.width (omega (arith, c.min-end.ensures)) (omega arith)

pub slice_bounds-predict_strip-start : goal.slice_bounds-predict_strip-start
slice_bounds-predict_strip-start c =
    mul-le (c.args.lines.first + 64 * c.loop-n.n - c.args.lines.first) c.args.motion.now.width (c.min-end.result - c.args.lines.first) c.args.motion.now.width (omega (arith, c.min-end.ensures)) (omega arith)
