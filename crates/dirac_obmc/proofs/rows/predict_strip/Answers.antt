use Rattle.std.proofs.Common.{pos, ◌+◌, ◌/◌, ◌%◌, ◌^◌, ◌+ℤ◌, arith, refl, ap, sym, ◌∙◌}
use Rattle.std.specs.Int.{int_shr}
use Rattle.dirac_obmc.specs.Compensation.{blocks_across, signed_total}
use Rattle.dirac_obmc.specs.Given.{compensation_of}
use Rattle.dirac_obmc.specs.Strips.{added_at}
use Rattle.dirac_obmc.proofs.AddLemmas.{adds_none, adds_more, adds_bounded, zeros_small}
use Rattle.dirac_obmc.proofs.Bounds.{rows_small}
use Rattle.dirac_obmc.proofs.RowsAdded.{added_alone, first_within, nothing_above, nothing_below}
use Rattle.dirac_obmc.proofs.StripLemmas.{column_inside, row_inside}
use Rattle.dirac_obmc.proofs.rows.predict_strip.Goals as goal

pub loop-j-init : goal.loop-j-init
loop-j-init c =
    let m = compensation_of c.args.motion.now in
    let lines = c.args.lines in
    record {
      within = first_within m lines.blocks lines.first _ c.requires.blending.lines.direction (omega (arith, c.requires.blending.lines.some, c.requires.blending.lines.inside)) c.first_row-j.ensures;
      room_fits = c.requires.room_fits;
      sums =
          adds_none _ _ _
          (λ p l. nothing_above m lines.blocks (lines.first + p / m.width) _ (p % m.width) c.requires.blending.lines.direction (λ j k. omega (arith, c.first_row-j.ensures j k)));
    }

pub add_blocks-requires-clause-down : goal.add_blocks-requires-clause-down
add_blocks-requires-clause-down c = omega (arith, c.requires.blending.lines.direction.count_is, c.end_row-j-end.ensures.within)

pub add_blocks-requires-clause-sums : goal.add_blocks-requires-clause-sums
add_blocks-requires-clause-sums c =
    let m = compensation_of c.args.motion.now in
    let first = c.args.lines.first in
    adds_bounded (λ p. signed_total (λ j. signed_total (λ i. added_at m first j i p) (blocks_across m)) c.loop-j.j) _ 0 (2 ^ 21) (2 ^ 21) _ _ c.loop-j.invariant.sums c.requires.len (zeros_small _ c.requires.out)
    (λ p l. rows_small m (p % m.width) (first + p / m.width) c.loop-j.j c.requires.blending.motion c.requires.blending.sound (column_inside m p c.requires.blending.motion)
    (omega (arith, row_inside m first c.args.lines.end p c.requires.blending.motion l, c.requires.blending.lines.inside)) c.loop-j.invariant.within) (omega arith)

pub loop-j-preserved : goal.loop-j-preserved
loop-j-preserved c = record {
  within = omega (arith, c.requires.blending.lines.direction.count_is, c.end_row-j-end.ensures.within);
  room_fits = c.add_blocks.ensures.room_fits;
  sums =
      adds_more (λ p j. signed_total (λ i. added_at (compensation_of c.args.motion.now) c.args.lines.first j i p) (blocks_across (compensation_of c.args.motion.now))) c.loop-j.j _ _ _ _ _ c.loop-j.invariant.sums c.add_blocks.ensures.sums refl;
}

pub divide_sums-requires : goal.divide_sums-requires
divide_sums-requires c =
    let m = compensation_of c.args.motion.now in
    let first = c.args.lines.first in
    adds_bounded (λ p. signed_total (λ j. signed_total (λ i. added_at m first j i p) (blocks_across m)) c.loop-j.j) _ 0 (2 ^ 21) (2 ^ 21) _ _ c.loop-j.invariant.sums c.requires.len (zeros_small _ c.requires.out)
    (λ p l. rows_small m (p % m.width) (first + p / m.width) c.loop-j.j c.requires.blending.motion c.requires.blending.sound (column_inside m p c.requires.blending.motion)
    (omega (arith, row_inside m first c.args.lines.end p c.requires.blending.motion l, c.requires.blending.lines.inside)) c.loop-j.invariant.within) (omega arith)

pub returns-clause-value : goal.returns-clause-value
returns-clause-value c =
    let m = compensation_of c.args.motion.now in
    let lines = c.args.lines in
    λ p l. c.divide_sums.ensures p (omega (arith, l, c.loop-j.invariant.sums.len))
    ∙ ap (λ z. int_shr (z +ℤ pos 32) 6)
    (added_alone _ _ p _ _ c.loop-j.invariant.sums (omega (arith, l, c.requires.len)) c.requires.out
    ∙ sym (nothing_below m lines.blocks (lines.first + p / m.width) c.loop-j.j _ (p % m.width) c.requires.blending.lines.direction
    (λ j a b. omega (arith, c.end_row-j-end.ensures.behind j a b, row_inside m lines.first lines.end p c.requires.blending.motion (omega (arith, l, c.requires.len)))) (omega arith) c.loop-j.invariant.within))
