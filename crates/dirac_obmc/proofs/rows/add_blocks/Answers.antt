use Rattle.std.proofs.Common.{ℕ, ◌+◌, ◌-◌, ◌*◌, ◌/◌, ◌%◌, ◌^◌, arith, refl, ap, subst, sym}
use Rattle.dirac_obmc.specs.Compensation.{blocks_across, signed_total, y_length}
use Rattle.dirac_obmc.specs.Given.{compensation_of}
use Rattle.dirac_obmc.specs.Strips.{IsRoomForRows, added_at}
use Rattle.dirac_obmc.proofs.AddLemmas.{adds_none, adds_all, adds_bounded, adds_kept}
use Rattle.dirac_obmc.proofs.Bounds.{row_small}
use Rattle.dirac_obmc.proofs.Runs.{adds_run, run_more, run_of_one, run_told}
use Rattle.dirac_obmc.proofs.StripLemmas.{column_inside, row_inside}
use Rattle.dirac_obmc.proofs.rows.add_blocks.Goals as goal
use Rattle.dirac_obmc.proofs.rows.add_blocks.Goals.{then-not-goes_on, else-not-goes_on}

pub loop-i-init : goal.loop-i-init
loop-i-init c =
    let across = c.requires.blending.columns.direction in
    record {
      begins = omega arith;
      run = λ some. run_of_one (compensation_of c.args.motion.now) 0 1 c.args.j some c.requires.down (omega (arith, across.length_is, across.overlap.small)) refl;
      whole = λ e. refl;
      room_fits = c.requires.room_fits;
      sums = adds_none _ _ _ (λ p l. refl);
    }

pub add_run-requires-clause-run : goal.add_run-requires-clause-run
add_run-requires-clause-run c = c.loop-i.invariant.run (omega (arith, c.requires.blending.columns.direction.count_is))

pub add_run-requires-clause-sums : goal.add_run-requires-clause-sums
add_run-requires-clause-sums c =
    let m = compensation_of c.args.motion.now in
    let first = c.args.lines.first in
    adds_bounded (λ p. signed_total (λ i. added_at m first c.args.j i p) c.loop-i.begin) _ (2 ^ 21) (2 ^ 21) (2 ^ 22) _ _ c.loop-i.invariant.sums c.requires.len c.requires.sums
    (λ p l. row_small m (p % m.width) (first + p / m.width) c.args.j c.loop-i.begin c.requires.blending.motion c.requires.blending.sound (column_inside m p c.requires.blending.motion)
    (omega (arith, row_inside m first c.args.lines.end p c.requires.blending.motion l, c.requires.blending.lines.inside)) c.requires.down
    (omega (arith, c.loop-i.invariant.begins, c.requires.blending.columns.direction.count_is))) (omega arith)

pub loop-i-preserved : goal.loop-i-preserved
loop-i-preserved c =
    let m = compensation_of c.args.motion.now in
    let d = c.requires.blending.columns.direction in
    let begin = c.loop-i.begin in
    let next = c.loop-i.i + 1 in
    let added = λ (p i : ℕ). added_at m c.args.lines.first c.args.j i p in
    elim c.if-not-goes_on.branch [
      | then-not-goes_on w ↦ record {
        begins = omega (arith, w.begin-is);
        run = λ more. run_of_one m c.if-not-goes_on.begin (next + 1 - c.if-not-goes_on.begin) c.args.j (omega (arith, more, w.begin-is)) c.requires.down (omega (arith, d.length_is, d.overlap.small)) (omega (arith, w.begin-is));
        whole = λ e. w.begin-is;
        room_fits = subst (IsRoomForRows (y_length m)) (sym w.room-is) w.add_run.ensures.room_fits;
        sums = adds_run added begin (next - begin) c.if-not-goes_on.begin _ _ _ _ _ c.loop-i.invariant.sums w.add_run.ensures.sums (omega (arith, w.begin-is, c.loop-i.invariant.begins)) w.sums-is;
      }
      | else-not-goes_on w ↦
          let on = w.if-not-goes_on.false in
          record {
            begins = omega (arith, w.begin-is, c.loop-i.invariant.begins);
            run = λ more. run_told m begin (next + 1 - begin) c.args.j c.if-not-goes_on.begin (next + 1 - c.if-not-goes_on.begin)
                (run_more m begin (next - begin) (next + 1 - begin) c.args.j (c.loop-i.invariant.run (omega (arith, more))) (omega (arith, more, c.loop-i.invariant.begins))
                (omega (arith, c.goes_on.ensures.fits on, d.length_is, ap (λ s. (next - begin) * s) d.separation_is)) (c.goes_on.ensures.same on) (omega (arith, c.loop-i.invariant.begins)))
                (sym w.begin-is) (omega (arith, w.begin-is));
            whole = λ e. absurd (omega (arith, e, c.goes_on.ensures.inside on, d.count_is, c.loop-i.invariant.begins));
            room_fits = subst (IsRoomForRows (y_length m)) (sym w.room-is) c.loop-i.invariant.room_fits;
            sums = adds_kept added begin c.if-not-goes_on.begin _ _ _ _ c.loop-i.invariant.sums w.begin-is w.sums-is;
          }
    ]

pub returns-clause-sums : goal.returns-clause-sums
returns-clause-sums c =
    adds_all (λ p i. added_at (compensation_of c.args.motion.now) c.args.lines.first c.args.j i p) c.loop-i.begin (blocks_across (compensation_of c.args.motion.now)) _ _ _ c.loop-i.invariant.sums
    (omega (arith, c.loop-i.invariant.whole (omega (arith, c.requires.blending.columns.direction.count_is)), c.requires.blending.columns.direction.count_is))
