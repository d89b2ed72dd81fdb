use Rattle.std.proofs.Common.{◌≡◌, pos, ◌+◌, ◌-◌, ◌*◌, length, get_or, arith, ap, ◌∙◌}
use Rattle.std.proofs.lemmas.List.{take_at}
use Rattle.dirac_obmc.specs.Given.{compensation_of}
use Rattle.dirac_obmc.proofs.Runs.{holds_run, run_weights_are}
use Rattle.dirac_obmc.proofs.Spans.{span_told, weights_back}
use Rattle.dirac_obmc.proofs.StripLemmas.{no_columns, no_rows, room_rows}
use Rattle.dirac_obmc.proofs.rows.add_run.Goals as goal

pub returns-then-last-first-clause-sums : goal.returns-then-last-first-clause-sums
returns-then-last-first-clause-sums c =
    let m = compensation_of c.args.motion.now in
    let run = c.args.run in
    let columns = holds_run m c.args.columns run.i run.count run.j c.held-first.result c.held-last.result c.requires.blending.columns c.requires.run c.held-first.ensures c.held-last.ensures in
    no_columns m c.args.lines.first c.args.lines.end run.i run.j run.count c.held-first.result.start c.held-last.result.end _ c.requires.blending.motion c.requires.run (omega arith) columns.before columns.behind

pub returns-then-down-clause-sums : goal.returns-then-down-clause-sums
returns-then-down-clause-sums c =
    let run = c.args.run in
    no_rows (compensation_of c.args.motion.now) c.args.lines.first c.args.lines.end run.i run.j run.count c.held-down.result _ c.requires.blending.motion
    (span_told run.j _ _ _ _ c.args.lines.first c.args.lines.end c.args.lines.blocks c.held-down.result c.requires.blending.lines.direction c.held-down.ensures) (omega arith)

pub run_weights-requires-clause-len : goal.run_weights-requires-clause-len
run_weights-requires-clause-len c =
    let run = c.args.run in
    let columns = holds_run (compensation_of c.args.motion.now) c.args.columns run.i run.count run.j c.held-first.result c.held-last.result c.requires.blending.columns c.requires.run c.held-first.ensures c.held-last.ensures in
    omega (arith, columns.wide, c.as_mut_slice.ensures.len, c.requires.room_fits.weights)

pub run_weights-requires-clause-weights : goal.run_weights-requires-clause-weights
run_weights-requires-clause-weights c =
    weights_back _ _ _ _ c.args.columns.blocks c.args.columns.weights.now c.requires.blending.columns.direction c.requires.blending.columns.weights

pub run_weights-requires-clause-left : goal.run_weights-requires-clause-left
run_weights-requires-clause-left c = omega (arith, c.held-first.ensures.start_is)

pub run_weights-requires-clause-right : goal.run_weights-requires-clause-right
run_weights-requires-clause-right c = omega (arith, c.held-last.ensures.end_is, c.requires.blending.columns.direction.overlap.least)

pub run_weights-requires-clause-covers : goal.run_weights-requires-clause-covers
run_weights-requires-clause-covers c = omega (arith, c.held-last.ensures.to, c.requires.blending.columns.direction.covers)

pub in_eights-width-requires : goal.in_eights-width-requires
in_eights-width-requires c =
    let run = c.args.run in
    let columns = holds_run (compensation_of c.args.motion.now) c.args.columns run.i run.count run.j c.held-first.result c.held-last.result c.requires.blending.columns c.requires.run c.held-first.ensures c.held-last.ensures in
    columns.wide

pub add_part-requires-clause-part : goal.add_part-requires-clause-part
add_part-requires-clause-part c =
    let m = compensation_of c.args.motion.now in
    let run = c.args.run in
    let columns = holds_run m c.args.columns run.i run.count run.j c.held-first.result c.held-last.result c.requires.blending.columns c.requires.run c.held-first.ensures c.held-last.ensures in
    let rows = span_told run.j _ _ _ _ c.args.lines.first c.args.lines.end c.args.lines.blocks c.held-down.result c.requires.blending.lines.direction c.held-down.ensures in
    let kept : c.as_slice.result.now ≡ c.run_weights.new.out =
    c.as_slice.ensures.value ∙ c.predict_run.ensures.weights ∙ take_at c.run_weights.new.out _ _ (c.run_weights.auto.out ∙ c.as_mut_slice.ensures.len) in
    record {
      run = c.requires.run;
      columns =
          run_weights_are m c.args.columns run.i run.count c.held-first.result.start c.held-last.result.end c.as_slice.result.now c.requires.blending.columns columns
          (omega (arith, columns.wide, ap length kept, c.run_weights.auto.out, c.as_mut_slice.ensures.len, c.requires.room_fits.weights))
          (λ k l. ap (λ ws. get_or ws k 0) kept ∙ c.run_weights.ensures.weight k l) (λ k l. ap (λ ws. get_or ws k 0) kept ∙ c.run_weights.ensures.past k l)
          (λ k. omega (arith, ap (λ ws. get_or ws k 0) kept, c.run_weights.ensures.small k));
      rows = rows;
      some_columns = omega arith;
      some_rows = omega arith;
      fits = c.in_eights-width.ensures.fits;
      listed = omega (arith, c.in_eights-width.ensures.at_most_64, ap length kept, c.run_weights.auto.out, c.as_mut_slice.ensures.len, c.requires.room_fits.weights);
      whole =
          omega (arith, room_rows _ (c.held-down.result.end - c.held-down.result.start) c.in_eights-width.result rows.within_block c.in_eights-width.ensures.at_most_64, c.predict_run.ensures.room_fits.values, ap length c.as_slice-2.ensures.value);
      values = λ r k a b. ap (λ vs. get_or vs (r * c.in_eights-width.result + k) (pos 0)) c.as_slice-2.ensures.value ∙ c.predict_run.ensures.values r k a b;
    }
