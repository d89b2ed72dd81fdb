use Rattle.std.proofs.Common.{◌≡◌, ℕ, ◌+◌, ◌-◌, ◌*◌, List, length, arith, ap, subst, sym, ◌∙◌}
use Rattle.dirac_common.specs.Table.{Table, table_at}
use Rattle.dirac_common.proofs.Rows.{filled_at}
use Rattle.dirac_obmc.specs.Compensation.{blocks_down, predicted_at, y_length, y_separation}
use Rattle.dirac_obmc.specs.Directions.{IsWeights}
use Rattle.dirac_obmc.specs.Given.{compensation_of}
use Rattle.dirac_obmc.proofs.Predictions.{lines_are, rows_are_small}
use Rattle.dirac_obmc.proofs.Spans.{weights_told}
use Rattle.dirac_obmc.proofs.predict.predict_rows_with.Goals as goal

pub predict_lines-requires-clause-blending : goal.predict_lines-requires-clause-blending
predict_lines-requires-clause-blending c =
    let m = compensation_of c.args.motion.now in
    record {
      motion = c.bounded.ensures;
      sound = c.lawful.ensures;
      columns = c.columns_with-columns.ensures;
      lines = record {
        direction = c.down-blocks.ensures;
        weights =
            subst (λ (ws : List ℕ). IsWeights (blocks_down m) (y_length m) (y_separation m) ws) (sym c.as_slice.ensures.value)
            (weights_told (blocks_down m) (y_length m) (y_separation m) m.height c.down-blocks.result c.in_ok-weights.weights.items c.down-blocks.ensures c.in_ok-weights.ensures);
        some = c.requires.not_empty;
        inside = c.requires.inside;
      };
    }

pub predict_lines-requires-clause-len : goal.predict_lines-requires-clause-len
predict_lines-requires-clause-len c = c.values_mut.ensures.len ∙ ap (λ (t : Table). t.width * t.height) c.in_ok-predicted.ensures

pub returns-clause-value : goal.returns-clause-value
returns-clause-value c =
    let rows = c.args.end - c.args.first in
    let size : length c.predict_lines.new.out ≡ c.args.motion.now.width * (c.args.end - c.args.first) =
    c.predict_lines.auto.out ∙ c.values_mut.ensures.len ∙ ap (λ (t : Table). t.width * t.height) c.in_ok-predicted.ensures in
    let table =
    lines_are (λ x y. predicted_at (compensation_of c.args.motion.now) x (c.args.first + y)) c.args.motion.now.width rows _ c.predict_lines.new.out c.in_ok-predicted.ensures size
    (λ p l. c.predict_lines.ensures p (omega (arith, l, size, c.predict_lines.auto.out))) in
    table

pub returns-clause-each : goal.returns-clause-each
returns-clause-each c =
    let rows = c.args.end - c.args.first in
    let size : length c.predict_lines.new.out ≡ c.args.motion.now.width * (c.args.end - c.args.first) =
    c.predict_lines.auto.out ∙ c.values_mut.ensures.len ∙ ap (λ (t : Table). t.width * t.height) c.in_ok-predicted.ensures in
    let table =
    lines_are (λ x y. predicted_at (compensation_of c.args.motion.now) x (c.args.first + y)) c.args.motion.now.width rows _ c.predict_lines.new.out c.in_ok-predicted.ensures size
    (λ p l. c.predict_lines.ensures p (omega (arith, l, size, c.predict_lines.auto.out))) in
    λ x y l k. ap (λ (t : Table). table_at t x y) table ∙ filled_at (λ x y. predicted_at (compensation_of c.args.motion.now) x (c.args.first + y)) c.args.motion.now.width rows x y l k

pub returns-clause-magnitudes_at_most_2_15 : goal.returns-clause-magnitudes_at_most_2_15
returns-clause-magnitudes_at_most_2_15 c =
    let rows = c.args.end - c.args.first in
    let size : length c.predict_lines.new.out ≡ c.args.motion.now.width * (c.args.end - c.args.first) =
    c.predict_lines.auto.out ∙ c.values_mut.ensures.len ∙ ap (λ (t : Table). t.width * t.height) c.in_ok-predicted.ensures in
    let table =
    lines_are (λ x y. predicted_at (compensation_of c.args.motion.now) x (c.args.first + y)) c.args.motion.now.width rows _ c.predict_lines.new.out c.in_ok-predicted.ensures size
    (λ p l. c.predict_lines.ensures p (omega (arith, l, size, c.predict_lines.auto.out))) in
    rows_are_small (compensation_of c.args.motion.now) _ c.args.first c.args.end c.bounded.ensures c.lawful.ensures c.requires.inside table
