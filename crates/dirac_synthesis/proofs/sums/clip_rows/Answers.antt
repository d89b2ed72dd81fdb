use Rattle.std.proofs.Common.{◌≡◌, ℕ, ◌+◌, ◌*◌, ◌<◌, length, arith, refl, ap₂, sym, ◌∙◌}
use Rattle.dirac_common.specs.Samples.{clip}
use Rattle.dirac_common.specs.Table.{table_at}
use Rattle.dirac_common.proofs.Rows.{rows_all, rows_more}
use Rattle.dirac_synthesis.proofs.StripRows.{clips_told}
use Rattle.dirac_synthesis.proofs.SumRows.{sample_clipped, strip_size}
use Rattle.dirac_synthesis.proofs.sums.clip_rows.Goals as goal

pub loop-y-preserved : goal.loop-y-preserved
loop-y-preserved g c =
    let t = g.P.PredictsRows.predicted c.args.predictions.now in
    let y = c.loop-y.y in
    let s = c.in_ok-strip-2.strip in
    let is = c.in_ok-strip-2.ensures.strip in
    record {
      across = c.loop-y.invariant.across;
      down = c.loop-y.invariant.down;
      strip = is;
      begun = omega (arith, c.in_ok-strip-2.ensures.begun);
      rows =
          rows_more (λ a b. clip (table_at t a b)) _ _ _ y (y + 1) _ c.loop-y.invariant.rows (omega arith) refl
          (omega (arith, c.clip_narrow_values.auto.samples, c.row_mut.ensures.len))
          (λ x k. sample_clipped t s x y c.row-predicted.result.now _ is c.in_ok-strip-2.ensures.begun c.in_ok-strip-2.ensures.not_ended (omega (arith, k, c.requires.size.across, c.loop-y.invariant.across)) c.row-predicted.ensures.value
          (c.row-predicted.ensures.len ∙ (strip_size t s is).0) c.clip_narrow_values.ensures);
    }

pub returns : goal.returns
returns g c =
    let t = g.P.PredictsRows.predicted c.args.predictions.now in
    let size = c.requires.size in
    let some : 0 < t.width = omega (arith, size.across, c.requires.at_least_1) in
    rows_all (λ a b. clip (table_at t a b)) c.loop-y.plane t.width t.height c.loop-y.y (c.loop-y.invariant.across ∙ sym size.across) (c.loop-y.invariant.down ∙ sym size.down) some (omega (arith, size.down)) c.loop-y.invariant.rows
    ∙ sym (clips_told t some (size.whole ∙ ap₂ (λ a b. a * b) (sym size.across) (sym size.down)))
