use Rattle.std.proofs.Common.{◌≡◌, ℕ, pos, ◌+◌, ◌*◌, ◌/◌, ◌<◌, ◌+ℤ◌, length, get_or, arith, refl, ap, sym, ◌∙◌, subst}
use Rattle.dirac_common.specs.Samples.{clip}
use Rattle.dirac_common.specs.Table.{table_at}
use Rattle.dirac_common.proofs.Rows.{rows_all, rows_more}
use Rattle.dirac_lift.specs.AtWork.{HasGiven, turns_behind}
use Rattle.dirac_synthesis.specs.LastLevel.{last_residual}
use Rattle.dirac_synthesis.specs.Sums.{IsOfSize}
use Rattle.dirac_synthesis.proofs.LastRows.{length-residual, made_row}
use Rattle.dirac_synthesis.proofs.StripRows.{sum_in, sums_told}
use Rattle.dirac_synthesis.proofs.SumRows.{sample_summed, strip_size}
use Rattle.dirac_synthesis.proofs.sums.sum_rows.Goals as goal

pub next_row-requires-clause-next : goal.next_row-requires-clause-next
next_row-requires-clause-next g c = c.loop-y.invariant.made.given.turn ∙ ap (λ k. (c.loop-y.y + 1) / 2 + turns_behind k) (sym c.loop-y.invariant.made.given.wavelet)

pub loop-y-preserved : goal.loop-y-preserved
loop-y-preserved g c =
    let l = c.args.level.now in
    let t = g.P.PredictsRows.predicted c.args.predictions.now in
    let w = c.width-width.result in
    let y = c.loop-y.y in
    let s = c.in_ok-strip-2.strip in
    let is = c.in_ok-strip-2.ensures.strip in
    let next : y + 2 ≡ y + 1 + 1 = omega arith in
    let same : w ≡ l.width = c.width-width.ensures.value ∙ c.requires.across in
    let size : IsOfSize w l.height t = subst (λ (n : ℕ). IsOfSize n l.height t) (sym same) c.requires.size in
    record {
      made = record {
        at_work = c.next_row.ensures.at_work;
        given = subst (λ (n : ℕ). HasGiven l.wavelet (2 * l.low.width) l.low.height (n / 2) c.next_row.new.self) next (c.next_row.ensures.given l.wavelet (2 * l.low.width) l.low.height c.loop-y.invariant.made.given);
      };
      work = c.next_row.auto.work ∙ c.loop-y.invariant.work;
      line = c.next_row.auto.line ∙ c.loop-y.invariant.line;
      across = c.loop-y.invariant.across;
      down = c.loop-y.invariant.down;
      strip = is;
      begun = omega (arith, c.in_ok-strip-2.ensures.begun);
      rows =
          rows_more (sum_in (last_residual l) t.values) _ _ _ y (y + 1) _ c.loop-y.invariant.rows (omega arith) refl
          (omega (arith, c.clip_narrow_sums.auto.samples, c.row_mut.ensures.len))
          (λ x k. sample_summed t s w l.height x y c.next_row.new.line c.row-predicted.result.now _ size is c.in_ok-strip-2.ensures.begun c.in_ok-strip-2.ensures.not_ended (omega (arith, k, same, c.loop-y.invariant.across))
          (omega (arith, same, c.requires.level.across.1, c.next_row.auto.line, c.loop-y.invariant.line)) c.row-predicted.ensures.value (c.row-predicted.ensures.len ∙ (strip_size t s is).0 ∙ size.across) c.clip_narrow_sums.ensures
          ∙ ap (λ v. clip (v +ℤ get_or t.values (y * w + x) (pos 0)))
          (made_row l x y c.next_row.new.line c.requires.level (c.next_row.ensures.row l.wavelet (2 * l.low.width) l.low.height c.loop-y.invariant.made.given) (omega (arith, k, c.loop-y.invariant.across)) (omega (arith, c.loop-y.invariant.down, c.height-height.ensures.value, c.requires.down)))
          ∙ ap (λ n. clip (table_at (last_residual l) x y +ℤ get_or t.values (y * n + x) (pos 0))) same);
    }

pub returns : goal.returns
returns g c =
    let l = c.args.level.now in
    let t = g.P.PredictsRows.predicted c.args.predictions.now in
    let some : 0 < l.width = omega (arith, c.requires.level.across.0) in
    rows_all (sum_in (last_residual l) t.values) c.loop-y.plane l.width l.height c.loop-y.y c.loop-y.invariant.across c.loop-y.invariant.down some (omega (arith, c.height-height.ensures.value, c.requires.down)) c.loop-y.invariant.rows
    ∙ sym (sums_told (last_residual l) t.values some (length-residual l) c.requires.size.whole)
