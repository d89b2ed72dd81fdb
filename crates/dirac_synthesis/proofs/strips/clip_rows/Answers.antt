use Rattle.std.proofs.Common.{◌≡◌, ℕ, pos, ◌+◌, ◌*◌, ◌/◌, take, length, arith, refl, ap, sym, ◌∙◌, subst}
use Rattle.std.proofs.lemmas.List.{get_or-take, length-take-le}
use Rattle.dirac_common.specs.Table.{table_at}
use Rattle.dirac_common.proofs.Rows.{rows_all, rows_more}
use Rattle.dirac_lift.specs.AtWork.{HasGiven, turns_behind}
use Rattle.dirac_synthesis.specs.LastLevel.{last_residual}
use Rattle.dirac_synthesis.specs.Strips.{AreEnough, clipped_with, sample_at}
use Rattle.dirac_synthesis.proofs.LastRows.{length-residual, made_row}
use Rattle.dirac_synthesis.proofs.StripRows.{enough_others, samples_told}
use Rattle.dirac_synthesis.proofs.strips.clip_rows.Goals as goal

pub next_row-requires-clause-next : goal.next_row-requires-clause-next
next_row-requires-clause-next c = c.loop-y.invariant.made.given.turn ∙ ap (λ k. (c.loop-y.y + 1) / 2 + turns_behind k) (sym c.loop-y.invariant.made.given.wavelet)

pub clip_row-requires-clause-others : goal.clip_row-requires-clause-others
clip_row-requires-clause-others c =
    let l = c.args.level.now in
    let w = c.width-width.result in
    let same : w ≡ l.width = c.width-width.ensures.value ∙ c.requires.across in
    let part : length (take w c.next_row.new.line) ≡ w = length-take-le w c.next_row.new.line (omega arith) in
    subst (λ (n : ℕ). AreEnough c.args.others (c.loop-y.y * w + n)) (sym part)
    (subst (λ (n : ℕ). AreEnough c.args.others (c.loop-y.y * n + n)) (sym same) (enough_others c.args.others l.width l.height c.loop-y.y c.requires.others (omega arith)))

pub loop-y-preserved : goal.loop-y-preserved
loop-y-preserved c =
    let l = c.args.level.now in
    let o = c.args.others in
    let w = c.width-width.result in
    let y = c.loop-y.y in
    let next : y + 2 ≡ y + 1 + 1 = omega arith in
    let same : w ≡ l.width = c.width-width.ensures.value ∙ c.requires.across in
    let part : length (take w c.next_row.new.line) ≡ w = length-take-le w c.next_row.new.line (omega arith) in
    record {
      made = record {
        at_work = c.next_row.ensures.at_work;
        given = subst (λ (n : ℕ). HasGiven l.wavelet (2 * l.low.width) l.low.height (n / 2) c.next_row.new.self) next (c.next_row.ensures.given l.wavelet (2 * l.low.width) l.low.height c.loop-y.invariant.made.given);
      };
      work = c.next_row.auto.work ∙ c.loop-y.invariant.work;
      line = c.next_row.auto.line ∙ c.loop-y.invariant.line;
      across = c.loop-y.invariant.across;
      down = c.loop-y.invariant.down;
      rows =
          rows_more (sample_at o (last_residual l)) _ _ _ y (y + 1) _ c.loop-y.invariant.rows (omega arith) refl (omega arith)
          (λ x k. c.clip_row.ensures x (omega (arith, k, part))
          ∙ ap (λ v. clipped_with o v (y * w + x)) (get_or-take w c.next_row.new.line x (pos 0) (omega (arith, k))
          ∙ made_row l x y c.next_row.new.line c.requires.level (c.next_row.ensures.row l.wavelet (2 * l.low.width) l.low.height c.loop-y.invariant.made.given) (omega (arith, k)) (omega arith))
          ∙ ap (λ n. clipped_with o (table_at (last_residual l) x y) (y * n + x)) same);
    }

pub returns : goal.returns
returns c =
    let l = c.args.level.now in
    let o = c.args.others in
    rows_all (sample_at o (last_residual l)) c.loop-y.plane l.width l.height c.loop-y.y c.loop-y.invariant.across c.loop-y.invariant.down (omega (arith, c.requires.level.across.0)) (omega arith) c.loop-y.invariant.rows
    ∙ sym (samples_told o (last_residual l) (omega (arith, c.requires.level.across.0)) (length-residual l) c.requires.others)
