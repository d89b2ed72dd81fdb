use Rattle.std.proofs.Common.{◌≡◌, pos, ◌+◌, ◌*◌, length, slice_index_or, arith, ap, sym, ◌∙◌}
use Rattle.dirac_upconvert.proofs.Lanes.{by_rows, by_rows_at, joined, row_below}
use Rattle.dirac_upconvert.proofs.plane.eight_by_four.Goals as goal

pub loop-j-preserved : goal.loop-j-preserved
loop-j-preserved c n l =
    let t = c.args.table.now in
    let p = c.args.from in
    let j = c.loop-j.j in
    let row = row_below t p c.lower.result j c.row_parts.new.out c.lower.ensures.rests c.lower.ensures.across c.lower.ensures.down c.row_parts.ensures in
    joined (8 * j) (length c.row_parts.new.out) (by_rows t p 8) (λ k. slice_index_or c.row_parts.new.out k (pos 0)) c.loop-j.out c.put.new.out
    c.loop-j.invariant c.put.ensures.put
    (λ k i. let at : 8 * j + k ≡ j * 8 + k = omega arith in row k i ∙ sym (by_rows_at t p 8 j k (omega (arith, i, c.row_parts.auto.out))) ∙ ap (by_rows t p 8) (sym at)) n
    (omega (arith, l, c.row_parts.auto.out))

pub returns : goal.returns
returns c j k few l =
    let at : 8 * j + k ≡ j * 8 + k = omega arith in
    c.loop-j.invariant (8 * j + k) (omega arith) ∙ ap (by_rows c.args.table.now c.args.from 8) at ∙ by_rows_at c.args.table.now c.args.from 8 j k l
