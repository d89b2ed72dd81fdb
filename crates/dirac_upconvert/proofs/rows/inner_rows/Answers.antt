use Rattle.std.proofs.Common.{◌≡◌, ◌+◌, ◌-◌, ◌*◌, ◌≤◌, length, arith, refl, sym, ◌∙◌}
use Rattle.dirac_upconvert.proofs.Lanes.{by_rows, by_rows_at, in_whole_rows, part_length, plain_place, row_below, row_inside, rows_joined}
use Rattle.dirac_upconvert.proofs.rows.inner_rows.Goals as goal

pub loop-j-init : goal.loop-j-init
loop-j-init c n l = absurd (omega (arith, l))

pub inner_row-requires-clause-sides : goal.inner_row-requires-clause-sides
inner_row-requires-clause-sides c x e =
    c.sides_from-sides.ensures x (plain_place c.args.from.across (omega (arith, c.requires.from.1)) ∙ sym c.lower.ensures.across ∙ e)

pub loop-j-preserved : goal.loop-j-preserved
loop-j-preserved c n l =
    let t = c.args.table.now in
    let p = c.args.from in
    let w = c.args.width in
    let j = c.loop-j.j in
    let fits : j * w + w ≤ length c.loop-j.out = omega (arith, row_inside (length c.args.out.now) w j c.loop-j-test.true, c.loop-j.auto.out) in
    let len : length c.inner_row.new.out ≡ w = omega (arith, c.inner_row.auto.out, part_length c.loop-j.out (j * w) (j * w + w) fits) in
    let row = row_below t p c.lower.result j c.inner_row.new.out c.lower.ensures.rests c.lower.ensures.across c.lower.ensures.down c.inner_row.ensures in
    rows_joined w j (j + 1) (j * w) (j * w + w - j * w) (by_rows t p w) c.loop-j.out c.inner_row.new.out c.loop-j.invariant refl len fits (omega arith)
    (λ i b. row i (omega (arith, b, len)) ∙ sym (by_rows_at t p w j i b)) n l

pub returns : goal.returns
returns c n l =
    c.loop-j.invariant n (in_whole_rows (length c.args.out.now) c.args.width c.loop-j.j n c.requires.rows.1 c.loop-j-test.false (omega (arith, l, c.loop-j.auto.out)))
