use Rattle.std.proofs.Common.{◌≡◌, ◌+◌, ◌-◌, ◌*◌, ◌≤◌, ◌+ℤ◌, length, pos, to_z, of_z, arith, refl, sym, ◌∙◌}
use Rattle.std.specs.Int.{w64}
use Rattle.std.proofs.lemmas.Int.{to_z-of_z}
use Rattle.dirac_upconvert.proofs.Lanes.{in_whole_rows, part_length, row_inside, rows_joined}
use Rattle.dirac_upconvert.proofs.Wholes.{rows_from, rows_from_at}
use Rattle.dirac_upconvert.proofs.whole_samples.WholeSamples.samples_row_by_row.Goals as goal

pub loop-j-init : goal.loop-j-init
loop-j-init c n l = absurd (omega (arith, l))

pub loop-j-preserved : goal.loop-j-preserved
loop-j-preserved c n l =
    let t = c.args.self.now in
    let x = to_z w64 (of_z w64 c.args.x) in
    let y = to_z w64 (of_z w64 c.args.y) in
    let w = c.args.width in
    let j = c.loop-j.j in
    let fits : j * w + w ≤ length c.loop-j.out = omega (arith, row_inside (length c.args.out.now) w j c.loop-j-test.true, c.loop-j.auto.out) in
    let len : length c.samples_of_row.new.out ≡ w = omega (arith, c.samples_of_row.auto.out, part_length c.loop-j.out (j * w) (j * w + w) fits) in
    let down : to_z w64 (of_z w64 c.further.result) ≡ y +ℤ pos j = to_z-of_z w64 _ (record { sfits = c.further.type_inv }) ∙ c.further.ensures in
    rows_joined w j (j + 1) (j * w) (j * w + w - j * w) (rows_from t x y w) c.loop-j.out c.samples_of_row.new.out c.loop-j.invariant refl len fits (omega arith)
    (λ i b. c.samples_of_row.ensures i (omega (arith, b, len)) ∙ rw down refl ∙ sym (rows_from_at t x y w j i b)) n l

pub returns : goal.returns
returns c n l =
    c.loop-j.invariant n (in_whole_rows (length c.args.out.now) c.args.width c.loop-j.j n c.requires.rows.1 c.loop-j-test.false (omega (arith, l, c.loop-j.auto.out)))
    ∙ rw (to_z-of_z w64 c.args.x c.ranges.x, to_z-of_z w64 c.args.y c.ranges.y) refl
