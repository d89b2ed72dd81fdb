use Rattle.std.proofs.Common.{arith, ◌∙◌}
use Rattle.dirac_upconvert.proofs.Halves.{even_row, odd_row}
use Rattle.dirac_upconvert.proofs.plane.double_row.Goals as goal

pub returns-then-y-eq0 : goal.returns-then-y-eq0
returns-then-y-eq0 c x l =
    c.double_line.ensures x l
    ∙ even_row c.args.plane.now c.args.y x c.row_of_samples.result.now c.row_of_samples.ensures.value c.if-y-eq0.true c.row_of_samples.ensures.len (omega arith)

pub returns-else-y-eq0 : goal.returns-else-y-eq0
returns-else-y-eq0 c x l =
    c.double_line-else-y-eq0.ensures x l
    ∙ odd_row c.args.plane.now c.args.y x c.half_row.new.line c.half_row.ensures.value c.if-y-eq0.false (omega (arith, c.half_row.auto.line, c.requires.line)) (omega arith)
