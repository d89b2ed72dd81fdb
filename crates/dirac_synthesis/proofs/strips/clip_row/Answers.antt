use Rattle.std.proofs.Common.{◌+◌, ◌≤◌, length}
use Rattle.dirac_synthesis.proofs.StripRows.{clipped_line, summed_line}
use Rattle.dirac_synthesis.proofs.strips.clip_row.Goals as goal

pub returns-in-Nothing : goal.returns-in-Nothing
returns-in-Nothing c x l = rw c.in-Nothing.is (clipped_line x _ _ c.clip_narrow_values.ensures l)

pub returns-in-Predicted : goal.returns-in-Predicted
returns-in-Predicted c x l =
    let fits : c.args.start + length c.args.line.now ≤ length c.in-Predicted.values.now = rw c.in-Predicted.is at c.requires.others in
    rw c.in-Predicted.is (summed_line c.args.start x c.in-Predicted.values.now c.args.line.now _ fits c.clip_narrow_sums.ensures l)
