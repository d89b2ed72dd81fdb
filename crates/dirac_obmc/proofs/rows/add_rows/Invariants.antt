use Rattle.std.proofs.Common.{◌-◌, ◌*◌}
use Rattle.dirac_obmc.specs.Given.{compensation_of}
use Rattle.dirac_obmc.specs.Strips.{run_added_at}
use Rattle.dirac_obmc.proofs.StripLemmas.{AddsBelow}
use Rattle.dirac_obmc.proofs.rows.add_rows.Given as goal

abbrev pub invariant-loop-y : goal.invariant-loop-y
invariant-loop-y l =
    AddsBelow (run_added_at (compensation_of l.motion) l.lines.first l.part.run.j l.part.run.i l.part.run.count) ((l.y - l.lines.first) * l.motion.width) l.initial.sums l.sums
