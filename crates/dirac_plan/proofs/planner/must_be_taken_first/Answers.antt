use Rattle.std.proofs.Common.{ap, sym, arith}
use Rattle.std.proofs.lemmas.Option.{slice_get_past}
use Rattle.dirac_plan.specs.Plan.{plan}
use Rattle.dirac_plan.specs.Planning.{must_be_taken_first}
use Rattle.dirac_plan.proofs.Accepted.{paced}
use Rattle.dirac_plan.proofs.Fields.{length_plan}
use Rattle.dirac_plan.proofs.planner.must_be_taken_first.Goals as goal

pub returns-then-accepted-given : goal.returns-then-accepted-given
returns-then-accepted-given c =
    let s = c.args.settings.now in
    let long = length_plan c.args.accepted s (paced s c.requires.settings).gop_least in
    sym (ap (must_be_taken_first s) (slice_get_past (plan c.args.accepted s) c.args.given (omega arith)))
