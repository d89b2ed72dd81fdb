use Rattle.std.proofs.Common.{◌^◌, ap, ◌∙◌}
use Rattle.dirac_synthesis.specs.Residual.{rows_between}
use Rattle.dirac_synthesis.specs.Unfinished.{part_table}
use Rattle.dirac_synthesis.proofs.LastRows.{between_bound}
use Rattle.dirac_synthesis.proofs.Maps.{ok_weaker}
use Rattle.dirac_synthesis.proofs.unfinished.Unfinished.rows.Goals as goal

pub returns-clause-value : goal.returns-clause-value
returns-clause-value c =
    ok_weaker c.rows_of_part.result (λ t e. e ∙ ap (rows_between c.args.from c.args.to) c.part.ensures.value) c.rows_of_part.ensures

pub returns-clause-bound : goal.returns-clause-bound
returns-clause-bound c =
    ok_weaker c.rows_of_part.result
    (λ t e. rw e (between_bound (2 ^ 108) c.args.from c.args.to (part_table c.part.result.now) c.part.ensures.lawful.bound)) c.rows_of_part.ensures
