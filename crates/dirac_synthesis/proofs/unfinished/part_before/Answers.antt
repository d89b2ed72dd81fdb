use Rattle.std.proofs.Common.{ap, ◌∙◌}
use Rattle.dirac_common.specs.Table.{Table}
use Rattle.dirac_synthesis.specs.Levels.{next_low}
use Rattle.dirac_synthesis.specs.Residual.{cut}
use Rattle.dirac_synthesis.proofs.Maps.{ok_weaker}
use Rattle.dirac_synthesis.proofs.unfinished.part_before.Goals as goal

pub returns-else-is_narrow-clause-value : goal.returns-else-is_narrow-clause-value
returns-else-is_narrow-clause-value c =
    let l = c.args.level in
    ok_weaker c.whole_part-in-Narrow.result (λ p e. e ∙ ap (λ (t : Table). cut c.args.width c.args.height (next_low l.by t l.bands)) (c.of_narrow.ensures ∙ c.in-Narrow.ensures)) c.whole_part-in-Narrow.ensures.value

pub returns-in-Wide-clause-value : goal.returns-in-Wide-clause-value
returns-in-Wide-clause-value c =
    let l = c.args.level in
    ok_weaker c.whole_part-in-Wide-2.result (λ p e. e ∙ ap (λ (t : Table). cut c.args.width c.args.height (next_low l.by t l.bands)) (c.of_wide.ensures ∙ c.in-Wide.ensures)) c.whole_part-in-Wide-2.ensures.value
