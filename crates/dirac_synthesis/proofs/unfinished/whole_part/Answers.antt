use Rattle.std.proofs.Common.{arith, ap, ◌∙◌}
use Rattle.dirac_common.specs.Table.{Table}
use Rattle.dirac_synthesis.specs.Residual.{cut}
use Rattle.dirac_synthesis.proofs.unfinished.whole_part.Goals as goal

pub cut_off-requires-clause-across : goal.cut_off-requires-clause-across
cut_off-requires-clause-across c =
    (c.requires.across.0, omega (arith, ap (λ (t : Table). t.width) c.in_ok-next.ensures, c.requires.across.1), c.requires.across.2)

pub cut_off-requires-clause-down : goal.cut_off-requires-clause-down
cut_off-requires-clause-down c =
    (c.requires.down.0, omega (arith, ap (λ (t : Table). t.height) c.in_ok-next.ensures, c.requires.down.1), c.requires.down.2)

pub returns-clause-value : goal.returns-clause-value
returns-clause-value c =
    c.in_ok-whole.ensures ∙ ap (cut c.args.width c.args.height) c.in_ok-next.ensures
