use Rattle.std.proofs.Common.{refl, ◌∙◌}
use Rattle.dirac_common.specs.Table.{Table}
use Rattle.dirac_coeffs.proofs.Largest.{zeros_table}
use Rattle.dirac_coeffs.proofs.coefficients.Coefficients.of_rows.Goals as goal

pub returns-then-largest-eq0 : goal.returns-then-largest-eq0
returns-then-largest-eq0 c =
    let t : Table = record { width = c.args.width; height = c.args.height; values = c.args.values.items } in
    c.zeros.ensures ∙ zeros_table t c.args.width c.args.height c.args.largest refl refl c.requires.len c.requires.largest c.if-largest-eq0.true
