use Rattle.std.proofs.Common.{◌≡◌, ap, sym, ◌∙◌, arith}
use Rattle.dirac_synthesis.specs.Residual.{cut}
use Rattle.dirac_synthesis.proofs.Cutting.{first_rows_cut}
use Rattle.dirac_synthesis.proofs.cut.cut_off.Goals as goal

pub returns-then-width_of-width : goal.returns-then-width_of-width
returns-then-width_of-width c =
    let t = c.args.table in
    let across : t.width ≡ c.args.width = sym c.width_of.ensures.value ∙ c.if-width_of-width.true in
    c.first_rows.ensures.value
    ∙ first_rows_cut t c.args.height (omega (arith, c.requires.across, across)) c.requires.down.1 c.first_rows.ensures.whole
    ∙ ap (λ w. cut w c.args.height t) across
