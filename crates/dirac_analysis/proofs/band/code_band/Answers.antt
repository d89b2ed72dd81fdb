use Rattle.std.proofs.Common.{sym, ap, ◌∙◌}
use Rattle.dirac_synthesis.proofs.Maps.{ok_weaker}
use Rattle.dirac_analysis.specs.Coded.{coded}
use Rattle.dirac_analysis.proofs.FinerBands.{coded_plain, coded_zero}
use Rattle.dirac_analysis.proofs.band.code_band.Goals as goal

pub returns-then-finer-eq0 : goal.returns-then-finer-eq0
returns-then-finer-eq0 c =
    let counts = c.args.counts in
    let t = c.args.table.now in
    ok_weaker c.code_by_one.result (λ b is. is ∙ sym (coded_plain counts c.args.index t c.width-width.ensures.whole) ∙ ap (λ finer. coded counts finer c.args.index t) (sym c.if-finer-eq0.true)) c.code_by_one.ensures

pub returns-then-index-eq0 : goal.returns-then-index-eq0
returns-then-index-eq0 c =
    let counts = c.args.counts in
    let t = c.args.table.now in
    ok_weaker c.code_by_one-then-index-eq0.result (λ b is. is ∙ sym (coded_zero counts c.args.finer t c.width-width.ensures.whole) ∙ ap (λ index. coded counts c.args.finer index t) (sym c.if-index-eq0.true)) c.code_by_one-then-index-eq0.ensures
