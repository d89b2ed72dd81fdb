use Rattle.std.proofs.Common.{◌+◌, ◌*◌, arith, sym, ◌∙◌}
use Rattle.dirac_synthesis.specs.Codeblocks.{restored_by_one}
use Rattle.dirac_synthesis.specs.Halves.{beside}
use Rattle.dirac_lift.proofs.WindowHalves.{row_in-window_half}
use Rattle.dirac_synthesis.proofs.last.WindowRowPairs.put_pair.Goals as goal

pub returns-clause-even : goal.returns-clause-even
returns-clause-even c =
    let w = c.args.self.now in
    c.put_pair.ensures.even
    ∙ sym (row_in-window_half (2 * w.rows.low.now.width) w.pairs.first (w.pairs.first + w.pairs.count) c.args.pair (beside w.rows.low.now (restored_by_one w.rows.kind w.rows.bands.hl.now)).values (omega arith))

pub returns-clause-odd : goal.returns-clause-odd
returns-clause-odd c =
    let w = c.args.self.now in
    c.put_pair.ensures.odd
    ∙ sym (row_in-window_half (2 * w.rows.low.now.width) w.pairs.first (w.pairs.first + w.pairs.count) c.args.pair (beside (restored_by_one w.rows.kind w.rows.bands.lh.now) (restored_by_one w.rows.kind w.rows.bands.hh.now)).values (omega arith))
