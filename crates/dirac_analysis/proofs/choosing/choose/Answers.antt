use Rattle.std.proofs.Common.{◌/◌, ◌%◌, true, sym, ◌∙◌}
use Rattle.dirac_analysis.proofs.Flatness.{IsPeak, chosen_is, skipped_is}
use Rattle.dirac_analysis.proofs.choosing.choose.Goals as goal

pub returns-then-is_parted-clause-index : goal.returns-then-is_parted-clause-index
returns-then-is_parted-clause-index c =
    let counts = c.args.counts in
    let m = c.codeblock_peak-largest.result in
    let peak : IsPeak counts c.args.table.now (c.args.c / counts.0) (c.args.c % counts.0) m = record { bounds = c.codeblock_peak-largest.ensures.bounds; least = c.codeblock_peak-largest.ensures.least } in
    chosen_is counts c.args.finer c.args.index c.args.table.now c.args.c m c.finer_index-chosen.result peak c.finer_index-chosen.ensures.value

pub returns-then-is_parted-clause-skipped : goal.returns-then-is_parted-clause-skipped
returns-then-is_parted-clause-skipped c =
    let counts = c.args.counts in
    let m = c.codeblock_peak-largest.result in
    let peak : IsPeak counts c.args.table.now (c.args.c / counts.0) (c.args.c % counts.0) m = record { bounds = c.codeblock_peak-largest.ensures.bounds; least = c.codeblock_peak-largest.ensures.least } in
    skipped_is counts c.args.finer c.args.index c.args.table.now c.args.c m c.finer_index-chosen.result c.factor.result true c.requires.across.0 c.requires.among peak
    (chosen_is counts c.args.finer c.args.index c.args.table.now c.args.c m c.finer_index-chosen.result peak c.finer_index-chosen.ensures.value) c.factor.ensures.value (sym c.if-is_parted.true ∙ c.is_parted.ensures)

pub returns-else-is_parted-clause-index : goal.returns-else-is_parted-clause-index
returns-else-is_parted-clause-index c =
    let counts = c.args.counts in
    let m = c.codeblock_peak-largest.result in
    let peak : IsPeak counts c.args.table.now (c.args.c / counts.0) (c.args.c % counts.0) m = record { bounds = c.codeblock_peak-largest.ensures.bounds; least = c.codeblock_peak-largest.ensures.least } in
    chosen_is counts c.args.finer c.args.index c.args.table.now c.args.c m c.finer_index-chosen.result peak c.finer_index-chosen.ensures.value
