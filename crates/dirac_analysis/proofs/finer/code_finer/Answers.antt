use Rattle.std.proofs.Common.{◌≡◌, sym, ◌∙◌}
use Rattle.dirac_analysis.specs.Coded.{reduced_table}
use Rattle.dirac_analysis.proofs.ReducedRows.{coded_none, coded_other, numbers_are}
use Rattle.dirac_analysis.proofs.finer.code_finer.Goals as goal

pub returns-then-not-are_zeros : goal.returns-then-not-are_zeros
returns-then-not-are_zeros c =
    let t = c.args.table.now in
    let counts = c.args.counts in
    let made = c.in_ok-chosen in
    let numbers : c.in_ok-numbers.numbers ≡ reduced_table counts c.args.finer c.args.index t = numbers_are counts c.args.finer c.args.index t made.field-0.chosen c.in_ok-numbers.numbers c.requires.across.0 c.requires.down.0 made.ensures.chosen c.in_ok-numbers.ensures in
    coded_other counts c.args.finer c.args.index t made.field-0.coded c.in_ok-quantised.quantised made.ensures.coded (c.in_ok-quantised.ensures ∙ numbers) (sym c.if-not-are_zeros.ensures.value)

pub returns : goal.returns
returns c =
    let t = c.args.table.now in
    let counts = c.args.counts in
    let made = c.in_ok-chosen in
    let numbers : c.in_ok-numbers.numbers ≡ reduced_table counts c.args.finer c.args.index t = numbers_are counts c.args.finer c.args.index t made.field-0.chosen c.in_ok-numbers.numbers c.requires.across.0 c.requires.down.0 made.ensures.chosen c.in_ok-numbers.ensures in
    coded_none counts c.args.finer c.args.index t c.in_ok-indices.indices c.in_ok-quantised.quantised c.in_ok-indices.ensures (c.in_ok-quantised.ensures ∙ numbers) (sym c.if-not-are_zeros.ensures.value)
