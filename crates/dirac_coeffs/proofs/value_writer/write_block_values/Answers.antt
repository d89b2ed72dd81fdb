use Rattle.std.proofs.Common.{◌≡◌, ℕ, ◌+◌, arith, refl, subst, sym}
use Rattle.dirac_arith.specs.Interval.{narrowed_by}
use Rattle.dirac_arith.proofs.Spellings.{narrowed_more}
use Rattle.dirac_coeffs.specs.Decisions.{row_part, rows_part}
use Rattle.dirac_coeffs.specs.Lent.{numbers_in}
use Rattle.dirac_coeffs.specs.WrittenBand.{frame_in}
use Rattle.dirac_coeffs.proofs.Agreement.{rows_next}
use Rattle.dirac_coeffs.proofs.value_writer.write_block_values.Goals as goal

pub codeblock_span-columns-requires-clause-size : goal.codeblock_span-columns-requires-clause-size
codeblock_span-columns-requires-clause-size c = c.requires.writable.layout.width.1

pub codeblock_span-columns-requires-clause-c : goal.codeblock_span-columns-requires-clause-c
codeblock_span-columns-requires-clause-c c = c.requires.column

pub codeblock_span-rows-requires-clause-size : goal.codeblock_span-rows-requires-clause-size
codeblock_span-rows-requires-clause-size c = c.requires.writable.layout.height.1

pub codeblock_span-rows-requires-clause-c : goal.codeblock_span-rows-requires-clause-c
codeblock_span-rows-requires-clause-c c = c.requires.row

pub rows-init : goal.rows-init
unfolding rows_part
rows-init c = refl

pub write_row-requires-clause-writable : goal.write_row-requires-clause-writable
write_row-requires-clause-writable c = c.requires.writable

pub write_row-requires-clause-columns : goal.write_row-requires-clause-columns
write_row-requires-clause-columns c = c.codeblock_span-columns.ensures.inside

pub write_row-requires-clause-row : goal.write_row-requires-clause-row
write_row-requires-clause-row c = omega (arith, c.codeblock_span-rows.ensures.inside)

pub rows-preserved : goal.rows-preserved
rows-preserved c =
    let f = frame_in c.args.band in
    let xs = (numbers_in c.args.band.values) in
    let top = c.codeblock_span-rows.result.start in
    let from = c.codeblock_span-columns.result.start in
    let count = c.codeblock_span-columns.result.length in
    let j = c.rows.j in
    narrowed_more _ _ _ (rows_part f xs from count top j) (row_part f xs (top + j) from count) _ c.rows.invariant c.in_ok-write_row.ensures (rows_next f xs from count top j)

pub returns : goal.returns
returns c =
    let all : c.rows.j ≡ c.codeblock_span-rows.result.length = omega (arith, c.rows.auto.j-end) in
    let P : ℕ → Type 0 = λ n. c.rows.encoder ≡ narrowed_by c.args.encoder.now (rows_part (frame_in c.args.band) (numbers_in c.args.band.values) c.codeblock_span-columns.result.start c.codeblock_span-columns.result.length c.codeblock_span-rows.result.start n) in
    rw (sym c.codeblock_span-columns.ensures.length, sym c.codeblock_span-columns.ensures.start, sym c.codeblock_span-rows.ensures.length, sym c.codeblock_span-rows.ensures.start) (subst P all c.rows.invariant)

pub overflow_add-rows : goal.overflow_add-rows
overflow_add-rows c = omega (arith, c.codeblock_span-rows.ensures.inside, c.requires.writable.layout.height)
