use Rattle.std.proofs.Common.{◌≡◌, ◌+◌, ◌++◌, List, ℕ, ap, append_assoc, subst, sym, ◌∙◌, arith, IfOk}
use Rattle.std.proofs.lemmas.List.{append-nil}
use Rattle.dirac_arith.specs.Interval.{Decision, whole, narrowed_by}
use Rattle.dirac_arith.specs.Written.{flush}
use Rattle.dirac_arith.proofs.Spellings.{narrowed_more}
use Rattle.dirac_blocks.specs.Parts.{list_part}
use Rattle.dirac_blocks.proofs.InLists.{all_rows, in_rows, list_row, list_row_next, list_rows, list_rows_next, no_row, no_rows}
use Rattle.dirac_blocks.proofs.list_writer.list_block.Goals as goal

pub rows-init : goal.rows-init
rows-init c = c.new-encoder.ensures ∙ ap (λ (ds : List Decision). narrowed_by whole ds) (sym (no_rows c.args.list c.args.table.now))

pub superblocks-init : goal.superblocks-init
superblocks-init c =
    let t = c.args.table.now in
    let before = list_rows c.args.list t c.rows.sy in
    c.rows.invariant ∙ ap (λ (ds : List Decision). narrowed_by whole ds) (sym (ap (λ (ds : List Decision). before ++ ds) (no_row c.args.list t c.rows.sy) ∙ append-nil before))

pub write_cell-requires-clause-column : goal.write_cell-requires-clause-column
write_cell-requires-clause-column c = omega (arith, c.across-across.ensures.value)

pub write_cell-requires-clause-row : goal.write_cell-requires-clause-row
write_cell-requires-clause-row c = omega (arith, c.down-down.ensures.value)

pub superblocks-preserved : goal.superblocks-preserved
superblocks-preserved c =
    let t = c.args.table.now in
    let list = c.args.list in
    let sy = c.rows.sy in
    let n = c.superblocks.sx in
    let before = list_rows list t sy in
    narrowed_more whole c.superblocks.encoder c.write_cell.new.encoder (before ++ list_row list t sy n) (list_part list t n sy) (before ++ list_row list t sy (n + 1)) c.superblocks.invariant c.in-Ok.ensures
    (ap (λ (ds : List Decision). before ++ ds) (list_row_next list t sy n) ∙ sym (append_assoc before (list_row list t sy n) (list_part list t n sy)))

pub rows-preserved : goal.rows-preserved
rows-preserved c =
    let t = c.args.table.now in
    let list = c.args.list in
    let sy = c.rows.sy in
    let all : c.superblocks.sx ≡ t.across = omega (arith, c.across-across.ensures.value) in
    c.superblocks.invariant ∙ ap (λ (ds : List Decision). narrowed_by whole ds) (ap (λ (n : ℕ). list_rows list t sy ++ list_row list t sy n) all ∙ sym (list_rows_next list t sy))

pub returns : goal.returns
returns c =
    let t = c.args.table.now in
    let list = c.args.list in
    let answer : IfOk c.finish.result (λ block. block.items ≡ flush (list_rows list t c.rows.sy)) = c.finish.ensures (list_rows list t c.rows.sy) (in_rows list t c.rows.sy) c.rows.invariant in
    let all : c.rows.sy ≡ t.down = omega (arith, c.down-down.ensures.value) in
    subst (λ (ds : List Decision). IfOk c.finish.result (λ block. block.items ≡ flush ds)) (ap (λ (n : ℕ). list_rows list t n) all ∙ all_rows list t) answer
