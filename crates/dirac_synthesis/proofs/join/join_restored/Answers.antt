use Rattle.std.proofs.Common.{◌+◌, ◌-◌, ◌*◌, ◌^◌, ◌<◌, unsigned_abs, arith, ap, refl, ◌∙◌}
use Rattle.std.proofs.lemmas.List.{length-map}
use Rattle.dirac_common.specs.Table.{Table, row_of}
use Rattle.dirac_common.proofs.Rows.{rows_more, rows_all}
use Rattle.dirac_quant.specs.Quantiser.{restored}
use Rattle.dirac_bands.specs.Interleaving.{joined_at}
use Rattle.dirac_bands.proofs.Interleaves.{even_row, odd_row}
use Rattle.dirac_synthesis.specs.Codeblocks.{restored_by_one}
use Rattle.dirac_synthesis.proofs.BesideRows.{row_all}
use Rattle.dirac_synthesis.proofs.JoinedRows.{restored_row}
use Rattle.dirac_synthesis.proofs.join.join_restored.Goals as goal

pub loop-y-preserved : goal.loop-y-preserved
loop-y-preserved c =
    let f = joined_at c.args.low.now (restored_by_one c.args.by.kind c.args.bands.hl.now) (restored_by_one c.args.by.kind c.args.bands.lh.now) (restored_by_one c.args.by.kind c.args.bands.hh.now) in
    record {
      across = c.loop-y.invariant.across;
      down = c.loop-y.invariant.down;
      rows =
          rows_more f _ _ _ (2 * c.loop-y.y + 1) (2 * (c.loop-y.y + 1)) _
          (rows_more f _ _ _ (2 * c.loop-y.y) (2 * c.loop-y.y + 1) _ c.loop-y.invariant.rows (omega arith) refl (omega arith)
          (λ x l. even_row c.args.low.now _ _ _ c.loop-y.y x _ _ _ c.even_row.ensures c.row.ensures.value
          (restored_row c.args.by.kind c.args.bands.hl.now c.loop-y.y c.row-right.result.now (c.row-right.ensures.value ∙ ap (λ (t : Table). row_of t c.loop-y.y) c.in_ok-hl_table.ensures))
          c.row.ensures.len c.requires.hl.across (omega arith)))
          (omega arith) (omega arith) (omega arith)
          (λ x l. odd_row c.args.low.now _ _ _ c.loop-y.y x _ _ _ c.odd_row.ensures
          (restored_row c.args.by.kind c.args.bands.lh.now c.loop-y.y c.row-left.result.now (c.row-left.ensures.value ∙ ap (λ (t : Table). row_of t c.loop-y.y) c.in_ok-lh_table.ensures))
          (restored_row c.args.by.kind c.args.bands.hh.now c.loop-y.y c.row-right-in-loop-y.result.now (c.row-right-in-loop-y.ensures.value ∙ ap (λ (t : Table). row_of t c.loop-y.y) c.in_ok-hh_table.ensures))
          (length-map c.row-left.result.now (λ v. restored v c.args.bands.lh.now.index c.args.by.kind) ∙ c.row-left.ensures.len ∙ ap (λ (t : Table). t.width) c.in_ok-lh_table.ensures)
          (omega arith) (omega arith));
    }

pub odd_row-requires-clause-left_small : goal.odd_row-requires-clause-left_small
odd_row-requires-clause-left_small c =
    row_all (λ v. unsigned_abs v < 2 ^ 39 - 1) c.args.bands.lh.now.table c.loop-y.y c.row-left.result.now
    (c.row-left.ensures.value ∙ ap (λ (t : Table). row_of t c.loop-y.y) c.in_ok-lh_table.ensures) c.requires.lh.small

pub odd_row-requires-clause-right_small : goal.odd_row-requires-clause-right_small
odd_row-requires-clause-right_small c =
    row_all (λ v. unsigned_abs v < 2 ^ 39 - 1) c.args.bands.hh.now.table c.loop-y.y c.row-right-in-loop-y.result.now
    (c.row-right-in-loop-y.ensures.value ∙ ap (λ (t : Table). row_of t c.loop-y.y) c.in_ok-hh_table.ensures) c.requires.hh.small

pub returns : goal.returns
returns c =
    rows_all _ c.loop-y.plane _ _ (2 * c.loop-y.y) c.loop-y.invariant.across c.loop-y.invariant.down (omega arith) (omega arith) c.loop-y.invariant.rows
