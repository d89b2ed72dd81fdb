use Rattle.std.proofs.Common.{◌≡◌, ◌+◌, ◌*◌, ◌/◌, ◌^◌, ◌≤◌, length, arith, refl, subst, ℕ}
use Rattle.std.proofs.lemmas.Nat.{mul-le}
use Rattle.dirac_block_table.specs.Puts.{RowPut, RowsPut}
use Rattle.dirac_block_table.specs.Tables.{unit_size}
use Rattle.dirac_block_table.proofs.Putting.{rows_more, row_lawful}
use Rattle.dirac_block_table.proofs.Units.{row_fits}
use Rattle.dirac_block_table.proofs.superblock.put_superblock.Goals as goal

pub overflow_add-top : goal.overflow_add-top
overflow_add-top c =
    let whole : (c.args.top + 4) * 1 ≤ (c.args.top + 4) * c.args.width = mul-le (c.args.top + 4) 1 (c.args.top + 4) c.args.width (omega arith) (omega arith) in
    omega arith

pub overflow_mul-top : goal.overflow_mul-top
overflow_mul-top c =
    let whole : (c.args.top + c.rows.j) * c.args.width ≤ (c.args.top + 4) * c.args.width = mul-le (c.args.top + c.rows.j) c.args.width (c.args.top + 4) c.args.width (omega arith) (omega arith) in
    omega arith

pub overflow_add-top-in-rows : goal.overflow_add-top-in-rows
overflow_add-top-in-rows c =
    let whole : (c.args.top + c.rows.j + 1) * c.args.width ≤ (c.args.top + 4) * c.args.width = mul-le (c.args.top + c.rows.j + 1) c.args.width (c.args.top + 4) c.args.width (omega arith) (omega arith) in
    omega arith

pub put_row-requires-clause-row : goal.put_row-requires-clause-row
put_row-requires-clause-row c =
    let whole : (c.args.top + c.rows.j + 1) * c.args.width ≤ (c.args.top + 4) * c.args.width = mul-le (c.args.top + c.rows.j + 1) c.args.width (c.args.top + 4) c.args.width (omega arith) (omega arith) in
    omega (arith, c.rows.invariant.rows.len)

pub put_row-requires-clause-units : goal.put_row-requires-clause-units
put_row-requires-clause-units c =
    rw (c.unit_blocks-size.ensures.value, c.units_across-across.ensures.value) (omega (arith, c.requires.units, row_fits c.args.split c.rows.j c.requires.split (omega arith)))

pub rows-preserved : goal.rows-preserved
rows-preserved c =
    let split = c.args.split in
    let units = c.args.units.now in
    let start = (c.args.top + c.rows.j) * c.args.width + c.args.left in
    let raw = c.rows.j / c.unit_blocks-size.result * c.units_across-across.result in
    let is : raw ≡ c.rows.j / unit_size split * 2 ^ split = rw (c.unit_blocks-size.ensures.value, c.units_across-across.ensures.value) refl in
    let fits : raw + 2 ^ split ≤ length units = rw is (omega (arith, c.requires.units, row_fits split c.rows.j c.requires.split (omega arith))) in
    record {
      rows =
          rows_more c.args.width c.args.left c.args.top split units c.rows.j c.args.blocks.now.items c.rows.blocks.items c.put_row.new.blocks.items c.requires.columns
          (subst (λ from. RowPut start split units from 4 c.rows.blocks.items c.put_row.new.blocks.items) is c.put_row.ensures) c.rows.invariant.rows;
      lawful = λ refs us os.
          row_lawful refs start split units raw c.rows.blocks.items c.put_row.new.blocks.items c.requires.split fits c.put_row.ensures us (c.rows.invariant.lawful refs us os);
    }

pub unit_blocks-size-requires : goal.unit_blocks-size-requires
unit_blocks-size-requires c = c.requires.split

pub units_across-across-requires : goal.units_across-across-requires
units_across-across-requires c = c.requires.split

pub nonzero_div-j : goal.nonzero_div-j
nonzero_div-j c = omega (arith, c.unit_blocks-size.ensures.at_least_1)

pub put_row-requires-clause-split : goal.put_row-requires-clause-split
put_row-requires-clause-split c = c.requires.split

pub put_row-requires-clause-at_most_2_24 : goal.put_row-requires-clause-at_most_2_24
put_row-requires-clause-at_most_2_24 c = omega (arith, c.rows.invariant.rows.len)

pub returns-clause-rows : goal.returns-clause-rows
returns-clause-rows c =
    let all : c.rows.j ≡ 4 = omega arith in
    subst (λ (n : ℕ). RowsPut c.args.width c.args.left c.args.top c.args.split c.args.units.now n c.args.blocks.now.items c.rows.blocks.items) all c.rows.invariant.rows

pub returns-clause-lawful : goal.returns-clause-lawful
returns-clause-lawful c = c.rows.invariant.lawful
