use Rattle.std.proofs.Common.{arith, ◌≡◌, ℕ, subst}
use Rattle.dirac_block_table.proofs.Units.{column_fits}
use Rattle.dirac_block_table.specs.Puts.{RowPut}
use Rattle.dirac_block_table.proofs.superblock.put_row.Goals as goal

pub bounds-units-from : goal.bounds-units-from
bounds-units-from c =
    rw c.unit_blocks-size.ensures.value (omega (arith, column_fits c.args.split c.columns.i c.requires.split (omega arith)))

pub unit_blocks-size-requires : goal.unit_blocks-size-requires
unit_blocks-size-requires c = c.requires.split

pub nonzero_div-i : goal.nonzero_div-i
nonzero_div-i c = omega (arith, c.unit_blocks-size.ensures.at_least_1)

pub returns : goal.returns
returns c =
    let all : c.columns.i ≡ 4 = omega arith in
    subst (λ (n : ℕ). RowPut c.args.start c.args.split c.args.units.now c.args.from n c.args.blocks.now.items c.columns.blocks.items) all c.columns.invariant
