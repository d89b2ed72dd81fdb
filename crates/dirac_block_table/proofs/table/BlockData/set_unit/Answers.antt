use Rattle.std.proofs.Common.{arith, subst, sym}
use Rattle.dirac_block_table.specs.Filling.{IsFirstOfUnit}
use Rattle.dirac_block_table.specs.Tables.{BlockTable, IsBlock}
use Rattle.dirac_block_table.proofs.Fills.{unit_lawful, unit_placed, unit_written}
use Rattle.dirac_block_table.proofs.Putting.{blocks_few}
use Rattle.dirac_block_table.proofs.table.BlockData.set_unit.Goals as goal

pub invariant_of-self : goal.invariant_of-self
invariant_of-self c =
    let t : BlockTable = record { across = c.self.inside.across; down = c.self.inside.down; refs = c.self.inside.refs; splits = c.self.inside.splits.items; blocks = c.self.inside.blocks.items } in
    let unit : IsFirstOfUnit t c.args.size c.args.i c.args.j = subst (λ (u : BlockTable). IsFirstOfUnit u c.args.size c.args.i c.args.j) (sym c.self.view_is) c.requires.unit in
    let block : IsBlock t.refs c.args.block = subst (λ (u : BlockTable). IsBlock u.refs c.args.block) (sym c.self.view_is) c.requires.block in
    rw c.fill_rows.ensures.exact (unit_lawful t c.args.size c.args.i c.args.j c.args.block c.self.invariant unit block)

pub returns-clause-lawful : goal.returns-clause-lawful
returns-clause-lawful c = invariant_of-self c

pub fill_rows-requires-clause-rows : goal.fill_rows-requires-clause-rows
fill_rows-requires-clause-rows c =
    let t : BlockTable = record { across = c.self.inside.across; down = c.self.inside.down; refs = c.self.inside.refs; splits = c.self.inside.splits.items; blocks = c.self.inside.blocks.items } in
    let unit : IsFirstOfUnit t c.args.size c.args.i c.args.j = subst (λ (u : BlockTable). IsFirstOfUnit u c.args.size c.args.i c.args.j) (sym c.self.view_is) c.requires.unit in
    (unit_placed t c.args.size c.args.i c.args.j c.self.invariant unit).rows

pub overflow_mul-width : goal.overflow_mul-width
overflow_mul-width c = omega (arith, c.self.invariant.size.most_across)

pub fill_rows-requires-clause-at_least_1 : goal.fill_rows-requires-clause-at_least_1
fill_rows-requires-clause-at_least_1 c = omega (arith, c.self.invariant.size.some_across)

pub fill_rows-requires-clause-columns : goal.fill_rows-requires-clause-columns
fill_rows-requires-clause-columns c =
    let t : BlockTable = record { across = c.self.inside.across; down = c.self.inside.down; refs = c.self.inside.refs; splits = c.self.inside.splits.items; blocks = c.self.inside.blocks.items } in
    let unit : IsFirstOfUnit t c.args.size c.args.i c.args.j = subst (λ (u : BlockTable). IsFirstOfUnit u c.args.size c.args.i c.args.j) (sym c.self.view_is) c.requires.unit in
    (unit_placed t c.args.size c.args.i c.args.j c.self.invariant unit).columns

pub fill_rows-requires-clause-at_most_2_24 : goal.fill_rows-requires-clause-at_most_2_24
fill_rows-requires-clause-at_most_2_24 c =
    let t : BlockTable = record { across = c.self.inside.across; down = c.self.inside.down; refs = c.self.inside.refs; splits = c.self.inside.splits.items; blocks = c.self.inside.blocks.items } in
    blocks_few t c.self.invariant

pub returns-clause-value : goal.returns-clause-value
returns-clause-value c =
    let t : BlockTable = record { across = c.self.inside.across; down = c.self.inside.down; refs = c.self.inside.refs; splits = c.self.inside.splits.items; blocks = c.self.inside.blocks.items } in
    unit_written t c.args.self.now c.fill_rows.new.blocks.items c.args.size c.args.i c.args.j c.args.block c.self.view_is c.fill_rows.ensures.exact
