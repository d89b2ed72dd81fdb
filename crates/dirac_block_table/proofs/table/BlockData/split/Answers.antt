use Rattle.std.proofs.Common.{arith}
use Rattle.dirac_block_table.specs.Tables.{BlockTable}
use Rattle.dirac_block_table.proofs.Putting.{split_small, split_there}
use Rattle.dirac_block_table.proofs.table.BlockData.split.Goals as goal

pub overflow_mul-sy : goal.overflow_mul-sy
overflow_mul-sy c =
    let t : BlockTable = record { across = c.self.inside.across; down = c.self.inside.down; refs = c.self.inside.refs; splits = c.self.inside.splits.items; blocks = c.self.inside.blocks.items } in
    omega (arith, split_small t c.args.self.now c.args.sx c.args.sy c.self.view_is c.self.invariant c.requires.across c.requires.down)

pub overflow_add-sy : goal.overflow_add-sy
overflow_add-sy c =
    let t : BlockTable = record { across = c.self.inside.across; down = c.self.inside.down; refs = c.self.inside.refs; splits = c.self.inside.splits.items; blocks = c.self.inside.blocks.items } in
    omega (arith, split_small t c.args.self.now c.args.sx c.args.sy c.self.view_is c.self.invariant c.requires.across c.requires.down)

pub index-requires : goal.index-requires
index-requires c =
    let t : BlockTable = record { across = c.self.inside.across; down = c.self.inside.down; refs = c.self.inside.refs; splits = c.self.inside.splits.items; blocks = c.self.inside.blocks.items } in
    omega (arith, split_there t c.args.self.now c.args.sx c.args.sy c.self.view_is c.self.invariant c.requires.across c.requires.down, c.self.inside.splits.ok.0)

pub returns-clause-lawful : goal.returns-clause-lawful
returns-clause-lawful c = rw (← c.self.view_is) c.self.invariant
