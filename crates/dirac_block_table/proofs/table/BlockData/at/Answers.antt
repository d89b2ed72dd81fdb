use Rattle.std.proofs.Common.{◌+◌, ◌*◌, arith, subst, sym}
use Rattle.dirac_block_table.specs.Tables.{BlockTable, IsBlock}
use Rattle.dirac_block_table.proofs.Putting.{block_inside, block_small}
use Rattle.dirac_block_table.proofs.table.BlockData.at.Goals as goal

pub overflow_mul-self-inside : goal.overflow_mul-self-inside
overflow_mul-self-inside c = omega (arith, c.self.invariant.size.most_across)

pub overflow_mul-j : goal.overflow_mul-j
overflow_mul-j c =
    let t : BlockTable = record { across = c.self.inside.across; down = c.self.inside.down; refs = c.self.inside.refs; splits = c.self.inside.splits.items; blocks = c.self.inside.blocks.items } in
    omega (arith, block_small t c.args.self.now c.args.i c.args.j c.self.view_is c.self.invariant c.requires.across c.requires.down)

pub overflow_add-j : goal.overflow_add-j
overflow_add-j c =
    let t : BlockTable = record { across = c.self.inside.across; down = c.self.inside.down; refs = c.self.inside.refs; splits = c.self.inside.splits.items; blocks = c.self.inside.blocks.items } in
    omega (arith, block_small t c.args.self.now c.args.i c.args.j c.self.view_is c.self.invariant c.requires.across c.requires.down)

pub index-requires : goal.index-requires
index-requires c =
    let t : BlockTable = record { across = c.self.inside.across; down = c.self.inside.down; refs = c.self.inside.refs; splits = c.self.inside.splits.items; blocks = c.self.inside.blocks.items } in
    omega (arith, block_inside t c.args.self.now c.args.i c.args.j c.self.view_is c.self.invariant c.requires.across c.requires.down, c.self.inside.blocks.ok.0)

pub returns-clause-block : goal.returns-clause-block
returns-clause-block c =
    let t : BlockTable = record { across = c.self.inside.across; down = c.self.inside.down; refs = c.self.inside.refs; splits = c.self.inside.splits.items; blocks = c.self.inside.blocks.items } in
    let fits = block_inside t c.args.self.now c.args.i c.args.j c.self.view_is c.self.invariant c.requires.across c.requires.down in
    rw (← c.self.view_is) (subst (IsBlock t.refs) (sym c.index.ensures) (c.self.invariant.blocks (c.args.j * (4 * t.across) + c.args.i) c.index.result.now fits))

pub returns-clause-lawful : goal.returns-clause-lawful
returns-clause-lawful c = rw (← c.self.view_is) c.self.invariant
