use Rattle.std.proofs.Common.{arith, subst, sym}
use Rattle.dirac_block_table.specs.Filling.{AllGrey}
use Rattle.dirac_block_table.specs.Tables.{BlockTable}
use Rattle.dirac_block_table.proofs.Fills.{split_lawful}
use Rattle.dirac_block_table.proofs.Putting.{split_small, split_there}
use Rattle.dirac_block_table.proofs.table.BlockData.set_split.Goals as goal

pub invariant_of-self : goal.invariant_of-self
invariant_of-self c =
    let t : BlockTable = record { across = c.self.inside.across; down = c.self.inside.down; refs = c.self.inside.refs; splits = c.self.inside.splits.items; blocks = c.self.inside.blocks.items } in
    let grey : AllGrey t.blocks = subst (λ (u : BlockTable). AllGrey u.blocks) (sym c.self.view_is) c.requires.grey in
    split_lawful t c.args.sx c.args.sy c.args.split c.self.invariant grey c.requires.split

pub returns-clause-lawful : goal.returns-clause-lawful
returns-clause-lawful c = invariant_of-self c

pub overflow_mul-place : goal.overflow_mul-place
overflow_mul-place c =
    let t : BlockTable = record { across = c.self.inside.across; down = c.self.inside.down; refs = c.self.inside.refs; splits = c.self.inside.splits.items; blocks = c.self.inside.blocks.items } in
    omega (arith, split_small t c.args.self.now c.args.sx c.args.sy c.self.view_is c.self.invariant c.requires.across c.requires.down)

pub overflow_add-place : goal.overflow_add-place
overflow_add-place c =
    let t : BlockTable = record { across = c.self.inside.across; down = c.self.inside.down; refs = c.self.inside.refs; splits = c.self.inside.splits.items; blocks = c.self.inside.blocks.items } in
    omega (arith, split_small t c.args.self.now c.args.sx c.args.sy c.self.view_is c.self.invariant c.requires.across c.requires.down)

pub index_mut-requires : goal.index_mut-requires
index_mut-requires c =
    let t : BlockTable = record { across = c.self.inside.across; down = c.self.inside.down; refs = c.self.inside.refs; splits = c.self.inside.splits.items; blocks = c.self.inside.blocks.items } in
    omega (arith, split_there t c.args.self.now c.args.sx c.args.sy c.self.view_is c.self.invariant c.requires.across c.requires.down, c.self.inside.splits.ok.0)
