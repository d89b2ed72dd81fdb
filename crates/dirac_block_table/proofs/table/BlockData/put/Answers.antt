use Rattle.std.proofs.Common.{◌≡◌, All, ap, arith, subst, sym}
use Rattle.dirac_block_table.specs.Puts.{IsPut}
use Rattle.dirac_block_table.specs.Tables.{BlockTable, IsBlock, IsBlockTable}
use Rattle.dirac_block_table.proofs.Putting.{blocks_few, put_is, put_lawful, split_small, split_there, superblock_rows, table_put}
use Rattle.dirac_block_table.proofs.table.BlockData.put.Goals as goal

pub invariant_of-self : goal.invariant_of-self
invariant_of-self c =
    let t : BlockTable = record { across = c.self.inside.across; down = c.self.inside.down; refs = c.self.inside.refs; splits = c.self.inside.splits.items; blocks = c.self.inside.blocks.items } in
    let across : t.across ≡ c.args.self.now.across = ap (λ v. v.across) c.self.view_is in
    let down : t.down ≡ c.args.self.now.down = ap (λ v. v.down) c.self.view_is in
    let refs : t.refs ≡ c.args.self.now.refs = ap (λ v. v.refs) c.self.view_is in
    let units : All (IsBlock t.refs) c.args.units.now = subst (λ r. All (IsBlock r) c.args.units.now) (sym refs) c.requires.units in
    let whole : IsBlockTable (table_put t c.args.sx c.args.sy c.args.split c.put_superblock.new.blocks.items) =
    put_lawful t c.args.sx c.args.sy c.args.split c.args.units.now c.put_superblock.new.blocks.items c.self.invariant (omega arith) (omega arith) c.requires.split
    c.put_superblock.ensures.rows (c.put_superblock.ensures.lawful t.refs units c.self.invariant.blocks) in
    whole

pub returns-clause-put : goal.returns-clause-put
returns-clause-put c =
    let t : BlockTable = record { across = c.self.inside.across; down = c.self.inside.down; refs = c.self.inside.refs; splits = c.self.inside.splits.items; blocks = c.self.inside.blocks.items } in
    let across : t.across ≡ c.args.self.now.across = ap (λ v. v.across) c.self.view_is in
    let down : t.down ≡ c.args.self.now.down = ap (λ v. v.down) c.self.view_is in
    let is : IsPut t c.args.sx c.args.sy c.args.split c.args.units.now (table_put t c.args.sx c.args.sy c.args.split c.put_superblock.new.blocks.items) =
    put_is t c.args.sx c.args.sy c.args.split c.args.units.now c.put_superblock.new.blocks.items c.self.invariant (omega arith) (omega arith) c.put_superblock.ensures.rows in
    rw (← c.self.view_is) is

pub returns-clause-lawful : goal.returns-clause-lawful
returns-clause-lawful c = invariant_of-self c

pub overflow_mul-top : goal.overflow_mul-top
overflow_mul-top c =
    let t : BlockTable = record { across = c.self.inside.across; down = c.self.inside.down; refs = c.self.inside.refs; splits = c.self.inside.splits.items; blocks = c.self.inside.blocks.items } in
    omega (arith, split_small t c.args.self.now c.args.sx c.args.sy c.self.view_is c.self.invariant c.requires.across c.requires.down)

pub overflow_add-top : goal.overflow_add-top
overflow_add-top c =
    let t : BlockTable = record { across = c.self.inside.across; down = c.self.inside.down; refs = c.self.inside.refs; splits = c.self.inside.splits.items; blocks = c.self.inside.blocks.items } in
    omega (arith, split_small t c.args.self.now c.args.sx c.args.sy c.self.view_is c.self.invariant c.requires.across c.requires.down)

pub index_mut-requires : goal.index_mut-requires
index_mut-requires c =
    let t : BlockTable = record { across = c.self.inside.across; down = c.self.inside.down; refs = c.self.inside.refs; splits = c.self.inside.splits.items; blocks = c.self.inside.blocks.items } in
    omega (arith, split_there t c.args.self.now c.args.sx c.args.sy c.self.view_is c.self.invariant c.requires.across c.requires.down, c.self.inside.splits.ok.0)

pub put_superblock-requires-clause-split : goal.put_superblock-requires-clause-split
put_superblock-requires-clause-split c = c.requires.split

pub put_superblock-requires-clause-rows : goal.put_superblock-requires-clause-rows
put_superblock-requires-clause-rows c =
    let t : BlockTable = record { across = c.self.inside.across; down = c.self.inside.down; refs = c.self.inside.refs; splits = c.self.inside.splits.items; blocks = c.self.inside.blocks.items } in
    superblock_rows t c.args.self.now c.args.sy c.self.view_is c.self.invariant c.requires.down

pub put_superblock-requires-clause-at_most_2_24 : goal.put_superblock-requires-clause-at_most_2_24
put_superblock-requires-clause-at_most_2_24 c =
    let t : BlockTable = record { across = c.self.inside.across; down = c.self.inside.down; refs = c.self.inside.refs; splits = c.self.inside.splits.items; blocks = c.self.inside.blocks.items } in
    blocks_few t c.self.invariant

pub put_superblock-requires-clause-units : goal.put_superblock-requires-clause-units
put_superblock-requires-clause-units c = c.requires.count
