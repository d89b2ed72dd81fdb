use Rattle.std.proofs.Common.{◌*◌, arith, ◌∙◌, ap, refl, replicate}
use Rattle.std.proofs.lemmas.Nat.{mul-le}
use Rattle.dirac_block_table.specs.declared.block.Block.{Block}
use Rattle.dirac_block_table.proofs.Empty.{empty_lawful}
use Rattle.dirac_block_table.proofs.table.BlockData.try_new.Goals as goal

pub overflow_mul-rows : goal.overflow_mul-rows
overflow_mul-rows c = omega (arith, mul-le c.args.down c.args.across 1024 1024 c.requires.most_down c.requires.most_across)

pub overflow_mul-rows-in-Ok : goal.overflow_mul-rows-in-Ok
overflow_mul-rows-in-Ok c = omega (arith, c.requires.most_down)

pub overflow_mul-columns : goal.overflow_mul-columns
overflow_mul-columns c = omega (arith, c.requires.most_across)

pub overflow_mul-rows-in-Ok-2 : goal.overflow_mul-rows-in-Ok-2
overflow_mul-rows-in-Ok-2 c = omega (arith, mul-le (4 * c.args.down) (4 * c.args.across) 4096 4096 (omega (arith, c.requires.most_down)) (omega (arith, c.requires.most_across)))

pub returns-in-Err-vec : goal.returns-in-Err-vec
returns-in-Err-vec c = tt

pub returns-in-Err : goal.returns-in-Err
returns-in-Err c = tt

pub invariant_of-result : goal.invariant_of-result
invariant_of-result c =
    let splits = c.in-Ok.ensures.items_if_clones_equal (λ y e. e) in
    let blocks = c.in-Ok-vec.ensures.items_if_clones_equal (λ y e. e) ∙ ap (λ (b : Block). replicate (4 * c.args.down * (4 * c.args.across)) b) c.grey_block.ensures in
    rw (splits, blocks) (empty_lawful c.args.across c.args.down c.args.refs c.requires)

pub returns-in-Ok-vec : goal.returns-in-Ok-vec
returns-in-Ok-vec c =
    let splits = c.in-Ok.ensures.items_if_clones_equal (λ y e. e) in
    let blocks = c.in-Ok-vec.ensures.items_if_clones_equal (λ y e. e) ∙ ap (λ (b : Block). replicate (4 * c.args.down * (4 * c.args.across)) b) c.grey_block.ensures in
    rw (splits, blocks) refl
