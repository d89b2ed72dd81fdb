use Rattle.std.proofs.Common.{◌≡◌, ◌++◌, length, refl}
use Rattle.std.proofs.lemmas.Result.{on_ok_weaker}
use Rattle.dirac_common.specs.Numbers.{uint}
use Rattle.dirac_bits.proofs.Fronts.{err_so}
use Rattle.dirac_blocks.proofs.Fronts.{block_written, gap_written, length_written, no_block}
use Rattle.dirac_blocks.proofs.writer.write_block.Goals as goal

pub returns-then-len-ge-BLOCK_LIMIT-clause-front :
    goal.returns-then-len-ge-BLOCK_LIMIT-clause-front
returns-then-len-ge-BLOCK_LIMIT-clause-front c = no_block c.args.block.now refl

pub returns-in-Err-clause-front : goal.returns-in-Err-clause-front
returns-in-Err-clause-front c = no_block c.args.block.now c.in-Err.ensures.err

pub returns-in-Err-align-clause-front : goal.returns-in-Err-align-clause-front
returns-in-Err-align-clause-front c =
    let one : c.uint.new.self ≡ c.args.w.now ++ uint (length c.args.block.now) = c.in-Ok.ensures.ok in
    length_written c.args.w.now c.args.block.now one c.in-Err-align.ensures.err

pub returns-in-Ok-align-clause-exact : goal.returns-in-Ok-align-clause-exact
returns-in-Ok-align-clause-exact c =
    let one : c.uint.new.self ≡ c.args.w.now ++ uint (length c.args.block.now) = c.in-Ok.ensures.ok in
    on_ok_weaker c.block.result (λ e. block_written c.args.w.now c.args.block.now one c.in-Ok-align.ensures.ok e) c.block.ensures.ok

pub returns-in-Ok-align-clause-front : goal.returns-in-Ok-align-clause-front
returns-in-Ok-align-clause-front c =
    let one : c.uint.new.self ≡ c.args.w.now ++ uint (length c.args.block.now) = c.in-Ok.ensures.ok in
    err_so c.block.result (λ e. gap_written c.args.w.now c.args.block.now one c.in-Ok-align.ensures.ok e) c.block.ensures.err
