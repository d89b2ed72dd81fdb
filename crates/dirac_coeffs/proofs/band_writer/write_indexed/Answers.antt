use Rattle.std.proofs.Common.{◌≡◌, ◌++◌, ℕ, ap, length, ◌∙◌}
use Rattle.std.proofs.lemmas.Result.{on_ok_weaker}
use Rattle.dirac_common.specs.Numbers.{uint}
use Rattle.dirac_bits.proofs.Fronts.{err_so}
use Rattle.dirac_coeffs.proofs.Fronts.{no_block, index_left, gap_left, block_left, block_written}
use Rattle.dirac_coeffs.proofs.band_writer.write_indexed.Goals as goal

pub returns-in-Err-clause-front : goal.returns-in-Err-clause-front
returns-in-Err-clause-front c = no_block c.args.index c.args.block.now c.in-Err.ensures.err

pub returns-in-Err-uint-clause-front : goal.returns-in-Err-uint-clause-front
returns-in-Err-uint-clause-front c =
    let one : c.uint.new.self ≡ c.args.w.now ++ uint (length c.args.block.now) = c.in-Ok.ensures.ok in
    index_left c.args.index c.args.block.now one c.in-Err-uint.ensures.err

pub returns-in-Err-align-clause-front : goal.returns-in-Err-align-clause-front
returns-in-Err-align-clause-front c =
    let one : c.uint.new.self ≡ c.args.w.now ++ uint (length c.args.block.now) = c.in-Ok.ensures.ok in
    let two : c.uint-in-Ok.new.self ≡ c.uint.new.self ++ uint c.args.index = c.in-Ok-uint.ensures.ok ∙ ap (λ (n : ℕ). c.uint.new.self ++ uint n) c.from.ensures in
    gap_left c.args.index c.args.block.now one two c.in-Err-align.ensures.err

pub returns-in-Ok-align-clause-exact : goal.returns-in-Ok-align-clause-exact
returns-in-Ok-align-clause-exact c =
    let one : c.uint.new.self ≡ c.args.w.now ++ uint (length c.args.block.now) = c.in-Ok.ensures.ok in
    let two : c.uint-in-Ok.new.self ≡ c.uint.new.self ++ uint c.args.index = c.in-Ok-uint.ensures.ok ∙ ap (λ (n : ℕ). c.uint.new.self ++ uint n) c.from.ensures in
    on_ok_weaker c.block.result (λ e. block_written c.args.w.now c.args.index c.args.block.now one two c.in-Ok-align.ensures.ok e) c.block.ensures.ok

pub returns-in-Ok-align-clause-front : goal.returns-in-Ok-align-clause-front
returns-in-Ok-align-clause-front c =
    let one : c.uint.new.self ≡ c.args.w.now ++ uint (length c.args.block.now) = c.in-Ok.ensures.ok in
    let two : c.uint-in-Ok.new.self ≡ c.uint.new.self ++ uint c.args.index = c.in-Ok-uint.ensures.ok ∙ ap (λ (n : ℕ). c.uint.new.self ++ uint n) c.from.ensures in
    err_so c.block.result (λ e. block_left c.args.index c.args.block.now one two c.in-Ok-align.ensures.ok e) c.block.ensures.err

pub uint-requires : goal.uint-requires
uint-requires c = c.requires
