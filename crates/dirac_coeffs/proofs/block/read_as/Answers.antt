use Rattle.dirac_coeffs.specs.BandRead.{band_read}
use Rattle.dirac_coeffs.specs.Lent.{IsNarrow, content_in, numbers_in}
use Rattle.dirac_coeffs.proofs.Read.{block_held, block_stopped, some_held, some_stopped}
use Rattle.dirac_coeffs.proofs.block.read_as.Goals as goal

pub read_content-requires-clause-zeros : goal.read_content-requires-clause-zeros
read_content-requires-clause-zeros c = c.in-Ok.ensures.zeros

pub read_content-requires-clause-equal : goal.read_content-requires-clause-equal
read_content-requires-clause-equal c = c.in-Ok.ensures.equal

pub held_block-requires-clause-layout : goal.held_block-requires-clause-layout
held_block-requires-clause-layout c = c.requires.layout

pub held_block-requires-clause-len : goal.held_block-requires-clause-len
held_block-requires-clause-len c = c.read_content.ensures.len

pub returns-in-Ok-read_content-clause-value : goal.returns-in-Ok-read_content-clause-value
returns-in-Ok-read_content-clause-value c =
    block_held c.args.frame.layout c.args.at c.held_block.result (content_in c.read_content.new.filling) (band_read c.args.frame.layout (numbers_in c.args.frame.parent) c.args.frame.index c.args.block.now) c.held_block.ensures c.in-Ok-read_content.ensures.value

pub returns-in-Ok-read_content-clause-wide_is_found : goal.returns-in-Ok-read_content-clause-wide_is_found
returns-in-Ok-read_content-clause-wide_is_found c = λ wide. some_held c.args.frame.layout c.held_block.result (content_in c.read_content.new.filling) c.held_block.ensures

pub returns-in-Err-read_content-clause-value : goal.returns-in-Err-read_content-clause-value
returns-in-Err-read_content-clause-value c =
    rw c.stopped.ensures (block_stopped c.args.frame.layout c.args.at (IsNarrow c.read_content.new.filling.values) c.in-Err-read_content.unread (band_read c.args.frame.layout (numbers_in c.args.frame.parent) c.args.frame.index c.args.block.now) c.in-Err-read_content.ensures.value)

pub returns-in-Err-read_content-clause-wide_is_found : goal.returns-in-Err-read_content-clause-wide_is_found
returns-in-Err-read_content-clause-wide_is_found c = λ wide.
    rw c.stopped.ensures (some_stopped c.args.at (IsNarrow c.read_content.new.filling.values) c.in-Err-read_content.unread (band_read c.args.frame.layout (numbers_in c.args.frame.parent) c.args.frame.index c.args.block.now) c.in-Err-read_content.ensures.value (λ n. c.in-Ok.ensures.wide wide (c.read_content.ensures.narrow n)))

pub read_content-requires-clause-layout : goal.read_content-requires-clause-layout
read_content-requires-clause-layout c = c.requires.layout

pub empty_filling-requires : goal.empty_filling-requires
empty_filling-requires c = record { layout = c.requires.layout }
