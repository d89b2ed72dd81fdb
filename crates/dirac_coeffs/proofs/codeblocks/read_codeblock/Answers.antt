use Rattle.std.proofs.Common.{ℕ, Err, arith, refl}
use Rattle.dirac_coeffs.specs.declared.store.Unread.TheVariants as unread
use Rattle.dirac_coeffs.specs.BandRead.{band_content}
use Rattle.dirac_coeffs.specs.Lent.{IsNarrow, content_in, numbers_in, values_in}
use Rattle.dirac_coeffs.proofs.OffsetsRead.{block_refused, block_skipped, block_unskipped, unskipped_moves, unskipped_stops}
use Rattle.dirac_coeffs.proofs.codeblocks.read_codeblock.Goals as goal

pub returns-then-skipped-clause-value : goal.returns-then-skipped-clause-value
returns-then-skipped-clause-value c =
    block_skipped c.args.frame.layout (numbers_in c.args.frame.parent) c.args.frame.index c.args.codeblock.row c.args.codeblock.column (content_in c.args.filling.now) c.note_former.new.indices
    c.args.decoder.now c.read_flag.new.decoder c.in-Ok.skipped c.in-Ok.ensures.value c.if-skipped.true c.note_former.ensures.value

pub returns-then-skipped-clause-len : goal.returns-then-skipped-clause-len
returns-then-skipped-clause-len c = refl

pub returns-then-skipped-clause-narrow : goal.returns-then-skipped-clause-narrow
returns-then-skipped-clause-narrow c = λ n. n

pub returns-then-skipped-clause-count : goal.returns-then-skipped-clause-count
returns-then-skipped-clause-count c = c.note_former.ensures.count

pub returns-then-skipped-clause-few_doublings : goal.returns-then-skipped-clause-few_doublings
returns-then-skipped-clause-few_doublings c = omega (arith, c.read_flag.ensures.few_doublings)

pub returns-in-Ok-read_offset-clause-value : goal.returns-in-Ok-read_offset-clause-value
returns-in-Ok-read_offset-clause-value c =
    let layout = c.args.frame.layout in
    let parent = numbers_in c.args.frame.parent in
    let index = c.args.frame.index in
    let row = c.args.codeblock.row in
    let column = c.args.codeblock.column in
    let old = c.args.filling.now in
    let narrow = IsNarrow c.read_block_values.new.values in
    let moves = unskipped_moves narrow c.read_block_values.result layout parent index row column (values_in old.values) (values_in c.read_block_values.new.values) old.indices c.read_offset.new.indices c.read_flag.new.decoder c.read_offset.new.decoder c.read_block_values.new.decoder
    c.in-Ok-read_offset.ensures.value c.read_block_values.ensures.value in
    block_unskipped narrow c.read_block_values.result layout parent index row column (content_in old) (band_content (values_in c.read_block_values.new.values) c.read_offset.new.indices)
    c.args.decoder.now c.read_flag.new.decoder c.read_block_values.new.decoder c.in-Ok.skipped c.in-Ok.ensures.value c.if-skipped.false moves

pub returns-in-Ok-read_offset-clause-len : goal.returns-in-Ok-read_offset-clause-len
returns-in-Ok-read_offset-clause-len c = c.read_block_values.ensures.len

pub returns-in-Ok-read_offset-clause-narrow : goal.returns-in-Ok-read_offset-clause-narrow
returns-in-Ok-read_offset-clause-narrow c = c.read_block_values.ensures.narrow

pub returns-in-Ok-read_offset-clause-count : goal.returns-in-Ok-read_offset-clause-count
returns-in-Ok-read_offset-clause-count c = c.read_offset.ensures.count

pub returns-in-Ok-read_offset-clause-few_doublings : goal.returns-in-Ok-read_offset-clause-few_doublings
returns-in-Ok-read_offset-clause-few_doublings c = omega (arith, c.read_flag.ensures.few_doublings, c.read_offset.ensures.few_doublings, c.read_block_values.ensures.few_doublings)

pub returns-in-Err-read_offset-clause-value : goal.returns-in-Err-read_offset-clause-value
returns-in-Err-read_offset-clause-value c =
    let layout = c.args.frame.layout in
    let parent = numbers_in c.args.frame.parent in
    let old = content_in c.args.filling.now in
    block_unskipped {A = ℕ} (IsNarrow c.args.filling.now.values) (Err (unread.Refused c.in-Err-read_offset.cause)) layout parent c.args.frame.index c.args.codeblock.row c.args.codeblock.column old old
    c.args.decoder.now c.read_flag.new.decoder c.read_offset.new.decoder c.in-Ok.skipped c.in-Ok.ensures.value c.if-skipped.false
    (unskipped_stops layout parent c.args.frame.index c.args.codeblock.row c.args.codeblock.column old c.read_flag.new.decoder c.in-Err-read_offset.cause c.in-Err-read_offset.ensures.value)

pub returns-in-Err-read_offset-clause-len : goal.returns-in-Err-read_offset-clause-len
returns-in-Err-read_offset-clause-len c = refl

pub returns-in-Err-read_offset-clause-narrow : goal.returns-in-Err-read_offset-clause-narrow
returns-in-Err-read_offset-clause-narrow c = λ n. n

pub returns-in-Err-read_offset-clause-count : goal.returns-in-Err-read_offset-clause-count
returns-in-Err-read_offset-clause-count c = c.read_offset.ensures.count

pub returns-in-Err-read_offset-clause-few_doublings : goal.returns-in-Err-read_offset-clause-few_doublings
returns-in-Err-read_offset-clause-few_doublings c = omega (arith, c.read_flag.ensures.few_doublings, c.read_offset.ensures.few_doublings)

pub returns-in-Err-clause-value : goal.returns-in-Err-clause-value
returns-in-Err-clause-value c =
    block_refused c.args.frame.layout (numbers_in c.args.frame.parent) c.args.frame.index c.args.codeblock.row c.args.codeblock.column (content_in c.args.filling.now)
    c.args.decoder.now c.read_flag.new.decoder c.in-Err.cause c.in-Err.ensures.value

pub returns-in-Err-clause-len : goal.returns-in-Err-clause-len
returns-in-Err-clause-len c = refl

pub returns-in-Err-clause-narrow : goal.returns-in-Err-clause-narrow
returns-in-Err-clause-narrow c = λ n. n

pub returns-in-Err-clause-count : goal.returns-in-Err-clause-count
returns-in-Err-clause-count c = refl

pub returns-in-Err-clause-few_doublings : goal.returns-in-Err-clause-few_doublings
returns-in-Err-clause-few_doublings c = omega (arith, c.read_flag.ensures.few_doublings)

pub read_offset-requires-clause-count : goal.read_offset-requires-clause-count
read_offset-requires-clause-count c = c.requires.count

pub read_offset-requires-clause-no_overflow : goal.read_offset-requires-clause-no_overflow
read_offset-requires-clause-no_overflow c = omega (arith, c.requires.no_overflow, c.read_flag.ensures.few_doublings)

pub read_block_values-requires-clause-len : goal.read_block_values-requires-clause-len
read_block_values-requires-clause-len c = c.requires.len

pub read_block_values-requires-clause-no_overflow : goal.read_block_values-requires-clause-no_overflow
read_block_values-requires-clause-no_overflow c = omega (arith, c.requires.no_overflow, c.read_flag.ensures.few_doublings, c.read_offset.ensures.few_doublings)

pub read_flag-requires : goal.read_flag-requires
read_flag-requires c = omega (arith, c.requires.no_overflow)

pub note_former-requires-clause-count : goal.note_former-requires-clause-count
note_former-requires-clause-count c = c.requires.count

pub read_offset-requires-clause-block : goal.read_offset-requires-clause-block
read_offset-requires-clause-block c = c.requires.block

pub note_former-requires-clause-block : goal.note_former-requires-clause-block
note_former-requires-clause-block c = c.requires.block

pub read_block_values-requires-clause-block : goal.read_block_values-requires-clause-block
read_block_values-requires-clause-block c = c.requires.block
