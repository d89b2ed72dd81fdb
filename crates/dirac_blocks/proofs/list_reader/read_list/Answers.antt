use Rattle.std.proofs.Common.{◌≤◌, ℕ, List, length, ap, ◌∙◌, subst, arith}
use Rattle.dirac_blocks.specs.Grammar.{step_of}
use Rattle.dirac_blocks.proofs.InTurn.{list_found, list_refused, length_refused, block_refused}
use Rattle.dirac_bits.specs.Cursor.{Cursor}
use Rattle.dirac_blocks.proofs.Shapes.{size_refl}
use Rattle.dirac_blocks.proofs.list_reader.read_list.Goals as goal

pub returns-in-Err-clause-value : goal.returns-in-Err-clause-value
returns-in-Err-clause-value c = length_refused (step_of c.args.part) c.args.table.now c.args.r.now c.in-Err.e c.in-Err.ensures.value.0

pub returns-in-Err-block-clause-value : goal.returns-in-Err-block-clause-value
returns-in-Err-block-clause-value c =
    block_refused (step_of c.args.part) c.args.table.now c.args.r.now c.uint.new.self c.align.new.self c.in-Ok.len c.in-Err-block.e c.in-Ok.ensures.value c.align.ensures.value c.in-Err-block.ensures.value.0

pub returns-in-Ok-decode_list-clause-value : goal.returns-in-Ok-decode_list-clause-value
returns-in-Ok-decode_list-clause-value c =
    list_found (step_of c.args.part) c.args.table.now c.decode_list.new.table c.args.r.now c.uint.new.self c.align.new.self c.block.new.self c.in-Ok.len c.in-Ok-block.block.now c.in-Ok-decode_list.ensures.value.0
    c.in-Ok.ensures.value c.align.ensures.value c.in-Ok-block.ensures.value c.in-Ok-decode_list.ensures.value.1

pub returns-in-Err-decode_list-clause-value : goal.returns-in-Err-decode_list-clause-value
returns-in-Err-decode_list-clause-value c =
    list_refused (step_of c.args.part) c.args.table.now c.args.r.now c.uint.new.self c.align.new.self c.block.new.self c.in-Ok.len c.in-Ok-block.block.now c.in-Err-decode_list.cause c.place-at.result
    c.in-Ok.ensures.value c.align.ensures.value c.in-Ok-block.ensures.value c.in-Err-decode_list.ensures.value c.place-at.ensures.value

pub block-requires : goal.block-requires
block-requires c = rw c.align.ensures.value (omega arith)

pub decode_list-requires : goal.decode_list-requires
decode_list-requires c = c.requires

pub returns-in-Ok-decode_list-clause-size : goal.returns-in-Ok-decode_list-clause-size
returns-in-Ok-decode_list-clause-size c = c.decode_list.ensures.size

pub returns-in-Err-decode_list-clause-size : goal.returns-in-Err-decode_list-clause-size
returns-in-Err-decode_list-clause-size c = c.decode_list.ensures.size

pub returns-in-Ok-decode_list-clause-place_inside : goal.returns-in-Ok-decode_list-clause-place_inside
returns-in-Ok-decode_list-clause-place_inside c = tt

pub returns-in-Ok-decode_list-clause-kept : goal.returns-in-Ok-decode_list-clause-kept
returns-in-Ok-decode_list-clause-kept c = c.block.ensures.kept ∙ ap (λ (r : Cursor). r.bytes) c.align.ensures.value ∙ c.uint.ensures.kept

pub returns-in-Err-decode_list-clause-kept : goal.returns-in-Err-decode_list-clause-kept
returns-in-Err-decode_list-clause-kept c = c.block.ensures.kept ∙ ap (λ (r : Cursor). r.bytes) c.align.ensures.value ∙ c.uint.ensures.kept

pub returns-in-Err-block-clause-kept : goal.returns-in-Err-block-clause-kept
returns-in-Err-block-clause-kept c = c.block.ensures.kept ∙ ap (λ (r : Cursor). r.bytes) c.align.ensures.value ∙ c.uint.ensures.kept

pub returns-in-Err-clause-kept : goal.returns-in-Err-clause-kept
returns-in-Err-clause-kept c = c.uint.ensures.kept

pub returns-in-Err-clause-size : goal.returns-in-Err-clause-size
returns-in-Err-clause-size c = size_refl c.args.table.now

pub returns-in-Err-block-clause-size : goal.returns-in-Err-block-clause-size
returns-in-Err-block-clause-size c = size_refl c.args.table.now

pub returns-in-Err-clause-place_inside : goal.returns-in-Err-clause-place_inside
returns-in-Err-clause-place_inside c = c.in-Err.ensures.place_inside

pub returns-in-Err-block-clause-place_inside : goal.returns-in-Err-block-clause-place_inside
returns-in-Err-block-clause-place_inside c = subst (λ (bs : List ℕ). c.in-Err-block.e.at ≤ length bs) (ap (λ (r : Cursor). r.bytes) c.align.ensures.value ∙ c.uint.ensures.kept) c.in-Err-block.ensures.place_inside

pub returns-in-Err-decode_list-clause-place_inside : goal.returns-in-Err-decode_list-clause-place_inside
returns-in-Err-decode_list-clause-place_inside c = subst (λ (bs : List ℕ). c.place-at.result ≤ length bs) (ap (λ (r : Cursor). r.bytes) c.align.ensures.value ∙ c.uint.ensures.kept) c.place-at.ensures.place_inside
