use Rattle.std.proofs.Common.{◌≤◌, ℕ, List, length, ap, ◌∙◌, subst, refl, sym}
use Rattle.dirac_blocks.proofs.InTurn.{blocks_read}
use Rattle.dirac_bits.specs.Cursor.{Cursor}
use Rattle.dirac_block_table.specs.Tables.{BlockTable}
use Rattle.dirac_blocks.specs.Reached.{AllGrey}
use Rattle.dirac_blocks.proofs.Shapes.{empty_grey}
use Rattle.dirac_blocks.proofs.reader.read_blocks.Goals as goal

pub returns-in-Ok-read_lists-clause-value : goal.returns-in-Ok-read_lists-clause-value
returns-in-Ok-read_lists-clause-value c =
    blocks_read c.args.across c.args.down c.args.refs c.in-Ok.table c.args.r.now c.align.new.self _ c.in-Ok.ensures c.align.ensures.value c.in-Ok-read_lists.ensures.value

pub returns-in-Err-read_lists-clause-value : goal.returns-in-Err-read_lists-clause-value
returns-in-Err-read_lists-clause-value c =
    blocks_read c.args.across c.args.down c.args.refs c.in-Ok.table c.args.r.now c.align.new.self _ c.in-Ok.ensures c.align.ensures.value c.in-Err-read_lists.ensures.value

pub try_new-requires : goal.try_new-requires
try_new-requires c = c.requires.size

pub returns-in-Ok-read_lists-clause-place_inside : goal.returns-in-Ok-read_lists-clause-place_inside
returns-in-Ok-read_lists-clause-place_inside c = tt

pub returns-in-Ok-read_lists-clause-kept : goal.returns-in-Ok-read_lists-clause-kept
returns-in-Ok-read_lists-clause-kept c = c.read_lists.ensures.kept ∙ ap (λ (r : Cursor). r.bytes) c.align.ensures.value

pub returns-in-Ok-read_lists-clause-lawful : goal.returns-in-Ok-read_lists-clause-lawful
returns-in-Ok-read_lists-clause-lawful c = c.refs.ensures.lawful

pub returns-in-Ok-read_lists-clause-across : goal.returns-in-Ok-read_lists-clause-across
returns-in-Ok-read_lists-clause-across c = c.read_lists.ensures.size.across ∙ ap (λ (t : BlockTable). t.across) c.in-Ok.ensures

pub returns-in-Ok-read_lists-clause-down : goal.returns-in-Ok-read_lists-clause-down
returns-in-Ok-read_lists-clause-down c = c.read_lists.ensures.size.down ∙ ap (λ (t : BlockTable). t.down) c.in-Ok.ensures

pub returns-in-Ok-read_lists-clause-refs : goal.returns-in-Ok-read_lists-clause-refs
returns-in-Ok-read_lists-clause-refs c = c.read_lists.ensures.size.refs ∙ ap (λ (t : BlockTable). t.refs) c.in-Ok.ensures

pub returns-in-Err-read_lists-clause-place_inside : goal.returns-in-Err-read_lists-clause-place_inside
returns-in-Err-read_lists-clause-place_inside c = subst (λ (bs : List ℕ). c.in-Err-read_lists.refusal.at ≤ length bs) (ap (λ (r : Cursor). r.bytes) c.align.ensures.value) c.in-Err-read_lists.ensures.place_inside

pub returns-in-Err-read_lists-clause-kept : goal.returns-in-Err-read_lists-clause-kept
returns-in-Err-read_lists-clause-kept c = c.read_lists.ensures.kept ∙ ap (λ (r : Cursor). r.bytes) c.align.ensures.value

pub returns-in-Err-read_lists-clause-lawful : goal.returns-in-Err-read_lists-clause-lawful
returns-in-Err-read_lists-clause-lawful c = tt

pub returns-in-Err-read_lists-clause-across : goal.returns-in-Err-read_lists-clause-across
returns-in-Err-read_lists-clause-across c = tt

pub returns-in-Err-read_lists-clause-down : goal.returns-in-Err-read_lists-clause-down
returns-in-Err-read_lists-clause-down c = tt

pub returns-in-Err-read_lists-clause-refs : goal.returns-in-Err-read_lists-clause-refs
returns-in-Err-read_lists-clause-refs c = tt

pub returns-in-Err-clause-value : goal.returns-in-Err-clause-value
returns-in-Err-clause-value c = tt

pub returns-in-Err-clause-place_inside : goal.returns-in-Err-clause-place_inside
returns-in-Err-clause-place_inside c = tt

pub returns-in-Err-clause-lawful : goal.returns-in-Err-clause-lawful
returns-in-Err-clause-lawful c = tt

pub returns-in-Err-clause-across : goal.returns-in-Err-clause-across
returns-in-Err-clause-across c = tt

pub returns-in-Err-clause-down : goal.returns-in-Err-clause-down
returns-in-Err-clause-down c = tt

pub returns-in-Err-clause-refs : goal.returns-in-Err-clause-refs
returns-in-Err-clause-refs c = tt

pub returns-in-Err-clause-kept : goal.returns-in-Err-clause-kept
returns-in-Err-clause-kept c = refl

pub read_lists-requires : goal.read_lists-requires
read_lists-requires c = subst (λ (t : BlockTable). AllGrey t.blocks) (sym c.in-Ok.ensures) (empty_grey c.args.across c.args.down c.args.refs)
