use Rattle.std.proofs.Common.{◌≡◌, ◌≤◌, ℕ, Ok, Result, arith, refl, ap, subst, sym, ◌∙◌}
use Rattle.dirac_common.specs.declared.faults.Cause.{Cause}
use Rattle.dirac_arith.specs.Coded.{read_coded, repeated}
use Rattle.dirac_arith.specs.Deciding.{begin}
use Rattle.dirac_arith.specs.Reading.{Reading}
use Rattle.dirac_arith.proofs.CodedValues.{repeated_none, repeated_next, repeated_stops}
use Rattle.dirac_block_table.specs.Tables.{BlockTable}
use Rattle.dirac_blocks.specs.Grammar.{list_step}
use Rattle.dirac_blocks.specs.Reached.{AllGrey}
use Rattle.dirac_blocks.proofs.InLists.{by_superblocks}
use Rattle.dirac_blocks.proofs.Shapes.{repeated_sizes, size_refl, size_join}
use Rattle.dirac_blocks.proofs.list_reader.decode_list.Goals as goal

pub rows-init : goal.rows-init
rows-init c =
    let t = c.args.table.now in
    record {
      value =
          repeated_none (λ sy. repeated (list_step c.args.list sy) c.across-across.result) t (begin c.args.block.now)
          ∙ ap (λ (r : Reading). let x : Result (BlockTable × Reading) Cause = Ok (t, r) in x) (sym c.new-decoder.ensures);
      size = size_refl t;
      blocks = λ e. refl;
      few_doublings = subst (λ (r : Reading). r.at.doublings ≤ 0) (sym c.new-decoder.ensures) (omega arith);
    }

pub superblocks-init : goal.superblocks-init
superblocks-init c =
    record {
      value =
          record {
            table = c.rows.table;
            reading = c.rows.decoder;
            rows = c.rows.invariant.value;
            row = repeated_none (list_step c.args.list c.rows.sy) c.rows.table c.rows.decoder;
          };
      size = c.rows.invariant.size;
      blocks = c.rows.invariant.blocks;
      few_doublings = omega (arith, c.rows.invariant.few_doublings);
    }

pub read_cell-requires-clause-column : goal.read_cell-requires-clause-column
read_cell-requires-clause-column c =
    let same = c.superblocks.invariant.size.across in
    omega (arith, c.across-across.ensures.value)

pub read_cell-requires-clause-row : goal.read_cell-requires-clause-row
read_cell-requires-clause-row c =
    let same = c.superblocks.invariant.size.down in
    omega (arith, c.down-down.ensures.value)

pub read_cell-requires-clause-grey : goal.read_cell-requires-clause-grey
read_cell-requires-clause-grey c = λ e. subst AllGrey (sym (c.superblocks.invariant.blocks e)) (c.requires e)

pub read_cell-requires-clause-no_overflow : goal.read_cell-requires-clause-no_overflow
read_cell-requires-clause-no_overflow c =
    omega (arith, c.superblocks.invariant.few_doublings, c.down-down.ensures.value, c.down-down.ensures.lawful.size.most_down, c.across-across.ensures.value, c.across-across.ensures.lawful.size.most_across)

pub superblocks-preserved : goal.superblocks-preserved
superblocks-preserved c =
    let v = c.superblocks.invariant.value in
    record {
      value =
          record {
            table = v.table;
            reading = v.reading;
            rows = v.rows;
            row = repeated_next (list_step c.args.list c.rows.sy) c.superblocks.sx v.table v.reading c.superblocks.table c.superblocks.decoder _ v.row c.in-Ok.ensures.value;
          };
      size = size_join c.args.table.now c.superblocks.table c.read_cell.new.table c.superblocks.invariant.size c.read_cell.ensures.size;
      blocks = λ e. c.read_cell.ensures.blocks e ∙ c.superblocks.invariant.blocks e;
      few_doublings = omega (arith, c.superblocks.invariant.few_doublings, c.read_cell.ensures.few_doublings);
    }

pub rows-preserved : goal.rows-preserved
rows-preserved c =
    let v = c.superblocks.invariant.value in
    let all : c.superblocks.sx ≡ c.across-across.result = omega arith in
    let row = subst (λ (n : ℕ). read_coded (repeated (list_step c.args.list c.rows.sy) n v.table) v.reading ≡ Ok (c.superblocks.table, c.superblocks.decoder)) all v.row in
    record {
      value = repeated_next (λ sy. repeated (list_step c.args.list sy) c.across-across.result) c.rows.sy c.args.table.now (begin c.args.block.now) v.table v.reading _ v.rows row;
      size = c.superblocks.invariant.size;
      blocks = c.superblocks.invariant.blocks;
      few_doublings = omega (arith, c.superblocks.invariant.few_doublings, c.across-across.ensures.value, c.across-across.ensures.lawful.size.most_across);
    }

pub returns-clause-value : goal.returns-clause-value
returns-clause-value c =
    let t = c.args.table.now in
    let all : c.rows.sy ≡ t.down = omega (arith, c.down-down.ensures.value) in
    (c.rows.decoder, by_superblocks c.args.list t (begin c.args.block.now) (repeated_sizes (list_step c.args.list) t (begin c.args.block.now) c.across-across.ensures.value all c.rows.invariant.value))

pub returns-clause-size : goal.returns-clause-size
returns-clause-size c = c.rows.invariant.size

pub returns-in-Err-clause-value : goal.returns-in-Err-clause-value
returns-in-Err-clause-value c =
    let t = c.args.table.now in
    let r = begin c.args.block.now in
    let v = c.superblocks.invariant.value in
    by_superblocks c.args.list t r
    (repeated_sizes (list_step c.args.list) t r c.across-across.ensures.value c.down-down.ensures.value
    (repeated_stops (λ sy. repeated (list_step c.args.list sy) c.across-across.result) c.rows.sy c.down-down.result t r v.table v.reading c.in-Err.cause (omega arith) v.rows
    (repeated_stops (list_step c.args.list c.rows.sy) c.superblocks.sx c.across-across.result v.table v.reading c.superblocks.table c.superblocks.decoder c.in-Err.cause (omega arith) v.row c.in-Err.ensures.value)))

pub returns-in-Err-clause-size : goal.returns-in-Err-clause-size
returns-in-Err-clause-size c = size_join c.args.table.now c.superblocks.table c.read_cell.new.table c.superblocks.invariant.size c.read_cell.ensures.size
