use Rattle.std.proofs.Common.{◌≡◌, ◌+◌, ◌*◌, ◌≤◌, ◌∙◌, ℕ, Ok, arith, refl, subst, sym}
use Rattle.std.proofs.lemmas.Nat.{mul-le}
use Rattle.std.proofs.lemmas.Option.{none-some}
use Rattle.dirac_arith.specs.Coded.{read_coded}
use Rattle.dirac_blocks.specs.Grammar.{unit_read_step, unit_row_step}
use Rattle.dirac_arith.proofs.CodedValues.{repeated_none, repeated_next, repeated_stops}
use Rattle.dirac_blocks.proofs.InLists.{none_is}
use Rattle.dirac_blocks.proofs.Shapes.{shape_refl, shape_join, fill_of, superblock_read, unit_found, unit_refused, unit_there, unit_within, unit_written}
use Rattle.dirac_blocks.proofs.list_reader.read_cell.Goals as goal

pub split-split-requires-clause-across : goal.split-split-requires-clause-across
split-split-requires-clause-across c = c.requires.column

pub split-split-requires-clause-down : goal.split-split-requires-clause-down
split-split-requires-clause-down c = c.requires.row

pub unit_blocks-size-requires : goal.unit_blocks-size-requires
unit_blocks-size-requires c = c.split-split.ensures.at_most_2

pub units_across-across-requires : goal.units_across-across-requires
units_across-across-requires c = c.split-split.ensures.at_most_2

pub overflow_cast-size : goal.overflow_cast-size
overflow_cast-size c = omega (arith, c.unit_blocks-size.ensures.at_most_4)

pub overflow_cast-across : goal.overflow_cast-across
overflow_cast-across c = omega (arith, c.units_across-across.ensures.at_most_4)

pub overflow_mul-left : goal.overflow_mul-left
overflow_mul-left c = omega (arith, c.split-split.ensures.lawful.size.most_across)

pub overflow_mul-top : goal.overflow_mul-top
overflow_mul-top c = omega (arith, c.split-split.ensures.lawful.size.most_down)

pub overflow_mul-row : goal.overflow_mul-row
overflow_mul-row c =
    let few : c.rows.v * c.unit_blocks-size.result ≤ 4 * 4 = mul-le c.rows.v c.unit_blocks-size.result 4 4 (omega (arith, c.units_across-across.ensures.at_most_4)) c.unit_blocks-size.ensures.at_most_4 in
    omega arith

pub overflow_add-row : goal.overflow_add-row
overflow_add-row c =
    let few : c.rows.v * c.unit_blocks-size.result ≤ 4 * 4 = mul-le c.rows.v c.unit_blocks-size.result 4 4 (omega (arith, c.units_across-across.ensures.at_most_4)) c.unit_blocks-size.ensures.at_most_4 in
    omega (arith, c.split-split.ensures.lawful.size.most_down)

pub overflow_mul-column : goal.overflow_mul-column
overflow_mul-column c =
    let few : c.units.u * c.unit_blocks-size.result ≤ 4 * 4 = mul-le c.units.u c.unit_blocks-size.result 4 4 (omega (arith, c.units_across-across.ensures.at_most_4)) c.unit_blocks-size.ensures.at_most_4 in
    omega arith

pub overflow_add-column : goal.overflow_add-column
overflow_add-column c =
    let few : c.units.u * c.unit_blocks-size.result ≤ 4 * 4 = mul-le c.units.u c.unit_blocks-size.result 4 4 (omega (arith, c.units_across-across.ensures.at_most_4)) c.unit_blocks-size.ensures.at_most_4 in
    omega (arith, c.split-split.ensures.lawful.size.most_across)

pub rows-init : goal.rows-init
rows-init c =
    let size = c.unit_blocks-size.result in
    record {
      value = repeated_none (λ v. unit_row_step c.in-Some.part size (4 * c.args.sx) (4 * c.args.sy + v * size) c.units_across-across.result) c.args.table.now c.args.decoder.now;
      shape = shape_refl c.args.table.now;
      few_doublings = omega arith;
    }

pub units-init : goal.units-init
units-init c =
    let size = c.unit_blocks-size.result in
    record {
      value =
          record {
            table = c.rows.table;
            reading = c.rows.decoder;
            rows = c.rows.invariant.value;
            row = repeated_none (λ u. unit_read_step c.in-Some.part size (4 * c.args.sx + u * size) (4 * c.args.sy + c.rows.v * size)) c.rows.table c.rows.decoder;
          };
      shape = c.rows.invariant.shape;
      few_doublings = omega (arith, c.rows.invariant.few_doublings);
    }

pub read_unit_block-requires-clause-column : goal.read_unit_block-requires-clause-column
read_unit_block-requires-clause-column c =
    let same = c.units.invariant.shape.across in
    let fill = fill_of c.split-split.result c.unit_blocks-size.result c.units_across-across.result c.split-split.ensures.at_most_2 c.unit_blocks-size.ensures.value c.units_across-across.ensures.value in
    omega (arith, unit_within (4 * c.args.sx) c.units.u c.units_across-across.result c.unit_blocks-size.result (4 * c.args.table.now.across) (omega arith) c.unit_blocks-size.ensures.at_least_1 (omega (arith, fill)))

pub read_unit_block-requires-clause-row : goal.read_unit_block-requires-clause-row
read_unit_block-requires-clause-row c =
    let same = c.units.invariant.shape.down in
    let fill = fill_of c.split-split.result c.unit_blocks-size.result c.units_across-across.result c.split-split.ensures.at_most_2 c.unit_blocks-size.ensures.value c.units_across-across.ensures.value in
    omega (arith, unit_within (4 * c.args.sy) c.rows.v c.units_across-across.result c.unit_blocks-size.result (4 * c.args.table.now.down) (omega arith) c.unit_blocks-size.ensures.at_least_1 (omega (arith, fill)))

pub read_unit_block-requires-clause-no_overflow : goal.read_unit_block-requires-clause-no_overflow
read_unit_block-requires-clause-no_overflow c = omega (arith, c.units.invariant.few_doublings, c.units_across-across.ensures.at_most_4)

pub set_unit-requires-clause-unit : goal.set_unit-requires-clause-unit
set_unit-requires-clause-unit c =
    unit_there c.args.table.now c.units.table c.args.sx c.args.sy c.split-split.result c.unit_blocks-size.result c.units_across-across.result c.units.u c.rows.v c.units.invariant.shape c.requires.column c.requires.row
    c.split-split.ensures.value c.unit_blocks-size.ensures.value c.units_across-across.ensures.value (omega arith) (omega arith)

pub set_unit-requires-clause-block : goal.set_unit-requires-clause-block
set_unit-requires-clause-block c = c.in-Ok.ensures.block

pub units-preserved : goal.units-preserved
units-preserved c =
    let size = c.unit_blocks-size.result in
    let column = 4 * c.args.sx + c.units.u * size in
    let row = 4 * c.args.sy + c.rows.v * size in
    let t = c.units.table in
    let m = c.units.invariant.value in
    record {
      value =
          record {
            table = m.table;
            reading = m.reading;
            rows = m.rows;
            row =
                repeated_next (λ u. unit_read_step c.in-Some.part size (4 * c.args.sx + u * size) (4 * c.args.sy + c.rows.v * size)) c.units.u m.table m.reading t c.units.decoder _ m.row
                (unit_found c.in-Some.part t c.set_unit.new.self size column row c.in-Ok.block c.units.decoder c.read_unit_block.new.decoder c.in-Ok.ensures.value c.set_unit.ensures.value);
          };
      shape = shape_join c.args.table.now t c.set_unit.new.self c.units.invariant.shape (unit_written t c.set_unit.new.self size column row c.in-Ok.block c.set_unit.ensures.value);
      few_doublings = omega (arith, c.units.invariant.few_doublings, c.read_unit_block.ensures.few_doublings);
    }

pub rows-preserved : goal.rows-preserved
rows-preserved c =
    let size = c.unit_blocks-size.result in
    let m = c.units.invariant.value in
    let all : c.units.u ≡ c.units_across-across.result = omega arith in
    let row = subst (λ (n : ℕ). read_coded (unit_row_step c.in-Some.part size (4 * c.args.sx) (4 * c.args.sy + c.rows.v * size) n m.table) m.reading ≡ Ok (c.units.table, c.units.decoder)) all m.row in
    record {
      value = repeated_next (λ v. unit_row_step c.in-Some.part size (4 * c.args.sx) (4 * c.args.sy + v * size) c.units_across-across.result) c.rows.v c.args.table.now c.args.decoder.now m.table m.reading _ m.rows row;
      shape = c.units.invariant.shape;
      few_doublings = omega (arith, c.units.invariant.few_doublings, c.units_across-across.ensures.at_most_4);
    }

pub returns-clause-value : goal.returns-clause-value
returns-clause-value c =
    let read =
    superblock_read c.in-Some.part c.args.table.now c.args.sx c.args.sy c.split-split.result c.unit_blocks-size.result c.units_across-across.result c.rows.v c.args.decoder.now _
    c.split-split.ensures.value c.unit_blocks-size.ensures.value c.units_across-across.ensures.value (omega arith) c.rows.invariant.value in
    rw c.in-Some.is read

pub returns-clause-size : goal.returns-clause-size
returns-clause-size c =
    let same = c.rows.invariant.shape in
    record { across = same.across; down = same.down; refs = same.refs }

pub returns-clause-blocks : goal.returns-clause-blocks
returns-clause-blocks c = λ e. absurd (none-some c.in-Some.part (sym e ∙ c.in-Some.is))

pub returns-clause-few_doublings : goal.returns-clause-few_doublings
returns-clause-few_doublings c = omega (arith, c.rows.invariant.few_doublings, c.units_across-across.ensures.at_most_4)

pub returns-in-Err-clause-value : goal.returns-in-Err-clause-value
returns-in-Err-clause-value c =
    let size = c.unit_blocks-size.result in
    let across = c.units_across-across.result in
    let m = c.units.invariant.value in
    let stops = unit_refused c.in-Some.part c.units.table size (4 * c.args.sx + c.units.u * size) (4 * c.args.sy + c.rows.v * size) c.units.decoder c.in-Err.cause c.in-Err.ensures.value in
    let read =
    superblock_read c.in-Some.part c.args.table.now c.args.sx c.args.sy c.split-split.result size across across c.args.decoder.now _
    c.split-split.ensures.value c.unit_blocks-size.ensures.value c.units_across-across.ensures.value refl
    (repeated_stops (λ v. unit_row_step c.in-Some.part size (4 * c.args.sx) (4 * c.args.sy + v * size) c.units_across-across.result) c.rows.v across c.args.table.now c.args.decoder.now m.table m.reading c.in-Err.cause (omega arith) m.rows
    (repeated_stops (λ u. unit_read_step c.in-Some.part size (4 * c.args.sx + u * size) (4 * c.args.sy + c.rows.v * size)) c.units.u across m.table m.reading c.units.table c.units.decoder c.in-Err.cause (omega arith) m.row stops)) in
    rw c.in-Some.is read

pub returns-in-Err-clause-size : goal.returns-in-Err-clause-size
returns-in-Err-clause-size c =
    let same = c.units.invariant.shape in
    record { across = same.across; down = same.down; refs = same.refs }

pub returns-in-Err-clause-blocks : goal.returns-in-Err-clause-blocks
returns-in-Err-clause-blocks c = λ e. absurd (none-some c.in-Some.part (sym e ∙ c.in-Some.is))

pub returns-in-Err-clause-few_doublings : goal.returns-in-Err-clause-few_doublings
returns-in-Err-clause-few_doublings c = omega (arith, c.units.invariant.few_doublings, c.read_unit_block.ensures.few_doublings, c.units_across-across.ensures.at_most_4)

pub read_split-requires-clause-grey : goal.read_split-requires-clause-grey
read_split-requires-clause-grey c = c.requires.grey (none_is c.args.list c.in_default.not-Some)

pub returns-in_default-clause-value : goal.returns-in_default-clause-value
returns-in_default-clause-value c = rw (none_is c.args.list c.in_default.not-Some) c.read_split.ensures.value

pub returns-in_default-clause-size : goal.returns-in_default-clause-size
returns-in_default-clause-size c =
    let same = c.read_split.ensures.blocks in
    record { across = same.across; down = same.down; refs = same.refs }

pub returns-in_default-clause-blocks : goal.returns-in_default-clause-blocks
returns-in_default-clause-blocks c = λ e. c.read_split.ensures.blocks.blocks

pub returns-in_default-clause-few_doublings : goal.returns-in_default-clause-few_doublings
returns-in_default-clause-few_doublings c = omega (arith, c.read_split.ensures.few_doublings)

pub read_split-requires-clause-column : goal.read_split-requires-clause-column
read_split-requires-clause-column c = c.requires.column

pub read_split-requires-clause-row : goal.read_split-requires-clause-row
read_split-requires-clause-row c = c.requires.row

pub read_split-requires-clause-no_overflow : goal.read_split-requires-clause-no_overflow
read_split-requires-clause-no_overflow c = omega (arith, c.requires.no_overflow)
