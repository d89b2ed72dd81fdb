use Rattle.std.proofs.lemmas.List.{append-nil}
use Rattle.std.proofs.Common.{◌+◌, ◌*◌, ◌≤◌, List, ap, ◌∙◌, arith, refl, ◌≡◌, ◌++◌, ℕ, append_assoc, sym}
use Rattle.std.proofs.lemmas.Nat.{mul-le}
use Rattle.dirac_arith.specs.Interval.{Decision, narrowed_by}
use Rattle.dirac_arith.proofs.Spellings.{narrowed_more}
use Rattle.dirac_blocks.specs.Parts.{part_at}
use Rattle.dirac_blocks.specs.Decisions.{unit_row, unit_rows}
use Rattle.dirac_blocks.proofs.InLists.{none_is}
use Rattle.dirac_blocks.proofs.Narrowing.{unit_rows_next, unit_row_next}
use Rattle.dirac_blocks.proofs.Shapes.{fill_of, superblock_told, unit_within}
use Rattle.dirac_blocks.proofs.list_writer.write_cell.Goals as goal

pub overflow_mul-left : goal.overflow_mul-left
overflow_mul-left c = omega (arith, c.split-split.ensures.lawful.size.most_across)

pub overflow_mul-top : goal.overflow_mul-top
overflow_mul-top c = omega (arith, c.split-split.ensures.lawful.size.most_down)

pub rows-init : goal.rows-init
unfolding unit_rows
rows-init c = refl

pub split-split-requires-clause-across : goal.split-split-requires-clause-across
split-split-requires-clause-across c = c.requires.column

pub split-split-requires-clause-down : goal.split-split-requires-clause-down
split-split-requires-clause-down c = c.requires.row

pub unit_blocks-size-requires : goal.unit_blocks-size-requires
unit_blocks-size-requires c = c.split-split.ensures.at_most_2

pub units_across-across-requires : goal.units_across-across-requires
units_across-across-requires c = c.split-split.ensures.at_most_2

pub returns-in-Err : goal.returns-in-Err
returns-in-Err c = tt

pub overflow_cast-size : goal.overflow_cast-size
overflow_cast-size c = omega (arith, c.unit_blocks-size.ensures.at_most_4)

pub overflow_cast-across : goal.overflow_cast-across
overflow_cast-across c = omega (arith, c.units_across-across.ensures.at_most_4)

pub overflow_mul-row : goal.overflow_mul-row
overflow_mul-row c =
    let few : c.rows.v * c.unit_blocks-size.result ≤ 4 * 4 = mul-le c.rows.v c.unit_blocks-size.result 4 4 (omega (arith, c.units_across-across.ensures.at_most_4)) c.unit_blocks-size.ensures.at_most_4 in
    omega arith

pub overflow_add-row : goal.overflow_add-row
overflow_add-row c =
    let few : c.rows.v * c.unit_blocks-size.result ≤ 4 * 4 = mul-le c.rows.v c.unit_blocks-size.result 4 4 (omega (arith, c.units_across-across.ensures.at_most_4)) c.unit_blocks-size.ensures.at_most_4 in
    omega (arith, c.split-split.ensures.lawful.size.most_down)

pub overflow_mul-column : goal.overflow_mul-column
overflow_mul-column c =
    let few : c.units.u * c.unit_blocks-size.result ≤ 4 * 4 = mul-le c.units.u c.unit_blocks-size.result 4 4 (omega (arith, c.units_across-across.ensures.at_most_4)) c.unit_blocks-size.ensures.at_most_4 in
    omega arith

pub overflow_add-column : goal.overflow_add-column
overflow_add-column c =
    let few : c.units.u * c.unit_blocks-size.result ≤ 4 * 4 = mul-le c.units.u c.unit_blocks-size.result 4 4 (omega (arith, c.units_across-across.ensures.at_most_4)) c.unit_blocks-size.ensures.at_most_4 in
    omega (arith, c.split-split.ensures.lawful.size.most_across)

pub units-init : goal.units-init
unfolding unit_row
units-init c =
    let t = c.args.table.now in
    let p = part_at c.in-Some.part t in
    let size = c.unit_blocks-size.result in
    let across = c.units_across-across.result in
    let i = 4 * c.args.sx in
    let j = 4 * c.args.sy in
    let row = j + c.rows.v * size in
    let before = unit_rows p size across i j c.rows.v in
    c.rows.invariant ∙ ap (λ (ds : List Decision). narrowed_by c.args.encoder.now ds) (sym (append-nil before))

pub write_unit-requires-clause-column : goal.write_unit-requires-clause-column
write_unit-requires-clause-column c =
    let fill = fill_of c.split-split.result c.unit_blocks-size.result c.units_across-across.result c.split-split.ensures.at_most_2 c.unit_blocks-size.ensures.value c.units_across-across.ensures.value in
    omega (arith, unit_within (4 * c.args.sx) c.units.u c.units_across-across.result c.unit_blocks-size.result (4 * c.args.table.now.across) (omega arith) c.unit_blocks-size.ensures.at_least_1 (omega (arith, fill)))

pub write_unit-requires-clause-row : goal.write_unit-requires-clause-row
write_unit-requires-clause-row c =
    let fill = fill_of c.split-split.result c.unit_blocks-size.result c.units_across-across.result c.split-split.ensures.at_most_2 c.unit_blocks-size.ensures.value c.units_across-across.ensures.value in
    omega (arith, unit_within (4 * c.args.sy) c.rows.v c.units_across-across.result c.unit_blocks-size.result (4 * c.args.table.now.down) (omega arith) c.unit_blocks-size.ensures.at_least_1 (omega (arith, fill)))

pub units-preserved : goal.units-preserved
units-preserved c =
    let t = c.args.table.now in
    let p = part_at c.in-Some.part t in
    let size = c.unit_blocks-size.result in
    let across = c.units_across-across.result in
    let i = 4 * c.args.sx in
    let j = 4 * c.args.sy in
    let row = j + c.rows.v * size in
    let before = unit_rows p size across i j c.rows.v in
    let n = c.units.u in
    narrowed_more c.args.encoder.now c.units.encoder c.write_unit.new.encoder (before ++ unit_row p size i row n) (p (i + n * size) row) (before ++ unit_row p size i row (n + 1)) c.units.invariant c.in-Ok.ensures
    (ap (λ (ds : List Decision). before ++ ds) (unit_row_next p size i row n) ∙ sym (append_assoc before (unit_row p size i row n) (p (i + n * size) row)))

pub rows-preserved : goal.rows-preserved
rows-preserved c =
    let t = c.args.table.now in
    let p = part_at c.in-Some.part t in
    let size = c.unit_blocks-size.result in
    let across = c.units_across-across.result in
    let i = 4 * c.args.sx in
    let j = 4 * c.args.sy in
    let row = j + c.rows.v * size in
    let before = unit_rows p size across i j c.rows.v in
    let all : c.units.u ≡ across = omega arith in
    c.units.invariant ∙ ap (λ (ds : List Decision). narrowed_by c.args.encoder.now ds) (ap (λ (n : ℕ). before ++ unit_row p size i row n) all ∙ sym (unit_rows_next p size across i j c.rows.v))

pub returns : goal.returns
returns c =
    let t = c.args.table.now in
    let told = c.rows.invariant
    ∙ ap (λ (ds : List Decision). narrowed_by c.args.encoder.now ds)
    (superblock_told (part_at c.in-Some.part t) t c.args.sx c.args.sy c.split-split.result c.unit_blocks-size.result c.units_across-across.result c.rows.v
    c.split-split.ensures.value c.unit_blocks-size.ensures.value c.units_across-across.ensures.value (omega arith)) in
    rw c.in-Some.is told

pub returns-in_default : goal.returns-in_default
returns-in_default c = rw (none_is c.args.list c.in_default.not-Some) c.write_split.ensures

pub write_split-requires-clause-column : goal.write_split-requires-clause-column
write_split-requires-clause-column c = c.requires.column

pub write_split-requires-clause-row : goal.write_split-requires-clause-row
write_split-requires-clause-row c = c.requires.row
