use Rattle.std.proofs.Common.{◌≡◌, ℕ, ◌+◌, ◌∙◌, Ok, arith, length, refl, subst, sym}
use Rattle.std.proofs.lemmas.Nat.{mul-le}
use Rattle.dirac_arith.specs.Coded.{read_coded}
use Rattle.dirac_arith.proofs.CodedValues.{repeated_none, repeated_next}
use Rattle.dirac_coeffs.specs.BandRead.{row_step, rows_step}
use Rattle.dirac_coeffs.specs.Decisions.{frame_of}
use Rattle.dirac_coeffs.specs.Lent.{IsNarrow, numbers_in, values_in}
use Rattle.dirac_coeffs.proofs.Edges.{rows_inside}
use Rattle.dirac_coeffs.proofs.Steps.{repeated_unread}
use Rattle.dirac_coeffs.proofs.rows.read_block_values.Goals as goal

pub codeblock_span-columns-requires-clause-size : goal.codeblock_span-columns-requires-clause-size
codeblock_span-columns-requires-clause-size c = c.requires.block.layout.width.1

pub codeblock_span-columns-requires-clause-c : goal.codeblock_span-columns-requires-clause-c
codeblock_span-columns-requires-clause-c c = c.requires.block.column

pub codeblock_span-rows-requires-clause-size : goal.codeblock_span-rows-requires-clause-size
codeblock_span-rows-requires-clause-size c = c.requires.block.layout.height.1

pub codeblock_span-rows-requires-clause-c : goal.codeblock_span-rows-requires-clause-c
codeblock_span-rows-requires-clause-c c = c.requires.block.row

pub rows-init : goal.rows-init
rows-init c =
    record {
      value = repeated_none (λ j. row_step (frame_of c.args.layout (numbers_in c.args.parent)) (c.codeblock_span-rows.result.start + j) c.codeblock_span-columns.result.start c.codeblock_span-columns.result.length) (values_in c.args.values.now) c.args.decoder.now;
      len = refl;
      narrow = λ n. n;
      few_doublings = omega arith;
    }

pub read_row-requires-clause-columns : goal.read_row-requires-clause-columns
read_row-requires-clause-columns c = c.codeblock_span-columns.ensures.inside

pub read_row-requires-clause-width : goal.read_row-requires-clause-width
read_row-requires-clause-width c = c.requires.block.layout.width.1

pub read_row-requires-clause-row : goal.read_row-requires-clause-row
read_row-requires-clause-row c = omega (arith, c.codeblock_span-rows.ensures.inside, c.requires.block.layout.height)

pub read_row-requires-clause-inside : goal.read_row-requires-clause-inside
read_row-requires-clause-inside c =
    omega (arith, c.rows.invariant.len, rows_inside (c.codeblock_span-rows.result.start + c.rows.j + 1) c.args.layout.width c.args.layout.height (length (values_in c.args.values.now)) (omega (arith, c.codeblock_span-rows.ensures.inside)) c.requires.len)

pub read_row-requires-clause-no_overflow : goal.read_row-requires-clause-no_overflow
read_row-requires-clause-no_overflow c =
    omega (arith, c.rows.invariant.few_doublings, c.requires.no_overflow, mul-le c.rows.j c.codeblock_span-columns.result.length 8192 8192 (omega (arith, c.codeblock_span-rows.ensures.inside, c.requires.block.layout.height)) (omega (arith, c.codeblock_span-columns.ensures.inside, c.requires.block.layout.width)))

pub rows-preserved : goal.rows-preserved
rows-preserved c =
    record {
      value =
          repeated_next (λ j. row_step (frame_of c.args.layout (numbers_in c.args.parent)) (c.codeblock_span-rows.result.start + j) c.codeblock_span-columns.result.start c.codeblock_span-columns.result.length) c.rows.j (values_in c.args.values.now) c.args.decoder.now (values_in c.rows.values) c.rows.decoder _ c.rows.invariant.value c.in-Ok.ensures.value;
      len = c.read_row.ensures.len ∙ c.rows.invariant.len;
      narrow = λ n. c.rows.invariant.narrow (c.read_row.ensures.narrow n);
      few_doublings = omega (arith, c.read_row.ensures.few_doublings);
    }

pub returns-in-Err-clause-value : goal.returns-in-Err-clause-value
returns-in-Err-clause-value c =
    (rw (sym c.codeblock_span-columns.ensures.length, sym c.codeblock_span-columns.ensures.start, sym c.codeblock_span-rows.ensures.length, sym c.codeblock_span-rows.ensures.start)
    (repeated_unread (IsNarrow c.read_row.new.values) (λ j. row_step (frame_of c.args.layout (numbers_in c.args.parent)) (c.codeblock_span-rows.result.start + j) c.codeblock_span-columns.result.start c.codeblock_span-columns.result.length) c.rows.j c.codeblock_span-rows.result.length (values_in c.args.values.now) c.args.decoder.now (values_in c.rows.values) c.rows.decoder _ (omega arith) c.rows.invariant.value c.in-Err.ensures.value))

pub returns-in-Err-clause-len : goal.returns-in-Err-clause-len
returns-in-Err-clause-len c = c.read_row.ensures.len ∙ c.rows.invariant.len

pub returns-in-Err-clause-narrow : goal.returns-in-Err-clause-narrow
returns-in-Err-clause-narrow c = λ n. c.rows.invariant.narrow (c.read_row.ensures.narrow n)

pub returns-in-Err-clause-few_doublings : goal.returns-in-Err-clause-few_doublings
returns-in-Err-clause-few_doublings c =
    omega (arith, c.rows.invariant.few_doublings, c.read_row.ensures.few_doublings, c.codeblock_span-columns.ensures.length, mul-le (c.rows.j + 1) c.codeblock_span-columns.result.length 8192 c.codeblock_span-columns.result.length (omega (arith, c.codeblock_span-rows.ensures.inside, c.requires.block.layout.height)) (omega arith))

pub returns-clause-value : goal.returns-clause-value
returns-clause-value c =
    let all : c.rows.j ≡ c.codeblock_span-rows.result.length = omega (arith, c.rows.auto.j-end) in
    let P : ℕ → Type 0 = λ n. read_coded (rows_step (frame_of c.args.layout (numbers_in c.args.parent)) c.codeblock_span-columns.result.start c.codeblock_span-columns.result.length c.codeblock_span-rows.result.start n (values_in c.args.values.now)) c.args.decoder.now ≡ Ok (values_in c.rows.values, c.rows.decoder) in
    rw (sym c.codeblock_span-columns.ensures.length, sym c.codeblock_span-columns.ensures.start, sym c.codeblock_span-rows.ensures.length, sym c.codeblock_span-rows.ensures.start) (subst P all c.rows.invariant.value)

pub returns-clause-len : goal.returns-clause-len
returns-clause-len c = c.rows.invariant.len

pub returns-clause-narrow : goal.returns-clause-narrow
returns-clause-narrow c = c.rows.invariant.narrow

pub returns-clause-few_doublings : goal.returns-clause-few_doublings
returns-clause-few_doublings c = omega (arith, c.rows.invariant.few_doublings, c.codeblock_span-columns.ensures.length, mul-le c.rows.j c.codeblock_span-columns.result.length 8192 c.codeblock_span-columns.result.length (omega (arith, c.codeblock_span-rows.ensures.inside, c.requires.block.layout.height)) (omega arith))

pub overflow_add-rows : goal.overflow_add-rows
overflow_add-rows c = omega (arith, c.codeblock_span-rows.ensures.inside, c.requires.block.layout.height)
