use Rattle.std.proofs.Common.{◌≡◌, ◌+◌, ◌∙◌, ap, arith, false, inl, inr, length, of_z, sym, to_z, true, w64}
use Rattle.std.proofs.lemmas.Bool.{both_ways, cases_eq, false≢true, true≢false}
use Rattle.std.proofs.lemmas.Int.{to_z-of_z}
use Rattle.std.proofs.lemmas.Nat.{mul-le}
use Rattle.dirac_coeffs.specs.Contexts.{band_value, is_zero}
use Rattle.dirac_coeffs.specs.Lent.{numbers_in}
use Rattle.dirac_coeffs.proofs.Edges.{rows_inside}
use Rattle.dirac_coeffs.proofs.ZeroTests.{tests_block, zero_more}
use Rattle.dirac_coeffs.proofs.zeros.has_zeros_alone.Goals as goal

pub codeblock_span-columns-requires-clause-size : goal.codeblock_span-columns-requires-clause-size
codeblock_span-columns-requires-clause-size c = c.requires.writable.layout.width.1

pub codeblock_span-columns-requires-clause-c : goal.codeblock_span-columns-requires-clause-c
codeblock_span-columns-requires-clause-c c = c.requires.column

pub codeblock_span-rows-requires-clause-size : goal.codeblock_span-rows-requires-clause-size
codeblock_span-rows-requires-clause-size c = c.requires.writable.layout.height.1

pub codeblock_span-rows-requires-clause-c : goal.codeblock_span-rows-requires-clause-c
codeblock_span-rows-requires-clause-c c = c.requires.row

pub rows-init : goal.rows-init
rows-init c = λ k l i m. absurd (omega (arith, l))

pub overflow_add-row : goal.overflow_add-row
overflow_add-row c = omega (arith, c.codeblock_span-rows.ensures.inside, c.requires.writable.layout.height, c.rows-test.true)

pub values-init : goal.values-init
values-init c = λ k l. absurd (omega (arith, l))

pub overflow_mul-row : goal.overflow_mul-row
overflow_mul-row c =
    let layout = c.args.band.layout in
    omega (arith, mul-le (c.codeblock_span-rows.result.start + c.rows.j) layout.width 8192 8192 (omega (arith, c.codeblock_span-rows.ensures.inside, c.requires.writable.layout.height, c.rows-test.true)) c.requires.writable.layout.width.1)

pub overflow_add-columns : goal.overflow_add-columns
overflow_add-columns c = omega (arith, c.codeblock_span-columns.ensures.inside, c.requires.writable.layout.width, c.values-test.true)

pub overflow_add-row-in-values : goal.overflow_add-row-in-values
overflow_add-row-in-values c =
    let layout = c.args.band.layout in
    omega (arith, c.codeblock_span-columns.ensures.inside, c.requires.writable.layout.width, c.values-test.true, mul-le (c.codeblock_span-rows.result.start + c.rows.j) layout.width 8192 8192 (omega (arith, c.codeblock_span-rows.ensures.inside, c.requires.writable.layout.height, c.rows-test.true)) c.requires.writable.layout.width.1)

pub number_at-requires : goal.number_at-requires
number_at-requires c =
    let layout = c.args.band.layout in
    let row = c.codeblock_span-rows.result.start + c.rows.j in
    let inside = rows_inside (row + 1) layout.width layout.height (length (numbers_in c.args.band.values)) (omega (arith, c.codeblock_span-rows.ensures.inside, c.rows-test.true)) c.requires.writable.len in
    omega (arith, inside, c.codeblock_span-columns.ensures.inside, c.values-test.true)

pub values-preserved : goal.values-preserved
values-preserved c =
    let value : to_z w64 (of_z w64 c.number_at.result) ≡ c.number_at.result = to_z-of_z w64 _ (record { sfits = c.number_at.type_inv }) in
    zero_more (λ k. band_value c.args.band.layout.width (numbers_in c.args.band.values) (c.codeblock_span-columns.result.start + k) (c.codeblock_span-rows.result.start + c.rows.j)) c.values.i c.values.invariant
    (ap is_zero (sym (value ∙ c.number_at.ensures)) ∙ sym c.is_zero_value.ensures ∙ c.if-not-is_zero_value.false)

pub rows-preserved : goal.rows-preserved
rows-preserved c = λ k l i m.
    elim (cases_eq k c.rows.j) [
      | inl last ↦ rw last (c.values.invariant i (omega (arith, m, c.values-test.false)))
      | inr other ↦ c.rows.invariant k (omega (arith, l, other)) i m
    ]

pub returns-then-not-is_zero_value : goal.returns-then-not-is_zero_value
returns-then-not-is_zero_value c =
    tests_block false c.args.band.layout (numbers_in c.args.band.values) c.args.codeblock.row c.args.codeblock.column
    c.codeblock_span-columns.result.start c.codeblock_span-columns.result.length c.codeblock_span-rows.result.start c.codeblock_span-rows.result.length
    c.codeblock_span-columns.ensures.start c.codeblock_span-columns.ensures.length c.codeblock_span-rows.ensures.start c.codeblock_span-rows.ensures.length
    (λ e. absurd (false≢true e)) (λ e all.
    let value : to_z w64 (of_z w64 c.number_at.result) ≡ c.number_at.result = to_z-of_z w64 _ (record { sfits = c.number_at.type_inv }) in
    let zero : c.is_zero_value.result ≡ true = c.is_zero_value.ensures ∙ ap is_zero (value ∙ c.number_at.ensures ∙ all c.values.i c.rows.j c.values-test.true c.rows-test.true) in
    both_ways c.is_zero_value.result c.if-not-is_zero_value.true zero)

pub returns : goal.returns
returns c =
    tests_block true c.args.band.layout (numbers_in c.args.band.values) c.args.codeblock.row c.args.codeblock.column
    c.codeblock_span-columns.result.start c.codeblock_span-columns.result.length c.codeblock_span-rows.result.start c.codeblock_span-rows.result.length
    c.codeblock_span-columns.ensures.start c.codeblock_span-columns.ensures.length c.codeblock_span-rows.ensures.start c.codeblock_span-rows.ensures.length
    (λ e i j l m. c.rows.invariant j (omega (arith, m, c.rows-test.false)) i l) (λ e all. true≢false e)
