use Rattle.std.proofs.Common.{◌≡◌, ◌+◌, ◌*◌, ◌≤◌, ℤ, List, Result, drop, length, arith, ap, subst, sym, ◌∙◌}
use Rattle.std.specs.Prelude.{⊤}
use Rattle.std.proofs.lemmas.List.{take_at}
use Rattle.dirac_common.specs.declared.faults.Cause.{Cause}
use Rattle.dirac_arith.specs.Reading.{Reading}
use Rattle.dirac_coeffs.specs.declared.store.Values.{Values}
use Rattle.dirac_coeffs.specs.Answers.{Goes}
use Rattle.dirac_coeffs.specs.Lent.{IsNarrow, values_in}
use Rattle.dirac_coeffs.proofs.NoParent.{row_below_zeros}
use Rattle.dirac_coeffs.proofs.rows.read_row.Goals as goal

pub read_narrow_row-requires-clause-columns : goal.read_narrow_row-requires-clause-columns
read_narrow_row-requires-clause-columns c = c.requires.columns

pub read_narrow_row-requires-clause-width : goal.read_narrow_row-requires-clause-width
read_narrow_row-requires-clause-width c = c.requires.width

pub read_narrow_row-requires-clause-row : goal.read_narrow_row-requires-clause-row
read_narrow_row-requires-clause-row c = c.requires.row

pub read_narrow_row-requires-clause-inside : goal.read_narrow_row-requires-clause-inside
read_narrow_row-requires-clause-inside c =
    rw c.as_mut_slice-list.ensures.value (subst (λ (v : Values). (c.args.y + 1) * c.args.layout.width ≤ length (values_in v)) c.in-Narrow.is c.requires.inside)

pub read_narrow_row-requires-clause-no_overflow : goal.read_narrow_row-requires-clause-no_overflow
read_narrow_row-requires-clause-no_overflow c = c.requires.no_overflow

pub read_narrow_row-requires-in-Narrow-parent-clause-columns : goal.read_narrow_row-requires-in-Narrow-parent-clause-columns
read_narrow_row-requires-in-Narrow-parent-clause-columns c = c.requires.columns

pub read_narrow_row-requires-in-Narrow-parent-clause-width : goal.read_narrow_row-requires-in-Narrow-parent-clause-width
read_narrow_row-requires-in-Narrow-parent-clause-width c = c.requires.width

pub read_narrow_row-requires-in-Narrow-parent-clause-row : goal.read_narrow_row-requires-in-Narrow-parent-clause-row
read_narrow_row-requires-in-Narrow-parent-clause-row c = c.requires.row

pub read_narrow_row-requires-in-Narrow-parent-clause-inside : goal.read_narrow_row-requires-in-Narrow-parent-clause-inside
read_narrow_row-requires-in-Narrow-parent-clause-inside c =
    rw c.as_mut_slice-list.ensures.value (subst (λ (v : Values). (c.args.y + 1) * c.args.layout.width ≤ length (values_in v)) c.in-Narrow.is c.requires.inside)

pub read_narrow_row-requires-in-Narrow-parent-clause-no_overflow : goal.read_narrow_row-requires-in-Narrow-parent-clause-no_overflow
read_narrow_row-requires-in-Narrow-parent-clause-no_overflow c = c.requires.no_overflow

pub read_wide_row-requires-clause-columns : goal.read_wide_row-requires-clause-columns
read_wide_row-requires-clause-columns c = c.requires.columns

pub read_wide_row-requires-clause-width : goal.read_wide_row-requires-clause-width
read_wide_row-requires-clause-width c = c.requires.width

pub read_wide_row-requires-clause-row : goal.read_wide_row-requires-clause-row
read_wide_row-requires-clause-row c = c.requires.row

pub read_wide_row-requires-clause-inside : goal.read_wide_row-requires-clause-inside
read_wide_row-requires-clause-inside c =
    rw c.as_mut_slice.ensures.value (subst (λ (v : Values). (c.args.y + 1) * c.args.layout.width ≤ length (values_in v)) c.in-Wide.is c.requires.inside)

pub read_wide_row-requires-clause-no_overflow : goal.read_wide_row-requires-clause-no_overflow
read_wide_row-requires-clause-no_overflow c = c.requires.no_overflow

pub returns-in-Zeros : goal.returns-in-Zeros
returns-in-Zeros c =
    let new = c.read_narrow_row.new.values in
    let long : length new ≡ length c.in-Narrow.list.items = c.read_narrow_row.ensures.len ∙ ap (λ (l : List ℤ). length l) c.as_mut_slice-list.ensures.value in
    let same : length new ≡ c.in-Narrow.list.len = omega (arith, c.in-Narrow.list.ok.0, long) in
    let kept = take_at new (drop (length new) c.in-Narrow.list.items) c.in-Narrow.list.len same in
    let read =
    subst (λ (s : Result (List ℤ × Reading) Cause). Goes ⊤ c.read_narrow_row.result new c.read_narrow_row.new.decoder s)
    (row_below_zeros c.args.layout c.in-Zeros._count c.args.y c.args.columns.start c.args.columns.length c.as_mut_slice-list.result.now c.args.decoder.now)
    c.read_narrow_row.ensures.value in
    record {
      value = rw (kept, c.in-Narrow.is, c.in-Zeros.is, sym c.as_mut_slice-list.ensures.value) read;
      len = rw (kept, c.in-Narrow.is) long;
      narrow = λ n. subst (λ (v : Values). IsNarrow v) (sym c.in-Narrow.is) tt;
      few_doublings = c.read_narrow_row.ensures.few_doublings;
    }

pub returns-in-Narrow-parent : goal.returns-in-Narrow-parent
returns-in-Narrow-parent c =
    let new = c.read_narrow_row-in-Narrow-parent.new.values in
    let long : length new ≡ length c.in-Narrow.list.items = c.read_narrow_row-in-Narrow-parent.ensures.len ∙ ap (λ (l : List ℤ). length l) c.as_mut_slice-list.ensures.value in
    let same : length new ≡ c.in-Narrow.list.len = omega (arith, c.in-Narrow.list.ok.0, long) in
    let kept = take_at new (drop (length new) c.in-Narrow.list.items) c.in-Narrow.list.len same in
    record {
      value = rw (kept, c.in-Narrow.is, c.in-Narrow-parent.is, sym c.as_mut_slice-list.ensures.value) c.read_narrow_row-in-Narrow-parent.ensures.value;
      len = rw (kept, c.in-Narrow.is) long;
      narrow = λ n. subst (λ (v : Values). IsNarrow v) (sym c.in-Narrow.is) tt;
      few_doublings = c.read_narrow_row-in-Narrow-parent.ensures.few_doublings;
    }

pub returns-in-Wide-parent : goal.returns-in-Wide-parent
returns-in-Wide-parent c =
    let long : length c.as_mut_slice-list.result.now ≡ length c.in-Narrow.list.items = ap (λ (l : List ℤ). length l) c.as_mut_slice-list.ensures.value in
    let same : length c.as_mut_slice-list.result.now ≡ c.in-Narrow.list.len = omega (arith, c.in-Narrow.list.ok.0, long) in
    let kept = take_at c.as_mut_slice-list.result.now (drop (length c.as_mut_slice-list.result.now) c.in-Narrow.list.items) c.in-Narrow.list.len same in
    record {
      value = tt;
      len = rw (kept, c.in-Narrow.is) long;
      narrow = λ n. subst (λ (v : Values). IsNarrow v) (sym c.in-Narrow.is) tt;
      few_doublings = omega arith;
    }

pub returns-in-Wide : goal.returns-in-Wide
returns-in-Wide c =
    let new = c.read_wide_row.new.values in
    let long : length new ≡ length c.in-Wide.list.items = c.read_wide_row.ensures.len ∙ ap (λ (l : List ℤ). length l) c.as_mut_slice.ensures.value in
    let same : length new ≡ c.in-Wide.list.len = omega (arith, c.in-Wide.list.ok.0, long) in
    let kept = take_at new (drop (length new) c.in-Wide.list.items) c.in-Wide.list.len same in
    record {
      value = rw (kept, c.in-Wide.is, sym c.as_mut_slice.ensures.value) c.read_wide_row.ensures.value;
      len = rw (kept, c.in-Wide.is) long;
      narrow = λ n. absurd n;
      few_doublings = c.read_wide_row.ensures.few_doublings;
    }
