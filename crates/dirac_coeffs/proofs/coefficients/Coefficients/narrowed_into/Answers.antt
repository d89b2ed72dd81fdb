use Rattle.std.proofs.Common.{◌≡◌, ℕ, ℤ, ◌*◌, ◌≤◌, List, ap, ap₂, arith, length, refl, subst, sym, unsigned_abs, ◌∙◌}
use Rattle.std.specs.List.{All}
use Rattle.dirac_common.specs.Table.{Table}
use Rattle.dirac_coeffs.specs.Held.{IsLargest}
use Rattle.dirac_coeffs.proofs.Largest.{filled}
use Rattle.dirac_coeffs.proofs.coefficients.Coefficients.narrowed_into.Goals as goal

-- a table is told by its parts
same_table : (t : Table) (width height : ℕ) (values : List ℤ) → width ≡ t.width → height ≡ t.height → values ≡ t.values → record { width = width; height = height; values = values } ≡ t
same_table t width height values across down same = rw (across, down, same) refl

pub of_rows-requires-clause-across : goal.of_rows-requires-clause-across
of_rows-requires-clause-across c = (c.width-width.ensures.at_least_1, omega (arith, c.width-width.ensures.value, c.requires.across))

pub of_rows-requires-clause-down : goal.of_rows-requires-clause-down
of_rows-requires-clause-down c = (c.height-height.ensures.at_least_1, omega (arith, c.height-height.ensures.value, c.requires.down))

pub of_rows-requires-clause-len : goal.of_rows-requires-clause-len
of_rows-requires-clause-len c =
    let new = c.copy_narrowed-narrowed.new.narrow in
    let count : length new ≡ c.args.values.len = omega (arith, c.copy_narrowed-narrowed.auto.narrow, c.as_mut_slice.ensures.len, c.args.values.ok.0) in
    let all = filled c.args.values.len new c.args.values.items count ∙ c.copy_narrowed-narrowed.ensures.written c.if-narrowed.true ∙ c.values.ensures.value in
    ap (λ (l : List ℤ). length l) all ∙ c.width-width.ensures.whole ∙ sym (ap₂ (λ (a b : ℕ). a * b) c.width-width.ensures.value c.height-height.ensures.value)

pub of_rows-requires-clause-largest : goal.of_rows-requires-clause-largest
of_rows-requires-clause-largest c =
    let new = c.copy_narrowed-narrowed.new.narrow in
    let count : length new ≡ c.args.values.len = omega (arith, c.copy_narrowed-narrowed.auto.narrow, c.as_mut_slice.ensures.len, c.args.values.ok.0) in
    let all = filled c.args.values.len new c.args.values.items count ∙ c.copy_narrowed-narrowed.ensures.written c.if-narrowed.true in
    subst (λ (l : List ℤ). IsLargest c.copy_narrowed-narrowed.result.largest l) (sym all) (c.copy_narrowed-narrowed.ensures.largest c.if-narrowed.true)

pub invariant_of-result : goal.invariant_of-result
invariant_of-result c =
    let t = c.args.table in
    let largest = c.largest_of-largest.result in
    record {
      across = (c.width-width.ensures.at_least_1, omega (arith, c.width-width.ensures.value, c.requires.across));
      down = (c.height-height.ensures.at_least_1, omega (arith, c.height-height.ensures.value, c.requires.down));
      whole = c.width-width.ensures.whole ∙ sym (ap₂ (λ (a b : ℕ). a * b) c.width-width.ensures.value c.height-height.ensures.value);
      most = subst (λ (l : List ℤ). IsLargest largest l) c.values-2.ensures.value c.largest_of-largest.ensures;
      form = (c.copy_narrowed-narrowed.ensures.others c.if-narrowed.false largest (subst (λ (l : List ℤ). All (λ v. unsigned_abs v ≤ largest) l) (c.values-2.ensures.value ∙ sym c.values.ensures.value) c.largest_of-largest.ensures.bound), sym c.width-width.ensures.value, sym c.height-height.ensures.value);
    }

pub returns-then-narrowed : goal.returns-then-narrowed
returns-then-narrowed c =
    let new = c.copy_narrowed-narrowed.new.narrow in
    let count : length new ≡ c.args.values.len = omega (arith, c.copy_narrowed-narrowed.auto.narrow, c.as_mut_slice.ensures.len, c.args.values.ok.0) in
    let all = filled c.args.values.len new c.args.values.items count ∙ c.copy_narrowed-narrowed.ensures.written c.if-narrowed.true ∙ c.values.ensures.value in
    c.of_rows.ensures ∙ same_table c.args.table c.width-width.result c.height-height.result _ c.width-width.ensures.value c.height-height.ensures.value all

pub returns : goal.returns
returns c = same_table c.args.table c.width-width.result c.height-height.result c.args.table.values c.width-width.ensures.value c.height-height.ensures.value refl
