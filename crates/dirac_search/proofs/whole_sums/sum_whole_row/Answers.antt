use Rattle.std.proofs.Common.{◌≡◌, pos, ◌+ℤ◌, to_z, of_z, arith, ap, ◌∙◌, refl, sym}
use Rattle.std.specs.Int.{w64}
use Rattle.std.proofs.lemmas.Int.{ints, to_z-of_z}
use Rattle.dirac_common.specs.Table.{table_at, clamped_to}
use Rattle.dirac_search.proofs.Differences.{plain_component, rows_inside}
use Rattle.dirac_search.proofs.whole_sums.sum_whole_row.Goals as goal

pub returns-then-columns-clause-value : goal.returns-then-columns-clause-value
returns-then-columns-clause-value c =
    let s = c.args.source.now in
    let r = c.args.reference.now in
    let v = c.args.v in
    let row : to_z w64 (of_z w64 c.from.result) ≡ pos c.args.y = to_z-of_z w64 _ (record { sfits = c.from.type_inv }) ∙ c.from.ensures in
    let down : to_z w64 (of_z w64 c.moved-down.result) ≡ pos c.args.y +ℤ v.y =
    to_z-of_z w64 _ (record { sfits = c.moved-down.type_inv }) ∙ c.moved-down.ensures.value ∙ ap (λ q. pos c.args.y +ℤ q) (plain_component v.y c.requires.v.down) in
    let across : to_z w64 (of_z w64 c.moved-across.result) ≡ pos c.args.x +ℤ v.x =
    to_z-of_z w64 _ (record { sfits = c.moved-across.type_inv }) ∙ c.moved-across.ensures.value ∙ ap (λ q. pos c.args.x +ℤ q) (plain_component v.x c.requires.v.across) in
    c.values_differences.ensures.value
    ∙ rows_inside s r (pos c.args.x) (pos c.args.y) (pos c.args.x +ℤ v.x) (pos c.args.y +ℤ v.y) c.nearest_row-left.result.now c.nearest_row-right.result.now c.args.x c.column.result c.args.columns.count
    (λ j l. c.nearest_row-left.ensures.value j l ∙ ap (λ z. table_at s j (clamped_to z s.height)) row)
    (λ j l. c.nearest_row-right.ensures.value j l ∙ ap (λ z. table_at r j (clamped_to z r.height)) down)
    refl (sym across ∙ c.column.ensures) (omega (arith, ints, c.requires.columns.inside c.if-columns.true)) (c.requires.columns.right c.if-columns.true)
