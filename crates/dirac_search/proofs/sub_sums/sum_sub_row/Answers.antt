use Rattle.std.proofs.Common.{ℤ, ◌+ℤ◌, pos, to_z, of_z, length, ap₂, ◌∙◌}
use Rattle.std.specs.Int.{w64}
use Rattle.std.proofs.lemmas.Int.{to_z-of_z}
use Rattle.dirac_search.proofs.Differences.{plain_component, sub_row_told}
use Rattle.dirac_search.proofs.sub_sums.sum_sub_row.Goals as goal

pub returns-clause-value : goal.returns-clause-value
returns-clause-value c =
    let across = to_z-of_z w64 c.moved-across.result (record { sfits = c.moved-across.type_inv }) in
    let down = to_z-of_z w64 c.moved-down.result (record { sfits = c.moved-down.type_inv }) in
    sub_row_told c.args.source.now c.args.up.now c.args.precision c.args.x c.args.y c.row_differences.result c.args.v c.moved-across.result c.moved-down.result
    (to_z w64 (of_z w64 c.moved-across.result)) (to_z w64 (of_z w64 c.moved-down.result)) c.sub_row.new.out (length c.args.samples.now)
    c.row_differences.ensures.value c.sub_row.auto.out c.sub_row.ensures.value across down
    (c.moved-across.ensures.value ∙ ap₂ (λ p (w : ℤ). pos p +ℤ w) c.parts.ensures.value (plain_component c.args.v.x c.requires.v.across))
    (c.moved-down.ensures.value ∙ ap₂ (λ p (w : ℤ). pos p +ℤ w) c.parts-2.ensures.value (plain_component c.args.v.y c.requires.v.down))
