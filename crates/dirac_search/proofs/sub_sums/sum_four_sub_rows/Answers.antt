use Rattle.std.proofs.Common.{ℤ, ◌+ℤ◌, pos, ap₂, ◌∙◌}
use Rattle.std.specs.Int.{w64}
use Rattle.std.proofs.lemmas.Int.{to_z-of_z}
use Rattle.dirac_search.proofs.Differences.{plain_component}
use Rattle.dirac_search.proofs.InLanes.{four_sub_rows_told}
use Rattle.dirac_search.proofs.sub_sums.sum_four_sub_rows.Goals as goal

pub returns-clause-value : goal.returns-clause-value
returns-clause-value c =
    let across = to_z-of_z w64 c.moved-across.result (record { sfits = c.moved-across.type_inv }) in
    let down = to_z-of_z w64 c.moved-down.result (record { sfits = c.moved-down.type_inv }) in
    four_sub_rows_told c.args.source.now c.args.up.now c.args.precision c.args.x c.args.y c.four_rows_beside.result c.args.v _ _ c.sub_eight_by_four.new.out
    c.four_rows_beside.ensures.value c.sub_eight_by_four.ensures.value
    (across ∙ c.moved-across.ensures.value ∙ ap₂ (λ p (w : ℤ). pos p +ℤ w) c.parts.ensures.value (plain_component c.args.v.x c.requires.v.across))
    (down ∙ c.moved-down.ensures.value ∙ ap₂ (λ p (w : ℤ). pos p +ℤ w) c.parts-2.ensures.value (plain_component c.args.v.y c.requires.v.down))
