use Rattle.std.proofs.Common.{ap, ◌∙◌}
use Rattle.std.specs.Int.{w64}
use Rattle.std.proofs.lemmas.Int.{to_z-of_z}
use Rattle.dirac_common.specs.Table.{table_at, clamped_to}
use Rattle.dirac_search.proofs.eight_columns.source_row.Goals as goal

pub returns-clause-value : goal.returns-clause-value
returns-clause-value c =
    let s = c.args.source.now in
    λ j l. c.nearest_row.ensures.value j l ∙ ap (λ z. table_at s j (clamped_to z s.height)) (to_z-of_z w64 _ (record { sfits = c.from.type_inv }) ∙ c.from.ensures)
