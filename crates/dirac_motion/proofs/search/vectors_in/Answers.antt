use Rattle.std.proofs.Common.{◌≡◌, arith, rules, ap, sym, subst, ◌∙◌, length}
use Rattle.std.proofs.lemmas.Grind.{common_steps}
use Rattle.dirac_common.specs.declared.picture.Picture.{Picture}
use Rattle.dirac_pyramid.specs.Pyramid.{pyramid_of}
use Rattle.dirac_search.proofs.Accepted.{search_accepted}
use Rattle.dirac_search.proofs.Workers.{field_same}
use Rattle.dirac_decide.proofs.Accepted.{IsGrid, blocks_within, grid_within}
use Rattle.dirac_motion.proofs.Asked.{by_other_workers, levels_accepted, pyramid_length}
use Rattle.dirac_motion.proofs.search.vectors_in.Goals as goal

pub block_grid-grid-requires : goal.block_grid-grid-requires
block_grid-grid-requires g c =
    let within = blocks_within c.args.settings.now c.requires.settings in
    (omega (arith, within.0, c.from.ensures), omega (arith, within.1, c.from.ensures))

pub overflow_cast-settings : goal.overflow_cast-settings
overflow_cast-settings g c = omega (arith, levels_accepted c.args.settings.now c.requires.settings)

pub build-requires-clause-at_most_4_levels : goal.build-requires-clause-at_most_4_levels
build-requires-clause-at_most_4_levels g c = levels_accepted c.args.settings.now c.requires.settings

pub search_field-requires-after_bounds : goal.search_field-requires-after_bounds
search_field-requires-after_bounds g c =
    let grid : IsGrid c.block_grid-grid.result = subst IsGrid (sym c.block_grid-grid.ensures.value) (grid_within c.from.result) in
    λ lives bound. by_other_workers _ c.args.settings.now c.args.workers
    (search_accepted _ c.args.settings.now c.requires.settings
    (ap length c.requires.source.pyramid ∙ pyramid_length c.args.source.picture.now.y c.args.settings.now.pyramid)
    c.in_ok-other.ensures.number_of_levels grid.columns.1 grid.rows.1 c.superblocks_over.ensures.at_most_1024 c.superblocks_over-2.ensures.at_most_1024)
    c.requires.workers

pub returns : goal.returns
returns g c =
    let t = c.args.settings.now in
    let levels : c.in_ok-other.other ≡ pyramid_of c.args.reference.picture.now.y t.pyramid = c.in_ok-other.ensures.value ∙ ap (λ (p : Picture). pyramid_of p.y t.pyramid) c.picture-listed.ensures in
    let same = c.in_ok-field.ensures.value ∙ field_same _ t c.args.workers in
    record { value = first_of (search rules, grind (arith, common_steps)); found = first_of (search rules, grind (arith, common_steps)) }
