use Rattle.std.proofs.Common.{ap, ◌∙◌}
use Rattle.std.specs.List.{flat_map}
use Rattle.dirac_search.specs.Given.{searched_of, lent}
use Rattle.dirac_search.proofs.Gathered.{field_is, items_of, stage_is}
use Rattle.dirac_search.proofs.stages.search_stage.Goals as goal

pub new-requires-clause-a_vector_for_each_block : goal.new-requires-clause-a_vector_for_each_block
new-requires-clause-a_vector_for_each_block g c =
    let x = c.args.staged.now in
    (stage_is (searched_of x.search.now) x.settings.now x.stage (lent c.args.before) c.in_ok-rows.rows.items c.in_ok-vectors.vectors.items c.in_ok-rows.ensures
    (c.in_ok-vectors.ensures ∙ ap (flat_map items_of) c.as_slice.ensures.value)).1

pub returns : goal.returns
returns g c =
    let x = c.args.staged.now in
    field_is (searched_of x.search.now) x.settings.now x.stage (lent c.args.before) c.in_ok-rows.rows.items c.in_ok-vectors.vectors.items c.new.result c.in_ok-rows.ensures
    (c.in_ok-vectors.ensures ∙ ap (flat_map items_of) c.as_slice.ensures.value) c.new.ensures
