use Rattle.std.proofs.Common.{ℕ, ℤ, ◌+◌, ◌*◌, List, ap, arith, length, subst, ◌∙◌}
use Rattle.std.specs.Option.{option_copied}
use Rattle.dirac_costs.specs.Sums.{sum_below}
use Rattle.dirac_search.specs.Costs.{StopsAt}
use Rattle.dirac_search.specs.InBytes.{start_of, strided_rows}
use Rattle.dirac_search.proofs.HeldRows.{lines_fit, places_are, source_fits}
use Rattle.dirac_search.proofs.sub_bytes.places_below.Goals as goal

pub returns : goal.returns
returns c =
    let t = c.args.tried in
    let places = c.line_places-places in
    subst (λ (n : ℕ). StopsAt t.limit n c.rows_below.result)
    (ap (λ (a : List ℤ). t.first + sum_below (strided_rows a c.source_rows.result c.in-Some.lines.now (record { first = c.start_of.result; step = 4 * places.result })) t.window.rows) c.as_slice.ensures.value
    ∙ places_are c.args.source.now c.args.up.now c.args.precision c.args.x c.args.y t c.args.bytes.now c.in-Some.lines.now c.source_rows.result _ c.requires.precision.0 c.requires.precision.1 c.requires.held places.ensures.lawful c.requires.bytes (c.lines.ensures c.in-Some.lines.now (ap option_copied c.in-Some.is))
    c.source_rows.ensures.first c.source_rows.ensures.step (c.start_of.ensures ∙ ap (λ n. start_of n c.args.x.place c.args.y.place) places.ensures.value) (ap (λ n. 4 * n) places.ensures.value)
    c.requires.rests.0 c.requires.rests.1)
    c.rows_below.ensures

pub rows_below-requires-clause-left : goal.rows_below-requires-clause-left
rows_below-requires-clause-left c =
    source_fits c.args.source.now _ c.args.tried.window.x c.args.tried.window.y c.args.tried.window.rows c.source_rows.result
    (ap length (c.as_slice.ensures.value ∙ c.requires.bytes) ∙ c.source_rows.ensures.source_len) c.source_rows.ensures.first c.source_rows.ensures.step
    c.requires.held.source_right c.requires.held.source_bottom

pub rows_below-requires-clause-right : goal.rows_below-requires-clause-right
rows_below-requires-clause-right c =
    let places = c.line_places-places in
    lines_fit c.args.up.now _ c.args.x.place c.args.y.place c.args.tried.window.rows (record { first = c.start_of.result; step = 4 * places.result })
    places.ensures.lawful.down (c.lines.ensures c.in-Some.lines.now (ap option_copied c.in-Some.is)).len
    (c.start_of.ensures ∙ ap (λ n. start_of n c.args.x.place c.args.y.place) places.ensures.value) (ap (λ n. 4 * n) places.ensures.value)
    (omega (arith, c.requires.held.across.inside)) (omega (arith, c.requires.held.down.inside))
