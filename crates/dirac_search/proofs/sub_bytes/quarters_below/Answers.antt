use Rattle.std.proofs.Common.{ℕ, ℤ, ◌+◌, ◌*◌, List, ap, arith, length, subst, ◌∙◌}
use Rattle.std.specs.Option.{option_copied}
use Rattle.dirac_costs.specs.Sums.{sum_below}
use Rattle.dirac_search.specs.Costs.{StopsAt}
use Rattle.dirac_search.specs.InBytes.{start_of, strided_means}
use Rattle.dirac_search.proofs.HeldRows.{lines_fit, quarters_at, source_fits, start_under}
use Rattle.dirac_search.proofs.sub_bytes.quarters_below.Goals as goal

pub returns : goal.returns
returns c =
    let t = c.args.tried in
    let x = c.args.x in
    let y = c.args.y in
    let places = c.line_places-places in
    subst (λ (n : ℕ). StopsAt t.limit n c.means_below.result)
    (ap (λ (a : List ℤ). t.first + sum_below (strided_means a c.source_rows.result c.in-Some.lines.now (record { left = c.start_of.result; right = c.start_of-2.result; under = y.rest * (2 * places.result) }) (4 * places.result)) t.window.rows)
    c.as_slice.ensures.value
    ∙ quarters_at c.args.source.now c.args.up.now c.args.precision x y t c.args.bytes.now c.in-Some.lines.now c.source_rows.result _ _ c.requires.quarters c.requires.held places.ensures.lawful c.requires.bytes (c.lines.ensures c.in-Some.lines.now (ap option_copied c.in-Some.is)) c.source_rows.ensures.first c.source_rows.ensures.step
    (c.start_of.ensures ∙ ap (λ n. start_of n x.place y.place) places.ensures.value) (c.start_of-2.ensures ∙ ap (λ n. start_of n (x.place + x.rest) y.place) places.ensures.value)
    (ap (λ n. y.rest * (2 * n)) places.ensures.value) (ap (λ n. 4 * n) places.ensures.value))
    c.means_below.ensures

pub means_below-requires-clause-left : goal.means_below-requires-clause-left
means_below-requires-clause-left c =
    source_fits c.args.source.now _ c.args.tried.window.x c.args.tried.window.y c.args.tried.window.rows c.source_rows.result
    (ap length (c.as_slice.ensures.value ∙ c.requires.bytes) ∙ c.source_rows.ensures.source_len) c.source_rows.ensures.first c.source_rows.ensures.step
    c.requires.held.source_right c.requires.held.source_bottom

pub means_below-requires-clause-corners_left : goal.means_below-requires-clause-corners_left
means_below-requires-clause-corners_left c =
    let x = c.args.x in
    let y = c.args.y in
    let places = c.line_places-places in
    lines_fit c.args.up.now _ x.place (y.place + y.rest) c.args.tried.window.rows (record { first = c.start_of.result + y.rest * (2 * places.result); step = 4 * places.result })
    places.ensures.lawful.down (c.lines.ensures c.in-Some.lines.now (ap option_copied c.in-Some.is)).len
    (start_under x.place y.place y.rest places.result c.args.up.now.width c.start_of.result places.ensures.value c.start_of.ensures)
    (ap (λ n. 4 * n) places.ensures.value) (omega (arith, c.requires.held.across.inside)) (omega (arith, c.requires.held.down.inside))

pub means_below-requires-clause-corners_right : goal.means_below-requires-clause-corners_right
means_below-requires-clause-corners_right c =
    let x = c.args.x in
    let y = c.args.y in
    let places = c.line_places-places in
    lines_fit c.args.up.now _ (x.place + x.rest) (y.place + y.rest) c.args.tried.window.rows (record { first = c.start_of-2.result + y.rest * (2 * places.result); step = 4 * places.result })
    places.ensures.lawful.down (c.lines.ensures c.in-Some.lines.now (ap option_copied c.in-Some.is)).len
    (start_under (x.place + x.rest) y.place y.rest places.result c.args.up.now.width c.start_of-2.result places.ensures.value c.start_of-2.ensures)
    (ap (λ n. 4 * n) places.ensures.value) (omega (arith, c.requires.held.across.inside)) (omega (arith, c.requires.held.down.inside))
