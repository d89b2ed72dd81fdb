use Rattle.std.proofs.Common.{◌+◌, length, unsigned_abs, arith, ap, sym, ◌∙◌}
use Rattle.std.proofs.lemmas.Int.{ints}
use Rattle.dirac_common.specs.Table.{clamped_to, table_at}
use Rattle.dirac_upconvert.specs.Phases.{place_in_row}
use Rattle.dirac_upconvert.proofs.Lanes.{plain_place, whole_place}
use Rattle.dirac_upconvert.proofs.PartRows.{places_inside}
use Rattle.dirac_upconvert.proofs.Phased.{held_inside}
use Rattle.dirac_upconvert.proofs.rows.inner_places.Goals as goal

pub copy_row-requires : goal.copy_row-requires
copy_row-requires c =
    let x = unsigned_abs c.args.from.across in
    let at = whole_place c.args.from.across c.requires.inside.0 in
    let len = c.nearest_row.ensures.len in
    let held = held_inside (c.args.table.now.width + 1) x (length c.args.out.now) (omega (arith, len, c.nearest_row.ensures.even)) (omega (arith, ints, at, c.requires.inside.1)) in
    omega (arith, held, len, (c.requires.sides x at).0)

pub returns : goal.returns
returns c =
    let t = c.args.table.now in
    let x = unsigned_abs c.args.from.across in
    let at = whole_place c.args.from.across c.requires.inside.0 in
    places_inside t c.args.from.across c.args.from.down c.nearest_row.result.now c.copy_row.new.out x c.args.sides.left
    (λ j l. c.nearest_row.ensures.value j l ∙ ap (λ y. table_at t j (clamped_to y t.height)) (plain_place c.args.from.down c.requires.from.2))
    at (omega (arith, ints, at, c.requires.inside.1, c.copy_row.auto.out)) ((c.requires.sides x at).0 ∙ ap (λ n. place_in_row n x) (sym c.nearest_row.ensures.len))
    (λ k l. c.copy_row.ensures k (omega (arith, l, c.copy_row.auto.out)))
