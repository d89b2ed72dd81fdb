use Rattle.std.proofs.Common.{◌≡◌, ◌+◌, ◌+ℤ◌, length, pos, to_z, of_z, unsigned_abs, arith, refl, ap, sym, ◌∙◌}
use Rattle.std.specs.Int.{w64}
use Rattle.std.proofs.lemmas.Int.{ints, to_z-of_z}
use Rattle.dirac_common.specs.Table.{clamped_to, table_at}
use Rattle.dirac_upconvert.specs.Phases.{place_in_row}
use Rattle.dirac_upconvert.proofs.Lanes.{plain_place, whole_place}
use Rattle.dirac_upconvert.proofs.PartRows.{parts_inside}
use Rattle.dirac_upconvert.proofs.Phased.{held_inside}
use Rattle.dirac_upconvert.proofs.rows.inner_parts.Goals as goal

pub in_lanes-requires-clause-inside : goal.in_lanes-requires-clause-inside
in_lanes-requires-clause-inside c =
    let x = unsigned_abs c.args.from.across in
    let at = whole_place c.args.from.across c.requires.inside.0 in
    let s = c.requires.sides x at in
    let len = c.nearest_row-above.ensures.len in
    let places = c.args.table.now.width + 1 in
    let left = held_inside places x (length c.args.out.now) (omega (arith, len, c.nearest_row-above.ensures.even)) (omega (arith, ints, at, c.requires.inside.1)) in
    let next = held_inside places (x + 1) (length c.args.out.now) (omega (arith, len, c.nearest_row-above.ensures.even)) (omega (arith, ints, at, c.requires.inside.1)) in
    (omega (arith, left, len, s.0), omega (arith, next, len, s.1), c.nearest_row-under.ensures.len ∙ sym len)

pub returns : goal.returns
returns c =
    let t = c.args.table.now in
    let x = unsigned_abs c.args.from.across in
    let at = whole_place c.args.from.across c.requires.inside.0 in
    let s = c.requires.sides x at in
    let len = c.nearest_row-above.ensures.len in
    let next : to_z w64 (of_z w64 c.beside.result) ≡ c.args.from.down +ℤ pos 1 = to_z-of_z w64 _ (record { sfits = c.beside.type_inv }) ∙ c.beside.ensures ∙ rw (plain_place c.args.from.down c.requires.from.2) refl in
    parts_inside t c.args.from.rests.bits c.args.from.across c.args.from.down _ _ c.nearest_row-above.result.now c.nearest_row-under.result.now c.in_lanes.new.out x c.args.sides.left c.args.sides.next
    (λ j l. c.nearest_row-above.ensures.value j l ∙ ap (λ y. table_at t j (clamped_to y t.height)) (plain_place c.args.from.down c.requires.from.2))
    (λ j l. c.nearest_row-under.ensures.value j l ∙ ap (λ y. table_at t j (clamped_to y t.height)) next)
    (c.nearest_row-under.ensures.len ∙ sym len)
    at (omega (arith, ints, at, c.requires.inside.1, c.in_lanes.auto.out)) (s.0 ∙ ap (λ n. place_in_row n x) (sym len)) (s.1 ∙ ap (λ n. place_in_row n (x + 1)) (sym len))
    (λ k l. c.in_lanes.ensures k (omega (arith, l, c.in_lanes.auto.out)))
