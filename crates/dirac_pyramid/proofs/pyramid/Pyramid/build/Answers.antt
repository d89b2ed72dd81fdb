use Rattle.std.proofs.Common.{◌+◌, ◌≤◌, arith, subst, sym}
use Rattle.dirac_common.specs.Table.{Table}
use Rattle.dirac_pyramid.proofs.Levels.{level_size, level_is, levels_len}
use Rattle.dirac_pyramid.proofs.pyramid.Pyramid.build.Goals as goal

pub index-requires : goal.index-requires
index-requires c = omega (arith, levels_len c.args.plane.now c.loop-l.list.items (c.loop-l.l + 1) c.loop-l.invariant, c.loop-l.list.ok.0)

pub shrink-requires-clause-at_most_8192_across : goal.shrink-requires-clause-at_most_8192_across
shrink-requires-clause-at_most_8192_across c =
    let is = level_is c.args.plane.now c.index.result.now c.loop-l.list.items c.loop-l.l (c.loop-l.l + 1) c.loop-l.invariant (omega arith) c.index.ensures in
    subst (λ (t : Table). t.width ≤ 8192) (sym is) (level_size c.args.plane.now c.loop-l.l c.requires.at_most_8192_across c.requires.at_most_8192_down).0

pub shrink-requires-clause-at_most_8192_down : goal.shrink-requires-clause-at_most_8192_down
shrink-requires-clause-at_most_8192_down c =
    let is = level_is c.args.plane.now c.index.result.now c.loop-l.list.items c.loop-l.l (c.loop-l.l + 1) c.loop-l.invariant (omega arith) c.index.ensures in
    subst (λ (t : Table). t.height ≤ 8192) (sym is) (level_size c.args.plane.now c.loop-l.l c.requires.at_most_8192_across c.requires.at_most_8192_down).1

pub returns-clause-number_of_levels : goal.returns-clause-number_of_levels
returns-clause-number_of_levels c = omega (arith, levels_len c.args.plane.now c.loop-l.list.items (c.loop-l.l + 1) c.loop-l.invariant)
