use Rattle.std.proofs.Common.{◌≡◌, ℕ, pos, ◌+◌, ◌*◌, ◌/◌, get_or, arith, refl, ap, sym, ◌∙◌, subst}
use Rattle.dirac_common.proofs.Rows.{rows_all, rows_more}
use Rattle.dirac_lift.specs.AtWork.{HasGiven, turns_behind}
use Rattle.dirac_lift.proofs.GivenRows.{row_told}
use Rattle.dirac_lift.proofs.HalfPlanes.{level_at, level_filled}
use Rattle.dirac_lift.proofs.half_levels.put_rows.Goals as goal

pub next_row-requires-clause-next : goal.next_row-requires-clause-next
next_row-requires-clause-next g c = c.loop-y.invariant.given.turn ∙ ap (λ k. (c.loop-y.y + 1) / 2 + turns_behind k) (sym c.loop-y.invariant.given.wavelet)

pub loop-y-preserved : goal.loop-y-preserved
loop-y-preserved g c =
    let k = c.args.lines.now.wavelet in
    let w = c.args.plane.now.width in
    let h = c.args.plane.now.height / 2 in
    let y = c.loop-y.y in
    let es = g.S.RowPairs.evens c.args.source.now in
    let os = g.S.RowPairs.odds c.args.source.now in
    let next : y + 2 ≡ y + 1 + 1 = omega arith in
    record {
      across = c.loop-y.invariant.across;
      down = c.loop-y.invariant.down;
      work = c.next_row.auto.work ∙ c.loop-y.invariant.work;
      at_work = c.next_row.ensures.at_work;
      given = subst (λ (n : ℕ). HasGiven k w h (n / 2) c.next_row.new.self) next (c.next_row.ensures.given k w h c.loop-y.invariant.given);
      rows =
          rows_more (level_at k w h es os) _ _ _ y (y + 1) _ c.loop-y.invariant.rows (omega arith) refl (omega arith)
          (λ x l. ap (λ zs. get_or zs x (pos 0)) (c.next_row.ensures.row k w h c.loop-y.invariant.given) ∙ row_told k w h x y es os (omega (arith, l, c.loop-y.invariant.across)) (omega arith));
    }

pub returns : goal.returns
returns g c =
    let k = c.args.lines.now.wavelet in
    let w = c.args.plane.now.width in
    let h = c.args.plane.now.height / 2 in
    let es = g.S.RowPairs.evens c.args.source.now in
    let os = g.S.RowPairs.odds c.args.source.now in
    rows_all (level_at k w h es os) c.loop-y.plane w (2 * h) c.loop-y.y c.loop-y.invariant.across (omega (arith, c.loop-y.invariant.down, c.requires.pairwise)) (omega (arith, c.requires.at_work.rings.some, c.requires.given.width)) (omega arith) c.loop-y.invariant.rows
    ∙ level_filled k w h es os
