use Rattle.std.proofs.Common.{ℕ, ◌+◌, ◌*◌, ◌≤◌, length, sym, subst}
use Rattle.dirac_search.proofs.InLanes.{four_rows_fit}
use Rattle.dirac_search.proofs.eight_columns.place.Goals as goal

pub returns-clause-inside : goal.returns-clause-inside
returns-clause-inside c =
    let t = c.args.plane.now in
    subst (λ (w : ℕ). ((c.args.y * w + c.args.x) + 3 * t.width) + 8 ≤ length t.values) (sym c.width.ensures.value)
    (four_rows_fit t.width t.height c.args.y c.args.x (length t.values) c.requires.y c.requires.x c.width.ensures.whole)
