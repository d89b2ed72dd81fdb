use Rattle.std.proofs.Common.{◌≡◌, ◌-◌, Ok}
use Rattle.dirac_rows.specs.Answers.{Gathers}
use Rattle.dirac_rows.proofs.Found.{top}
use Rattle.dirac_rows.proofs.map.claim_all.Given as goal

abbrev pub invariant-claiming : goal.invariant-claiming
invariant-claiming g l =
    (l.seat.claims ≡ l.claims) × (l.seat.shares ≡ l.fn.seat.shares) × (l.seat.given_up ≡ l.fn.seat.given_up)
    × Gathers (λ r x. g.F.Fn.post l.work (r, tt) (Ok x)) l.claims.rows l.seat.kept l.found.items

abbrev pub decreases-claiming : goal.decreases-claiming
decreases-claiming g l = l.claims.rows - top l.seat.kept
