use Rattle.std.proofs.Common.{rules, Ok}
use Rattle.dirac_rows.proofs.Found.{rows_left_fall, gathers_pushed}
use Rattle.dirac_rows.proofs.map.claim_all.Goals as goal

pub claiming-smaller : goal.claiming-smaller
claiming-smaller g c = rows_left_fall c.args.claims.now.rows c.in-Some.row c.claiming.seat.kept c.claim.new.seat.kept c.in-Some.ensures.row.0 c.in-Some.ensures.row.1 c.in-Some.ensures.row.2

pub claiming-preserved : goal.claiming-preserved
claiming-preserved g c = (
  search rules,
  search rules,
  search rules,
  gathers_pushed (λ r x. g.F.Fn.post c.args.work.now (r, tt) (Ok x)) c.args.claims.now.rows c.claiming.seat.kept c.claim.new.seat.kept c.claiming.found.items c.push.new.self.items c.in-Some.row c.in_ok-item.item
      c.claiming.invariant.3 c.in-Some.ensures.row.0 c.in_ok-item.ensures c.in-Some.ensures.row.2 c.in_ok-push.ensures.items,
)
