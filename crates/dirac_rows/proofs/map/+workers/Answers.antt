use Rattle.std.proofs.Common.{ℕ, List, Ok, IfOk, sym, ap, subst}
use Rattle.dirac_rows.specs.Answers.{Gathers}
use Rattle.dirac_rows.specs.Claims.{Seated}
use Rattle.dirac_rows.proofs.Found.{both_found}
use Rattle.dirac_rows.proofs.map.+workers.Goals as goal

pub returns-clause-found : goal.returns-clause-found
returns-clause-found g t c =
    subst (λ (k : List ℕ). IfOk c.put_together.result (λ v. Gathers (λ r x. g.F.Fn.post c.args.work.now (r, tt) (Ok x)) c.args.claims.now.rows k v.items)) (sym (ap (λ (s : Seated). s.kept) c.join.ensures.taken))
    (both_found (λ r x. g.F.Fn.post c.args.work.now (r, tt) (Ok x)) c.args.claims.now.rows (λ v. v.items) _ _ _ _ c.put_together.result c.join-seat.ensures.first.1.1.1 c.join-seat.ensures.second.1.1.1 c.put_together.ensures.items c.put_together.ensures.both_ok)
