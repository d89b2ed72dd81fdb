use Rattle.std.proofs.Common.{◌+◌, arith, ◌∙◌, ap, sym, refl}
use Rattle.dirac_search.specs.Candidates.{no_motion}
use Rattle.dirac_search.specs.Staged.{cost_at}
use Rattle.dirac_search.proofs.Choosing.{least_taken, least_kept}
use Rattle.dirac_search.proofs.least.least_of.Goals as goal
use Rattle.dirac_search.proofs.least.least_of.Goals.{in-Some, in-None}

pub loop-k-preserved : goal.loop-k-preserved
loop-k-preserved c =
    let cost = cost_at c.args.staged.now c.args.window in
    elim c.match-better_cost.branch [
      | in-Some w ↦ record {
        found =
            w.found-is
            ∙ least_taken cost no_motion c.loop-k.found c.args.list.now c.loop-k.k (c.loop-k.k + 1) c.at-v.result no_motion (omega (arith, c.len-k-end.ensures)) refl c.at-v.ensures c.loop-k.invariant.found
            (omega (arith, w.in-Some.ensures.below.0, w.in-Some.ensures.below.1, c.loop-k.invariant.least));
        least = w.least-is ∙ w.in-Some.ensures.below.0 ∙ ap cost (sym w.found-is);
      }
      | in-None w ↦ record {
        found =
            w.found-is
            ∙ least_kept cost no_motion c.loop-k.found c.args.list.now c.loop-k.k (c.loop-k.k + 1) c.at-v.result no_motion (omega (arith, c.len-k-end.ensures)) refl c.at-v.ensures c.loop-k.invariant.found
            (omega (arith, w.in-None.ensures.above, c.loop-k.invariant.least));
        least = w.least-is ∙ c.loop-k.invariant.least ∙ ap cost (sym w.found-is);
      }
    ]
