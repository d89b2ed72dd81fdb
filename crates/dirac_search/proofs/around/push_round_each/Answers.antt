use Rattle.std.proofs.Common.{◌+◌, ◌^◌, ◌<◌, length, ap, sym, ◌∙◌, refl, arith, subst}
use Rattle.std.specs.List.{All}
use Rattle.std.proofs.lemmas.List.Elements.{All-append}
use Rattle.dirac_costs.specs.Least.{first_least}
use Rattle.dirac_search.specs.Candidates.{IsWithinReach, around, no_motion}
use Rattle.dirac_search.proofs.Repeats.{round_new, round_again}
use Rattle.dirac_search.proofs.Reaches.{around_within, weaker}
use Rattle.dirac_search.proofs.around.push_round_each.Goals as goal
use Rattle.dirac_search.proofs.around.push_round_each.Goals.{then-not-is_repeated+in_ok-push_around, else-not-is_repeated}

pub loop-k-preserved : goal.loop-k-preserved
loop-k-preserved c =
    let inside : c.loop-k.k < length c.args.centres.now = omega (arith, c.len-k-end.ensures) in
    elim c.if-not-is_repeated.branch [
      | then-not-is_repeated+in_ok-push_around w ↦
          let centre = subst (IsWithinReach (2 ^ 23)) (sym w.at.ensures) (c.requires.centres c.loop-k.k no_motion inside) in
          record {
            same = λ cost.
                ap (first_least cost no_motion) w.list-is
                ∙ round_new cost c.args.centres.now c.loop-k.list w.push_around.new.list c.loop-k.k (c.loop-k.k + 1) w.at.result no_motion (c.loop-k.invariant.same cost) inside refl w.at.ensures w.in_ok-push_around.ensures;
            within =
                subst (All (IsWithinReach (2 ^ 24))) (sym (w.list-is ∙ w.in_ok-push_around.ensures))
                (All-append (IsWithinReach (2 ^ 24)) c.loop-k.list (around w.at.result 1) c.loop-k.invariant.within
                (weaker (2 ^ 23 + 1) (2 ^ 24) (around w.at.result 1) (omega arith) (around_within 1 (2 ^ 23) w.at.result centre)));
          }
      | else-not-is_repeated w ↦
          let again = c.is_repeated.ensures w.if-not-is_repeated.false in
          record {
            same = λ cost.
                ap (first_least cost no_motion) w.list-is
                ∙ round_again cost c.args.centres.now c.loop-k.list c.loop-k.k (c.loop-k.k + 1) again.0 no_motion (c.loop-k.invariant.same cost) inside refl again.1 again.2;
            within = subst (All (IsWithinReach (2 ^ 24))) (sym w.list-is) c.loop-k.invariant.within;
          }
    ]
