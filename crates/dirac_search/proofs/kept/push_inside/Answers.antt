use Rattle.std.proofs.Common.{◌+◌, arith, refl, sym, ◌∙◌}
use Rattle.dirac_inside.specs.Inside.{vector_times}
use Rattle.dirac_inside.specs.Ranges.{is_in}
use Rattle.dirac_search.specs.Candidates.{no_motion}
use Rattle.dirac_search.proofs.Keeping.{filter_more, filter_same}
use Rattle.dirac_search.proofs.kept.push_inside.Goals as goal
use Rattle.dirac_search.proofs.kept.push_inside.Goals.{then-has+in_ok-push, else-has}

pub loop-k-preserved : goal.loop-k-preserved
loop-k-preserved c =
    let list = c.args.list.now in
    elim c.if-has.branch [
      | then-has+in_ok-push w ↦
          w.kept-is ∙ w.in_ok-push.ensures.pushed
          ∙ filter_more (λ v. is_in c.args.range (vector_times c.args.count v)) list c.loop-k.kept c.loop-k.k (c.loop-k.k + 1) no_motion c.at-vector.result c.loop-k.invariant (omega (arith, c.len-k-end.ensures)) refl c.at-vector.ensures
          (sym c.has.ensures ∙ w.if-has.true)
      | else-has w ↦
          w.kept-is
          ∙ filter_same (λ v. is_in c.args.range (vector_times c.args.count v)) list c.loop-k.kept c.loop-k.k (c.loop-k.k + 1) no_motion c.at-vector.result c.loop-k.invariant (omega (arith, c.len-k-end.ensures)) refl c.at-vector.ensures
          (sym c.has.ensures ∙ w.if-has.false)
    ]
