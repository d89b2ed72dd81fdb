use Rattle.std.proofs.Common.{◌∙◌, ◌+◌, drop, arith, sym, ap}
use Rattle.dirac_edit.specs.Kept.{Walked, all_of, walked_from}
use Rattle.dirac_edit.proofs.Going.{walked_all, walked_more}
use Rattle.dirac_edit.proofs.part.sequences_of.Goals as goal

pub loop-index-preserved : goal.loop-index-preserved
loop-index-preserved c = record {
  at_most_one_a_unit = omega (arith, c.in_ok-take.ensures.points, c.loop-index.invariant.at_most_one_a_unit);
  so = walked_more c.args.part c.args.units.now c.loop-index.index c.index-units-index.result c.loop-index.walk c.loop-index-test.true c.index-units-index.is c.loop-index.invariant.so
      ∙ ap (λ (w : Walked). all_of (walked_from c.args.part (c.loop-index.index + 1) w (drop (c.loop-index.index + 1) c.args.units.now))) (sym c.in_ok-take.ensures.walked);
}

pub returns : goal.returns
returns c =
    ap (λ (w : Walked). w.ended) (c.walk-2.view_is ∙ c.in_ok-end.ensures)
    ∙ sym (walked_all c.args.part c.args.units.now c.loop-index.index c.loop-index.walk c.loop-index-test.false c.loop-index.invariant.so)
