use Rattle.std.proofs.Common.{List, ℤ, length, refl, ap, ◌∙◌, subst}
use Rattle.std.proofs.lemmas.List.{take_at}
use Rattle.dirac_lift.specs.AtWork.{lines_of}
use Rattle.dirac_lift.specs.Rings.{RowCame, most_of}
use Rattle.dirac_lift.proofs.GivenRows.{turn_taken}
use Rattle.dirac_lift.proofs.RingLevels.{came_bound, came_holds, lines_narrow, most_least, turn_holds}
use Rattle.dirac_lift.proofs.half_levels.LinesAtWork.take_turn.Goals as goal

pub run_turn-requires-clause-can : goal.run_turn-requires-clause-can
run_turn-requires-clause-can g c =
    let l = c.args.self.now in
    let at_work = c.requires.at_work in
    let es = g.S.RowPairs.evens c.args.source.now in
    let os = g.S.RowPairs.odds c.args.source.now in
    let ce : RowCame l.size.width l.size.half l.turn es l.evens.items c.take_pair.new.evens =
    subst (λ (zs : List ℤ). RowCame l.size.width l.size.half l.turn es zs c.take_pair.new.evens) c.as_mut_slice-evens.ensures.value c.take_pair.ensures.evens in
    let co : RowCame l.size.width l.size.half l.turn os l.odds.items c.take_pair.new.odds =
    subst (λ (zs : List ℤ). RowCame l.size.width l.size.half l.turn os zs c.take_pair.new.odds) c.as_mut_slice-odds.ensures.value c.take_pair.ensures.odds in
    record {
      lines = lines_of l.size.width l.size.half es os;
      narrow = lines_narrow l.size.width l.size.half es os at_work.rings.even at_work.evens_small at_work.odds_small;
      hold = came_holds l.wavelet l.size.width l.size.half l.turn es os l.evens.items l.odds.items _ _ at_work.rings.wavelet at_work.rings.even at_work.hold ce co;
      evens_bound = came_bound (most_of l.wavelet).0 l.size.width l.size.half l.turn es l.evens.items _ ce (most_least l.wavelet at_work.rings.wavelet).0 at_work.evens_small at_work.rings.evens_bound;
      odds_bound = came_bound (most_of l.wavelet).1 l.size.width l.size.half l.turn os l.odds.items _ co (most_least l.wavelet at_work.rings.wavelet).1 at_work.odds_small at_work.rings.odds_bound;
    }

pub returns-clause-at_work : goal.returns-clause-at_work
returns-clause-at_work g c =
    let l = c.args.self.now in
    let at_work = c.requires.at_work in
    let es = g.S.RowPairs.evens c.args.source.now in
    let os = g.S.RowPairs.odds c.args.source.now in
    let ce : RowCame l.size.width l.size.half l.turn es l.evens.items c.take_pair.new.evens =
    subst (λ (zs : List ℤ). RowCame l.size.width l.size.half l.turn es zs c.take_pair.new.evens) c.as_mut_slice-evens.ensures.value c.take_pair.ensures.evens in
    let co : RowCame l.size.width l.size.half l.turn os l.odds.items c.take_pair.new.odds =
    subst (λ (zs : List ℤ). RowCame l.size.width l.size.half l.turn os zs c.take_pair.new.odds) c.as_mut_slice-odds.ensures.value c.take_pair.ensures.odds in
    turn_taken es os c.run_turn.new.evens c.run_turn.new.odds l _ at_work refl refl refl
    (take_at c.run_turn.new.evens _ _ (c.run_turn.auto.evens ∙ c.take_pair.auto.evens ∙ c.as_mut_slice-evens.ensures.len))
    (take_at c.run_turn.new.odds _ _ (c.run_turn.auto.odds ∙ c.take_pair.auto.odds ∙ c.as_mut_slice-odds.ensures.len))
    (c.run_turn.auto.evens ∙ c.take_pair.auto.evens ∙ ap length c.as_mut_slice-evens.ensures.value)
    (c.run_turn.auto.odds ∙ c.take_pair.auto.odds ∙ ap length c.as_mut_slice-odds.ensures.value)
    (turn_holds l.wavelet l.size.width l.size.half l.turn es os l.evens.items l.odds.items _ _ _ _ at_work.rings.wavelet at_work.rings.even at_work.evens_small at_work.odds_small at_work.hold ce co c.run_turn.ensures.turned)
    c.run_turn.ensures.evens_bound c.run_turn.ensures.odds_bound
