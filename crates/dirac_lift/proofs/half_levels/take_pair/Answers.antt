use Rattle.std.proofs.Common.{◌%◌, arith, ap, ◌∙◌}
use Rattle.std.proofs.lemmas.Nat.{row_fits}
use Rattle.dirac_lift.specs.Level.{row_in}
use Rattle.dirac_lift.proofs.RingLevels.{row_put}
use Rattle.dirac_lift.proofs.RingRows.{no_row_came, row_came}
use Rattle.dirac_lift.proofs.half_levels.take_pair.Goals as goal

pub returns-then-turn-size-clause-evens : goal.returns-then-turn-size-clause-evens
returns-then-turn-size-clause-evens g c = no_row_came _ _ _ _ _ (omega arith)

pub returns-then-turn-size-clause-odds : goal.returns-then-turn-size-clause-odds
returns-then-turn-size-clause-odds g c = no_row_came _ _ _ _ _ (omega arith)

pub returns-clause-evens : goal.returns-clause-evens
returns-clause-evens g c =
    let w = c.args.size.width in
    row_came _ _ _ _ _ _ (omega arith)
    (row_put w (c.args.turn % 16) c.args.turn _ _ _ _ (omega (arith, c.requires.evens, row_fits (c.args.turn % 16) w 16 w (omega arith) (omega arith)))
    (omega (arith, c.requires.evens_len, row_fits c.args.turn w c.args.size.half w (omega arith) (omega arith))) (omega arith)
    (c.put_pair.ensures.even ∙ ap (λ k. row_in (g.S.RowPairs.evens c.args.source.now) k c.args.turn) c.requires.columns))

pub returns-clause-odds : goal.returns-clause-odds
returns-clause-odds g c =
    let w = c.args.size.width in
    row_came _ _ _ _ _ _ (omega arith)
    (row_put w (c.args.turn % 16) c.args.turn _ _ _ _ (omega (arith, c.requires.odds, row_fits (c.args.turn % 16) w 16 w (omega arith) (omega arith)))
    (omega (arith, c.requires.odds_len, row_fits c.args.turn w c.args.size.half w (omega arith) (omega arith))) (omega arith)
    (c.put_pair.ensures.odd ∙ ap (λ k. row_in (g.S.RowPairs.odds c.args.source.now) k c.args.turn) c.requires.columns))
