use Rattle.std.proofs.Common.{refl, rules}
use Rattle.dirac_lift.proofs.RingRuns.{turn_can, turn_ran}
use Rattle.dirac_lift.proofs.rings.run_turn.Goals as goal

pub synthesise-requires-clause-runs : goal.synthesise-requires-clause-runs
synthesise-requires-clause-runs c =
    turn_can c.args.wavelet _ c.requires.can.lines c.requires.wavelet refl refl c.requires.down c.requires.can.narrow c.requires.can.hold c.requires.can.evens_bound c.requires.can.odds_bound

pub returns-clause-turned : goal.returns-clause-turned
returns-clause-turned c lines narrow hold =
    let ran = turn_ran c.args.wavelet _ _ lines c.requires.wavelet refl refl c.requires.down narrow hold c.requires.can.evens_bound c.requires.can.odds_bound c.synthesise.ensures in
    search rules

pub returns-clause-evens_bound : goal.returns-clause-evens_bound
returns-clause-evens_bound c =
    let ran = turn_ran c.args.wavelet _ _ c.requires.can.lines c.requires.wavelet refl refl c.requires.down c.requires.can.narrow c.requires.can.hold c.requires.can.evens_bound c.requires.can.odds_bound c.synthesise.ensures in
    search rules

pub returns-clause-odds_bound : goal.returns-clause-odds_bound
returns-clause-odds_bound c =
    let ran = turn_ran c.args.wavelet _ _ c.requires.can.lines c.requires.wavelet refl refl c.requires.down c.requires.can.narrow c.requires.can.hold c.requires.can.evens_bound c.requires.can.odds_bound c.synthesise.ensures in
    search rules
