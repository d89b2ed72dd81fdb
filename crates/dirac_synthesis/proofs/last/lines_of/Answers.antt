use Rattle.dirac_synthesis.specs.Codeblocks.{restored_by_one}
use Rattle.dirac_synthesis.proofs.BesideRows.{beside_bound, narrow_values}
use Rattle.dirac_synthesis.proofs.LastRows.{evens_length, odds_length}
use Rattle.dirac_synthesis.proofs.last.lines_of.Goals as goal

pub begin-requires-clause-evens : goal.begin-requires-clause-evens
begin-requires-clause-evens c = rw (c.width.ensures.value, c.height.ensures.value) (evens_length c.args.level.now)

pub begin-requires-clause-odds : goal.begin-requires-clause-odds
begin-requires-clause-odds c = rw (c.width.ensures.value, c.height.ensures.value) (odds_length c.args.level.now c.requires.level)

pub begin-requires-clause-evens_at_most_4095 : goal.begin-requires-clause-evens_at_most_4095
begin-requires-clause-evens_at_most_4095 c =
    let l = c.args.level.now in
    beside_bound 4095 l.low (restored_by_one l.kind l.bands.hl.now) c.requires.small (narrow_values l.kind l.bands.hl.now c.requires.level.right)

pub begin-requires-clause-odds_at_most_4095 : goal.begin-requires-clause-odds_at_most_4095
begin-requires-clause-odds_at_most_4095 c =
    let l = c.args.level.now in
    beside_bound 4095 (restored_by_one l.kind l.bands.lh.now) (restored_by_one l.kind l.bands.hh.now) (narrow_values l.kind l.bands.lh.now c.requires.level.below) (narrow_values l.kind l.bands.hh.now c.requires.level.corner)
