use Rattle.dirac_lift.proofs.Turns.{analysis_by_lines, lines_finish, synthesis_by_lines}
use Rattle.dirac_lift.proofs.laws.lines_come_in_turn.Goals as goal

pub returns-clause-synthesis : goal.returns-clause-synthesis
returns-clause-synthesis c = synthesis_by_lines

pub returns-clause-analysis : goal.returns-clause-analysis
returns-clause-analysis c = analysis_by_lines

pub returns-clause-finished : goal.returns-clause-finished
returns-clause-finished c = lines_finish
