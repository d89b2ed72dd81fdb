use Rattle.dirac_analysis.proofs.levels.+analyse_levels.Given as goal

abbrev pub decreases-analyse_levels : goal.decreases-analyse_levels
decreases-analyse_levels l = l.depth
