use Rattle.std.proofs.Common.{◌^◌, subst, sym}
use Rattle.std.specs.List.{All}
use Rattle.dirac_search.specs.Candidates.{IsWithinReach}
use Rattle.dirac_search.proofs.Reaches.{centres_within}
use Rattle.dirac_search.proofs.stage_candidates.push_finer_choice.Goals as goal

pub push_round_each-requires-clause-centres : goal.push_round_each-requires-clause-centres
push_round_each-requires-clause-centres c = subst (All (IsWithinReach (2 ^ 23))) (sym c.in_ok-push_centres.ensures) (centres_within (2 ^ 22) c.args.i c.args.j c.args.field.now c.requires.former.within)
