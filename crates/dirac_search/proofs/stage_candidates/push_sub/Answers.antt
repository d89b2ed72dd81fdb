use Rattle.std.proofs.Common.{◌^◌, subst, sym}
use Rattle.dirac_search.specs.Candidates.{IsWithinReach}
use Rattle.dirac_search.proofs.Reaches.{twice_within, vector_within}
use Rattle.dirac_search.proofs.stage_candidates.push_sub.Goals as goal

pub push_around-requires-clause-centre : goal.push_around-requires-clause-centre
push_around-requires-clause-centre c =
    let f = c.args.field.now in
    subst (IsWithinReach (2 ^ 23)) (sym c.centre-centre.ensures) (twice_within (2 ^ 22) _ (vector_within (2 ^ 22) c.args.i c.args.j f c.requires.former.within))
