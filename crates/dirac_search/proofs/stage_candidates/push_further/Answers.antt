use Rattle.std.specs.Prelude.{option_map}
use Rattle.dirac_search.proofs.Reaches.{further_within}
use Rattle.dirac_search.proofs.stage_candidates.push_further.Goals as goal

pub returns-in-Finer-Some-clause-within : goal.returns-in-Finer-Some-clause-within
returns-in-Finer-Some-clause-within c = further_within c.args.stage c.args.range (option_map (λ f. f.now) c.args.before) c.args.i c.args.j c.requires.at_most_16 c.requires.former

pub returns-in-Sub-Some-clause-within : goal.returns-in-Sub-Some-clause-within
returns-in-Sub-Some-clause-within c = further_within c.args.stage c.args.range (option_map (λ f. f.now) c.args.before) c.args.i c.args.j c.requires.at_most_16 c.requires.former

pub returns-in_default-clause-within : goal.returns-in_default-clause-within
returns-in_default-clause-within c = further_within c.args.stage c.args.range (option_map (λ f. f.now) c.args.before) c.args.i c.args.j c.requires.at_most_16 c.requires.former
