use Rattle.dirac_reading_laws.proofs.Outcomes.{one_outcome, some_outcome}
use Rattle.dirac_reading_laws.proofs.laws.a_stream_shows_one_outcome.Goals as goal

pub returns-clause-at_most_one : goal.returns-clause-at_most_one
returns-clause-at_most_one c = one_outcome

pub returns-clause-at_least_one : goal.returns-clause-at_least_one
returns-clause-at_least_one c = some_outcome
