use Rattle.dirac_reading_laws.proofs.Either.{one_refusal, one_value, spelled_not_broken, spelled_or_broken}
use Rattle.dirac_reading_laws.proofs.laws.headers_are_spelled_or_break.Goals as goal

pub returns-clause-either : goal.returns-clause-either
returns-clause-either g c = spelled_or_broken

pub returns-clause-not_both : goal.returns-clause-not_both
returns-clause-not_both g c = spelled_not_broken

pub returns-clause-one_value : goal.returns-clause-one_value
returns-clause-one_value g c = one_value

pub returns-clause-one_refusal : goal.returns-clause-one_refusal
returns-clause-one_refusal g c = one_refusal
