use Rattle.dirac_arith.proofs.CodedValues.{spelled_is_read, one_is_spelled, broken_is_refused, ones_are_refused, then_is_read}
use Rattle.dirac_arith.proofs.laws.coded_values_are_read.Goals as goal

pub returns-clause-spelled_is_read : goal.returns-clause-spelled_is_read
returns-clause-spelled_is_read g c = λ s x block. spelled_is_read s x block

pub returns-clause-one_is_spelled : goal.returns-clause-one_is_spelled
returns-clause-one_is_spelled g c = λ s x y ds es block p a q b. one_is_spelled s x y ds es block p a q b

pub returns-clause-broken_is_refused : goal.returns-clause-broken_is_refused
returns-clause-broken_is_refused g c = λ s cause block some. broken_is_refused s cause block some

pub returns-clause-ones_are_refused : goal.returns-clause-ones_are_refused
returns-clause-ones_are_refused g c = λ s block ones. ones_are_refused s block ones

pub returns-clause-then_is_read : goal.returns-clause-then_is_read
returns-clause-then_is_read g c = λ s k r. then_is_read s k r
