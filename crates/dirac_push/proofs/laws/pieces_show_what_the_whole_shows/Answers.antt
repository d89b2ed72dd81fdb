use Rattle.dirac_push.proofs.Passing.{passes_on, shows_to_its_end, shows_to_its_fault}
use Rattle.dirac_push.proofs.laws.pieces_show_what_the_whole_shows.Goals as goal

pub returns-clause-passes_on : goal.returns-clause-passes_on
returns-clause-passes_on c = λ a b d sent sent' given given' first second. passes_on a b d sent sent' given given' first second

pub returns-clause-to_the_end : goal.returns-clause-to_the_end
returns-clause-to_the_end c = λ p sent given passes none ended. shows_to_its_end p sent given passes none ended

pub returns-clause-to_the_fault : goal.returns-clause-to_the_fault
returns-clause-to_the_fault c = λ p sent more given fault passes none faulted may. shows_to_its_fault p sent more given fault passes none faulted may
