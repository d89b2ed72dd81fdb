use Rattle.dirac_search_laws.proofs.Insides.{all_may_be_taken, fields_keep_inside, insides_may_be_taken}
use Rattle.dirac_search_laws.proofs.laws.vectors_keep_inside_where_asked.Goals as goal

pub returns : goal.returns
returns c = record { all = all_may_be_taken; insides = insides_may_be_taken; vectors_keep_inside = fields_keep_inside }
