use Rattle.dirac_reading_laws.proofs.Broken.{broken_refused, refused_broken}
use Rattle.dirac_reading_laws.proofs.laws.headers_are_refused_where_a_field_breaks.Goals as goal

pub returns : goal.returns
returns g c = record { exact = λ s at r. (refused_broken s at r, broken_refused s at r) }
