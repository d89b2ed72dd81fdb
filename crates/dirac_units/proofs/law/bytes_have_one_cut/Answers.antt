use Rattle.std.proofs.Common.{refl, length, arith}
use Rattle.dirac_units.specs.Cut.{front_of}
use Rattle.dirac_units.proofs.Cuts.{cut_by, one_cut}
use Rattle.dirac_units.proofs.law.bytes_have_one_cut.Goals as goal

pub returns-clause-each_has_a_cut : goal.returns-clause-each_has_a_cut
returns-clause-each_has_a_cut c = λ unit_place bytes. cut_by (length bytes) unit_place bytes (front_of unit_place bytes) refl (omega arith)

pub returns-clause-none_has_two_cuts : goal.returns-clause-none_has_two_cuts
returns-clause-none_has_two_cuts c = λ unit_place bytes units units' end end' p q. one_cut unit_place bytes units units' end end' p q
