use Rattle.std.proofs.Common.{arith}
use Rattle.dirac_upconvert.proofs.Doubling.{between_sample}
use Rattle.dirac_upconvert.proofs.Halves.{all_samples}
use Rattle.dirac_upconvert.proofs.plane.half_row.Goals as goal

pub returns-clause-samples : goal.returns-clause-samples
returns-clause-samples c =
    all_samples c.half_of_rows.new.out
    (λ x l. rw (c.half_of_rows.ensures.value x (omega (arith, l, c.half_of_rows.auto.out))) (between_sample _ _ _ _ _ _ _ _))
