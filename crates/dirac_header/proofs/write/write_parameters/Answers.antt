use Rattle.dirac_common.specs.Numbers.{uint}
use Rattle.dirac_bits.proofs.Fronts.{on_err, none_stand, first_stand, others_stand}
use Rattle.dirac_header.proofs.write.write_parameters.Goals as goal

pub returns-in_err-uint-clause-front : goal.returns-in_err-uint-clause-front
returns-in_err-uint-clause-front c = on_err _ (first_stand _ _ (first_stand _ _ (none_stand (uint c.args.t.now.wavelet) c.in_err-uint.ensures.err)))

pub returns-in_err-uint-2-clause-front : goal.returns-in_err-uint-2-clause-front
returns-in_err-uint-2-clause-front c =
    on_err _ (first_stand _ _ (others_stand _ _ (rw c.from.ensures at c.in_ok-uint.ensures.ok) (none_stand _ c.in_err-uint-2.ensures.err)))
