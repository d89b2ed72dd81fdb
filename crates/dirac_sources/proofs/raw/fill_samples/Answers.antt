use Rattle.std.proofs.Common.{pos, arith}
use Rattle.std.proofs.lemmas.List.{get_or_default}
use Rattle.dirac_sources.proofs.Raws.{samples_all}
use Rattle.dirac_sources.proofs.raw.fill_samples.Goals as goal

pub returns-clause-value : goal.returns-clause-value
returns-clause-value c =
    samples_all c.args.bytes.now c.loop-i.samples c.loop-i.i (omega arith) c.loop-i.invariant.value (omega arith)

pub returns-clause-fits : goal.returns-clause-fits
returns-clause-fits c k d l = rw (get_or_default c.loop-i.samples k d (pos 0) l) (c.loop-i.invariant.fits k (omega (arith, l)))
