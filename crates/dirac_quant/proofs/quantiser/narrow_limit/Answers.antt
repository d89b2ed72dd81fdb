use Rattle.std.proofs.Common.{arith, refl}
use Rattle.dirac_quant.specs.Quantiser.{factor_of, offset_of}
use Rattle.dirac_quant.proofs.Limits.{limit_fits, limit_exact, limit_room, limit_below}
use Rattle.dirac_quant.proofs.quantiser.narrow_limit.Goals as goal

pub returns-clause-fits : goal.returns-clause-fits
returns-clause-fits c m l = limit_fits m (factor_of c.args.index) (offset_of c.args.index c.args.kind) _ (rw (c.saturating_sub.ensures, c.offset-taken.ensures.value, c.factor.ensures.value) refl) (omega arith) l

pub returns-clause-exact : goal.returns-clause-exact
returns-clause-exact c m l = limit_exact m (factor_of c.args.index) (offset_of c.args.index c.args.kind) _ (rw (c.saturating_sub.ensures, c.offset-taken.ensures.value, c.factor.ensures.value) refl) (omega arith) l

pub returns-clause-no_overflow : goal.returns-clause-no_overflow
returns-clause-no_overflow c m one l = limit_room m (factor_of c.args.index) (offset_of c.args.index c.args.kind) _ (rw (c.saturating_sub.ensures, c.offset-taken.ensures.value, c.factor.ensures.value) refl) (omega arith) one l

pub returns-clause-below : goal.returns-clause-below
returns-clause-below c = limit_below (factor_of c.args.index) (offset_of c.args.index c.args.kind) _ (rw (c.saturating_sub.ensures, c.offset-taken.ensures.value, c.factor.ensures.value) refl) (omega arith)
