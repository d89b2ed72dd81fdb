use Rattle.std.proofs.Common.{ap}
use Rattle.dirac_upconvert.specs.SubSamples.{Up}
use Rattle.dirac_refs.specs.declared.reference.Halves.{Halves}
use Rattle.dirac_pardec.proofs.halves.put_together.Goals as goal

pub returns : goal.returns
returns c = λ f are. ap (λ (x : Up × Up × Up). let h : Halves = record { y = x.0; u = x.1; v = x.2 } in h) (c.three_of-y.ensures f are)
