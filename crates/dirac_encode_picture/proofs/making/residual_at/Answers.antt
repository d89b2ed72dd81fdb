use Rattle.std.proofs.Common.{subst, sym}
use Rattle.dirac_parameters.specs.declared.transform.Transform.{Transform}
use Rattle.dirac_encode_planes.specs.Analyses.{AreQuantisablePlanes}
use Rattle.dirac_encode_picture.proofs.making.residual_at.Goals as goal

pub quantise-requires-clause-from : goal.quantise-requires-clause-from
quantise-requires-clause-from g c = record {
  layout = c.transform_of-transform.ensures.layout;
  index = c.requires.codable.index;
  fits = subst (λ (x : Transform). AreQuantisablePlanes x.depth c.args.planes.now) (sym c.transform_of-transform.ensures.value) c.requires.fits;
}
