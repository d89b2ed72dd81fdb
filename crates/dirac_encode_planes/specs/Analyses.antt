-- The planes of a picture, analysed.
use Rattle.std.specs.Prelude.{◌≡◌, ℕ}
use Rattle.dirac_common.specs.declared.formats.Component.{Component}
use Rattle.dirac_common.specs.declared.formats.Component.TheVariants as component
use Rattle.dirac_common.specs.declared.formats.Kind.{Kind}
use Rattle.dirac_common.specs.Table.{Table}
use Rattle.dirac_parameters.specs.declared.transform.Transform.{Transform}
use Rattle.dirac_analysis.specs.Analysis.{Analysis, plane_analysis}
use Rattle.dirac_analysis.specs.Fits.{AreQuantisable}
use Rattle.dirac_encode_planes.specs.declared.residual.AnalysedPlanes.{AnalysedPlanes}

-- a plane is analysed with this transform, so that it can be quantised
pub record IsAnalysed (x : Transform) (kind : Kind) (plane : Table) (a : Analysis) : Type 0 where
  pub same : a ≡ plane_analysis kind x plane
  pub fits : AreQuantisable x.depth a

-- the planes of a picture are
pub record AreAnalysed (x : Transform) (kind : Kind) (of_y of_u of_v : Table) (a : AnalysedPlanes) : Type 0 where
  pub y : IsAnalysed x kind of_y a.y
  pub u : IsAnalysed x kind of_u a.u
  pub v : IsAnalysed x kind of_v a.v

-- the analysis of one plane
abbrev pub component_analysis : AnalysedPlanes → Component → Analysis
component_analysis a component.Y = a.y
component_analysis a component.U = a.u
component_analysis a component.V = a.v

-- planes of that many levels that can be quantised
pub record AreQuantisablePlanes (depth : ℕ) (a : AnalysedPlanes) : Type 0 where
  pub y : AreQuantisable depth a.y
  pub u : AreQuantisable depth a.u
  pub v : AreQuantisable depth a.v
