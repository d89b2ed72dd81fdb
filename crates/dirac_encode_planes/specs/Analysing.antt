-- What is analysed of a source and quantised, and that it can be.
use Rattle.std.specs.Prelude.{◌≡◌, Option, None, Some, List, IfSome}
use Rattle.std.specs.Option.{option_copied}
use Rattle.dirac_common.specs.declared.formats.Component.{Component}
use Rattle.dirac_common.specs.declared.formats.Component.TheVariants as component
use Rattle.dirac_common.specs.declared.formats.Kind.{Kind}
use Rattle.dirac_common.specs.declared.formats.Kind.TheVariants.{Inter, Intra}
use Rattle.dirac_common.specs.Limits.{IsEncodedDepth, IsIndex, IsWavelet}
use Rattle.dirac_common.specs.Table.{Table}
use Rattle.dirac_coeffs.specs.declared.layout.CodedBand.{CodedBand}
use Rattle.dirac_analysis.specs.Analysis.{quantised}
use Rattle.dirac_picture.specs.Fits.{IsLayout}
use Rattle.dirac_encode_planes.specs.declared.beside.Planes.{Planes}
use Rattle.dirac_encode_planes.specs.declared.predictions.Predictions.{Predictions}
use Rattle.dirac_encode_planes.specs.declared.residual.AnalysedPlanes.{AnalysedPlanes}
use Rattle.dirac_encode_planes.specs.declared.residual.Analysing.{Analysing}
use Rattle.dirac_encode_planes.specs.declared.residual.Quantising.{Quantising}
use Rattle.dirac_encode_planes.specs.Analyses.{AreAnalysed, AreQuantisablePlanes, component_analysis}
use Rattle.dirac_encode_planes.specs.Predictions.{IsCodableSource, IsPicturePredictedBy, less_values, values_of}

-- planes with predictions are those of an inter picture
abbrev pub kind_with : Option Predictions → Kind
kind_with None = Intra
kind_with (Some ps) = Inter

-- a plane, less what is predicted for it
abbrev pub plane_less : Table → Component → Option Predictions → Table
plane_less plane component None = plane
plane_less plane component (Some ps) = less_values plane (values_of ps component)

abbrev pub kind_in : Analysing → Kind
kind_in f = kind_with (option_copied f.predictions)

-- what is analysed of a plane
abbrev pub plane_in : Analysing → Component → Table
plane_in f component.Y = plane_less f.source.now.y component.Y (option_copied f.predictions)
plane_in f component.U = plane_less f.source.now.u component.U (option_copied f.predictions)
plane_in f component.V = plane_less f.source.now.v component.V (option_copied f.predictions)

-- a source whose planes can be analysed, and predictions that can be taken away from it
pub record CanBeAnalysed (f : Analysing) : Type 0 where
  pub wavelet : IsWavelet f.transform.now.wavelet
  pub depth : IsEncodedDepth f.transform.now.depth
  pub source : IsCodableSource f.source.now
  pub predicted : IfSome (option_copied f.predictions) (IsPicturePredictedBy f.source.now)

-- its planes are analysed
abbrev pub AreAnalysedPlanes : Analysing → AnalysedPlanes → Type 0
AreAnalysedPlanes f a =
    AreAnalysed f.transform.now (kind_in f) (plane_in f component.Y) (plane_in f component.U) (plane_in f component.V) a

-- analysed planes that can be quantised
pub record CanBeQuantised (f : Quantising) : Type 0 where
  pub layout : IsLayout f.transform.now
  pub index : IsIndex f.index
  pub fits : AreQuantisablePlanes f.transform.now.depth f.planes.now

-- the subbands of one of them, quantised
abbrev pub bands_in : Quantising → Component → List CodedBand
bands_in f component = quantised f.kind f.transform.now f.finer f.index (component_analysis f.planes.now component)

-- those of all three
pub record AreQuantisedBands (f : Quantising) (ps : Planes (List CodedBand)) : Type 0 where
  pub y : ps.y ≡ bands_in f component.Y
  pub u : ps.u ≡ bands_in f component.U
  pub v : ps.v ≡ bands_in f component.V
