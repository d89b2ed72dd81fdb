-- Settings with which pictures can be coded, and how great their coefficients are.
use Rattle.std.specs.Prelude.{◌≡◌, ℕ, ◌≤◌, ◌<◌, ◌^◌, List, Some, slice_get, unsigned_abs}
use Rattle.std.specs.List.{All}
use Rattle.dirac_common.specs.Limits.{IsEncodedDepth, IsIndex, IsWavelet}
use Rattle.dirac_common.specs.declared.limits.TheConstants.{LARGEST_INDEX}
use Rattle.dirac_types.specs.declared.settings.Settings.{Settings}
use Rattle.dirac_sequence.specs.Written.{IsWritable}
use Rattle.dirac_coeffs.specs.declared.layout.CodedBand.{CodedBand}
use Rattle.dirac_picture.specs.declared.coded.CodedResidual.{CodedResidual}

-- settings with which a picture can be coded
pub record IsCodable (t : Settings) : Type 0 where
  pub sequence : IsWritable t
  pub wavelet : IsWavelet t.wavelet
  pub depth : IsEncodedDepth t.depth
  pub index : IsIndex t.index
  pub codeblocks : 1 ≤ t.codeblocks
  pub finer : t.finer ≤ LARGEST_INDEX

-- the coefficients of coded bands stay below 2 ^ 38 in magnitude
abbrev pub HaveSmall : List CodedBand → Type 0
HaveSmall bands =
    (n : ℕ) (b : CodedBand) → slice_get bands n ≡ Some b → All (λ v. unsigned_abs v < 2 ^ 38) b.table.values

-- the coefficients of all three planes of a residual stay below 2 ^ 38 in magnitude
pub record ResidualIsSmall (r : CodedResidual) : Type 0 where
  pub y : HaveSmall r.y
  pub u : HaveSmall r.u
  pub v : HaveSmall r.v
