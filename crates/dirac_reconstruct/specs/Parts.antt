-- The parts of a coded picture that are made apart.
use Rattle.std.specs.Prelude.{◌≡◌, ℕ, ◌+◌, ◌-◌, ◌*◌, ◌<◌, ◌≤◌, List, length, Option, None, Some, IfSome, slice_index_or}
use Rattle.dirac_common.specs.Bits.{bits_of}
use Rattle.dirac_common.specs.declared.formats.Component.{Component}
use Rattle.dirac_common.specs.declared.formats.Component.TheVariants as component
use Rattle.dirac_sequence_header.specs.Sizes.{plane_height, plane_width}
use Rattle.dirac_picture.specs.declared.coded.CodedResidual.{CodedResidual}
use Rattle.dirac_picture.specs.Bands.{band_count, bands_of}
use Rattle.dirac_picture.specs.Texts.{IsTextOf, text_before, text_of_plane}
use Rattle.dirac_content.specs.Content.{plane_samples}
use Rattle.dirac_reconstruct.specs.declared.gather.FinishedPlane.{FinishedPlane}
use Rattle.dirac_reconstruct.specs.declared.parts.Part.{Part}
use Rattle.dirac_reconstruct.specs.declared.showing.Finishing.{Finishing}

-- how many bands each plane has
abbrev pub bands_each : Option CodedResidual → ℕ
bands_each None = 0
bands_each (Some r) = band_count r.transform.depth

-- how many bands each plane of what is finished has
abbrev pub bands_per_plane : Finishing → ℕ
bands_per_plane f = bands_each f.coded.now.residual

-- a part has the bytes of band n of a plane
abbrev pub HasText : Finishing → Component → ℕ → Part → Type 0
HasText f component n p =
    IfSome f.coded.now.residual (λ r. IsTextOf f.sequence.now r component n (bits_of p.text.items))

-- a part has the samples of a plane
abbrev pub HasSamples : Finishing → Component → Part → Type 0
HasSamples f component p = p.shown ≡ Some (plane_samples f.sequence.now f.refs.now f.coded.now component)

-- part k of a plane: part 0 has its samples, and the bytes of its bands follow, those of the last one first
pub record IsPartOfPlane (f : Finishing) (component : Component) (k : ℕ) (p : Part) : Type 0 where
  pub shown : k ≡ 0 → HasSamples f component p
  pub text : (n : ℕ) → n < bands_per_plane f → k + n ≡ bands_per_plane f → HasText f component n p

-- the part of row r: those of Y come first, then those of U, then those of V
pub record IsPartAt (f : Finishing) (r : ℕ) (p : Part) : Type 0 where
  pub y : (k : ℕ) → k ≤ bands_per_plane f → r ≡ k → IsPartOfPlane f component.Y k p
  pub u : (k : ℕ) → k ≤ bands_per_plane f → r ≡ bands_per_plane f + 1 + k → IsPartOfPlane f component.U k p
  pub v : (k : ℕ) → k ≤ bands_per_plane f → r ≡ 2 * (bands_per_plane f + 1) + k → IsPartOfPlane f component.V k p

-- the parts from this place on are those of a plane
abbrev pub ArePartsOf : Finishing → Component → ℕ → List Part → Type 0
ArePartsOf f component base parts =
    (k : ℕ) (d : Part) → k ≤ bands_per_plane f → IsPartOfPlane f component k (slice_index_or parts (base + k) d)

-- these are the bytes of the first n bands of a plane
abbrev pub HasTextBefore : Finishing → Component → ℕ → List ℕ → Type 0
HasTextBefore f component n bytes =
    IfSome f.coded.now.residual
    (λ r. bits_of bytes
    ≡ text_before r.transform (plane_width f.sequence.now component) (plane_height f.sequence.now component)
    (bands_of r component) n)

-- these are the bytes of all bands of a plane
abbrev pub HasAllText : Finishing → Component → List ℕ → Type 0
HasAllText f component bytes =
    IfSome f.coded.now.residual (λ r. bits_of bytes ≡ text_of_plane f.sequence.now r component)

-- the parts at the end of a list have the bytes of the bands of a plane, those of its first band last
abbrev pub EndsWithTexts : Finishing → Component → List Part → Type 0
EndsWithTexts f component parts =
    (n : ℕ) (d : Part) → n < bands_per_plane f → HasText f component n (slice_index_or parts (length parts - 1 - n) d)

-- the bytes of all bands of a plane, and its samples
pub record IsFinishedPlaneOf (f : Finishing) (component : Component) (p : FinishedPlane) : Type 0 where
  pub text : HasAllText f component p.text.items
  pub shown : p.shown ≡ plane_samples f.sequence.now f.refs.now f.coded.now component
