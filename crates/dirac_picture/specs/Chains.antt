-- The bands of a plane in the order of their orientations: the blocks of all are found first, and then the bands of
-- each orientation are read apart from those of the others, each with the one before it as its parent.
use Rattle.std.specs.Prelude.{◌≡◌, ℕ, zero, suc, ℤ, ◌+◌, ◌*◌, ◌<◌, List, [], ◌∷◌, ◌++◌, length, slice_get, Option}
use Rattle.std.specs.Prelude.{Some, Ok, Err, IfSome}
use Rattle.std.specs.List.{All}
use Rattle.dirac_common.specs.declared.formats.Component.{Component}
use Rattle.dirac_common.specs.declared.formats.Component.TheVariants as component
use Rattle.dirac_common.specs.declared.faults.Refusal.{Refusal}
use Rattle.dirac_common.specs.Limits.{IsIndex}
use Rattle.dirac_bits.specs.Cursor.{Cursor}
use Rattle.dirac_bits.specs.Syntax.{read}
use Rattle.dirac_parameters.specs.declared.transform.Transform.{Transform}
use Rattle.dirac_coeffs.specs.declared.layout.CodedBand.{CodedBand}
use Rattle.dirac_coeffs.specs.Grammar.{IsCodedBand}
use Rattle.dirac_coeffs.specs.Sites.{Found, site, band_at}
use Rattle.dirac_picture.specs.declared.sites.FoundPlanes.{FoundPlanes}
use Rattle.dirac_picture.specs.Bands.{band_count, layout_of, values_among}
use Rattle.dirac_picture.specs.Fits.{AreBandsOf}
use Rattle.dirac_picture.specs.Grammar.{subbands_of_plane}

-- the blocks of bands that stand one behind another, from the first place to the second
abbrev pub AreSites : Cursor → List (Option Found) → Cursor → Type 0
AreSites c [] d = c ≡ d
AreSites c (x ∷ xs) d = (e : Cursor) × (read site c ≡ Ok (x, e)) × AreSites e xs d

-- the blocks of all bands of a plane, each with an index of a quantiser
pub record AreWhole (t : Transform) (sites : List (Option Found)) : Type 0 where
  pub count : length sites ≡ band_count t.depth
  pub indices : All (λ x. IfSome x (λ s. IsIndex s.index)) sites

-- the blocks of a plane's bands, found from the first place to the second
pub record AreSitesOf (t : Transform) (c : Cursor) (sites : List (Option Found)) (d : Cursor) : Type 0 where
  pub whole : AreWhole t sites
  pub each : AreSites c sites d

-- the blocks of a plane
abbrev pub sites_among : FoundPlanes → Component → List (Option Found)
sites_among found component.Y = found.y.items
sites_among found component.U = found.u.items
sites_among found component.V = found.v.items

-- the blocks that were found of each plane are those of all its bands
abbrev pub AreWholePlanes : Transform → FoundPlanes → Type 0
AreWholePlanes t found = (component : Component) → AreWhole t (sites_among found component)

-- the blocks of all bands of a picture, from the first place to the second
pub record AreFound (t : Transform) (c : Cursor) (found : FoundPlanes) (d : Cursor) : Type 0 where
  pub behind_y : Cursor
  pub behind_u : Cursor
  pub y : AreSitesOf t c found.y.items behind_y
  pub u : AreSitesOf t behind_y found.u.items behind_u
  pub v : AreSitesOf t behind_u found.v.items d

-- one of so many blocks that follow one another isn't found, while those before it are
pub record IsMissing (count : ℕ) (c : Cursor) : Type 0 where
  pub before : List (Option Found)
  pub behind : Cursor
  pub refusal : Refusal
  pub found : AreSites c before behind
  pub fewer : length before < count
  pub refused : read site behind ≡ Err refusal

-- the values of the band before place k of a chain, which is its parent
abbrev pub values_before : List CodedBand → ℕ → List ℤ
values_before bands zero = []
values_before bands (suc k) = values_among (slice_get bands k)

-- bands of one orientation of a plane of this size, from band `first` on each third one: each is what its block reads
-- to behind the one before it
abbrev pub IsChain : Transform → ℕ → ℕ → List (Option Found) → ℕ → List CodedBand → Type 0
IsChain t width height sites first bands =
    (k : ℕ) (x : Option Found) (b : CodedBand)
    → slice_get sites (first + 3 * k) ≡ Some x → slice_get bands k ≡ Some b
    → band_at (layout_of t width height (first + 3 * k)) (values_before bands k) x ≡ Ok b

-- bands of one orientation, each of which is what its place asks for
abbrev pub AreBandsOfOrientation : Transform → ℕ → ℕ → ℕ → List CodedBand → Type 0
AreBandsOfOrientation t width height first bands =
    (k : ℕ) (b : CodedBand) → slice_get bands k ≡ Some b → IsCodedBand (layout_of t width height (first + 3 * k)) b

-- how many bands an orientation has; LL, which is the first, has one
abbrev pub chain_length : Transform → ℕ → ℕ
chain_length t zero = 1
chain_length t (suc first) = t.depth

-- all bands of one orientation of a plane
pub record IsWholeChain (t : Transform) (width height : ℕ) (sites : List (Option Found)) (first : ℕ)
    (bands : List CodedBand) : Type 0 where
  pub count : length bands ≡ chain_length t first
  pub read : IsChain t width height sites first bands
  pub lawful : AreBandsOfOrientation t width height first bands

-- a band of an orientation is refused behind those before it, which are read
pub record IsBandRefused (t : Transform) (width height : ℕ) (sites : List (Option Found)) (first : ℕ) : Type 0 where
  pub before : List CodedBand
  pub block : Option Found
  pub refusal : Refusal
  pub fewer : length before < chain_length t first
  pub read : IsChain t width height sites first before
  pub at : slice_get sites (first + 3 * length before) ≡ Some block
  pub refused : band_at (layout_of t width height (first + 3 * length before)) (values_before before (length before))
      block ≡ Err refusal

-- the bands of HL, LH and HH, level by level
abbrev pub woven : List CodedBand → List CodedBand → List CodedBand → List CodedBand
woven [] lh hh = []
woven (a ∷ hl) [] hh = []
woven (a ∷ hl) (b ∷ lh) [] = []
woven (a ∷ hl) (b ∷ lh) (c ∷ hh) = a ∷ b ∷ c ∷ woven hl lh hh

-- a plane of this size whose blocks stand from one place to another is read as these bands
abbrev pub ReadsPlane : Transform → ℕ → ℕ → List (Option Found) → List CodedBand → Type 0
ReadsPlane t width height sites bands =
    (c d : Cursor) → AreSites c sites d → read (subbands_of_plane t width height) c ≡ Ok (bands, d)

-- the chains of a plane are read as its bands are
abbrev pub PlanesAreReadByChains : Type 0
PlanesAreReadByChains =
    (t : Transform) (width height : ℕ) (sites : List (Option Found)) (ll hl lh hh : List CodedBand)
    → AreWhole t sites
    → IsWholeChain t width height sites 0 ll → IsWholeChain t width height sites 1 hl
    → IsWholeChain t width height sites 2 lh → IsWholeChain t width height sites 3 hh
    → ReadsPlane t width height sites (ll ++ woven hl lh hh) × AreBandsOf t width height (ll ++ woven hl lh hh)
