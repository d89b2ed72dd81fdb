-- The range of the vectors that keep inside.
use Rattle.std.specs.Prelude.{◌≡◌, ℕ, ℤ, pos, neg_ℤ, ◌+◌, ◌-◌, ◌*◌, ◌/◌, ◌^◌, ◌≤◌, ◌≤ℤ◌, unsigned_abs, int_le, Bool}
use Rattle.std.specs.Prelude.{◌&&◌, min}
use Rattle.dirac_common.specs.declared.formats.Vector.{Vector}
use Rattle.dirac_inside.specs.Inside.{keeps_inside, plane_keeps}
use Rattle.dirac_inside.specs.declared.picture_blocks.PictureBlocks.{PictureBlocks}
use Rattle.dirac_inside.specs.declared.range.VectorRange.{VectorRange}

-- whether a vector lies in a range
abbrev pub is_in : VectorRange → Vector → Bool
is_in r v = (int_le r.left v.x && int_le v.x r.right) && (int_le r.top v.y && int_le v.y r.bottom)

-- both components of a vector are at most 2 ^ 40 in magnitude
pub record IsBounded (v : Vector) : Type 0 where
  pub across : unsigned_abs v.x ≤ 2 ^ 40
  pub down : unsigned_abs v.y ≤ 2 ^ 40

-- both components of a vector are at most 2 ^ 24 in magnitude
pub record IsNear (v : Vector) : Type 0 where
  pub across : unsigned_abs v.x ≤ 2 ^ 24
  pub down : unsigned_abs v.y ≤ 2 ^ 24

-- a range whose ends are at most 2 ^ 40 in magnitude
pub record IsRange (r : VectorRange) : Type 0 where
  pub left : unsigned_abs r.left ≤ 2 ^ 40
  pub right : unsigned_abs r.right ≤ 2 ^ 40
  pub top : unsigned_abs r.top ≤ 2 ^ 40
  pub bottom : unsigned_abs r.bottom ≤ 2 ^ 40

-- of bounded vectors the range has just those that keep inside from block i of row j
abbrev pub HasTheInside : PictureBlocks → ℕ → ℕ → ℕ → VectorRange → Type 0
HasTheInside p precision i j r = (v : Vector) → IsBounded v → is_in r v ≡ keeps_inside p precision i j v

-- of bounded vectors the range has just those that keep inside in one plane from block i of row j
abbrev pub HasThePlanesInside : PictureBlocks → ℕ → ℕ → ℕ → ℕ → ℕ → VectorRange → Type 0
HasThePlanesInside p across down precision i j r =
    (v : Vector) → IsBounded v → is_in r v ≡ plane_keeps p across down precision i j v

-- the places from `first` to `end` - 1 of a plane are those that a block holds
pub record ArePlaces (block len separation size first end : ℕ) : Type 0 where
  pub first_is : first ≡ block * separation - (len - separation) / 2
  pub end_is : end ≡ min (block * separation + (len - (len - separation) / 2)) size

-- the least and the greatest component of a vector with which none of the places `first` to `end` - 1 is led beyond a
-- plane of this size
pub record IsComponentSpan (precision ratio size first end : ℕ) (least most : ℤ) : Type 0 where
  pub back : least ≡ neg_ℤ (pos (first * (2 ^ precision * ratio)))
  pub on : most ≡ pos ((size - end) * (2 ^ precision * ratio) + (ratio - 1))

-- blocks of a format's grid and chroma
pub record AreBlocks (p : PictureBlocks) : Type 0 where
  pub columns : p.grid.xbsep ≤ 16
  pub rows : p.grid.ybsep ≤ 16
  pub across_ratio : (1 ≤ p.across_ratio) × (p.across_ratio ≤ 2)
  pub down_ratio : (1 ≤ p.down_ratio) × (p.down_ratio ≤ 2)
