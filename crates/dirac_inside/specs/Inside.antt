-- Vectors that lead from a block to samples of the reference alone, and to half samples between them.
use Rattle.std.specs.Prelude.{ℕ, zero, suc, ℤ, pos, ◌-◌, ◌*◌, ◌/◌, ◌+ℤ◌, ◌*ℤ◌, int_le}
use Rattle.std.specs.Prelude.{int_lt, Bool, true, not, ◌&&◌, ◌||◌, ◌==◌, if◌then◌else◌, IsTrue}
use Rattle.dirac_common.specs.declared.formats.Vector.{Vector}
pub use Rattle.dirac_upconvert.specs.Places.{holds, position}
use Rattle.dirac_upconvert.specs.SubSamples.{place_at, rest_at}
use Rattle.dirac_inside.specs.declared.picture_blocks.PictureBlocks.{PictureBlocks}

-- whether all numbers below n are such
abbrev pub all_below : (ℕ → Bool) → ℕ → Bool
all_below is zero = true
all_below is (suc n) = all_below is n && is n

-- the last half sample that a position takes: the one at or before it, and the next where the position is behind that
abbrev pub last_taken : ℕ → ℤ → ℤ
last_taken bits p = place_at p bits +ℤ (if int_lt (pos 0) (rest_at p bits) then pos 1 else pos 0)

-- whether a position in 2 ^ precision parts of a sample takes nothing beyond the first and the last of `size` samples;
-- half samples are counted from the first sample on, and two of them make a sample
abbrev pub is_inside : ℕ → ℕ → ℤ → Bool
is_inside precision size p =
    if precision == 0
    then int_le (pos 0) p && int_le p (pos (size - 1))
    else int_le (pos 0) (place_at p (precision - 1)) && int_le (last_taken (precision - 1) p) (pos (2 * size - 2))

-- whether a vector takes nothing outside from the block's sample in column x of row y of a plane
abbrev pub sample_keeps : PictureBlocks → ℕ → ℕ → ℕ → Vector → ℕ → ℕ → Bool
sample_keeps p across down precision v x y =
    is_inside precision (p.width / across) (position precision across x v.x)
    && is_inside precision (p.height / down) (position precision down y v.y)

-- whether block i of row j has a sample in column x of row y of a plane
abbrev pub has_sample : PictureBlocks → ℕ → ℕ → ℕ → ℕ → ℕ → ℕ → Bool
has_sample p across down i j x y =
    holds i (p.grid.xblen / across) (p.grid.xbsep / across) x && holds j (p.grid.yblen / down) (p.grid.ybsep / down) y

-- whether a vector takes nothing outside from any sample that the block has in a plane whose samples stand for so many
-- luma samples across and down; so it does where the block has none
abbrev pub plane_keeps : PictureBlocks → ℕ → ℕ → ℕ → ℕ → ℕ → Vector → Bool
plane_keeps p across down precision i j v =
    all_below (λ y. all_below (λ x.
    not (has_sample p across down i j x y) || sample_keeps p across down precision v x y)
    (p.width / across)) (p.height / down)

-- whether a vector in 2 ^ precision parts of a luma sample takes nothing outside from block i of row j, in luma and in
-- chroma
unfoldable pub keeps_inside : PictureBlocks → ℕ → ℕ → ℕ → Vector → Bool
keeps_inside p precision i j v =
    plane_keeps p 1 1 precision i j v
    && plane_keeps p p.across_ratio p.down_ratio precision i j v

-- a vector keeps inside
abbrev pub KeepsInside : PictureBlocks → ℕ → ℕ → ℕ → Vector → Type 0
KeepsInside p precision i j v = IsTrue (keeps_inside p precision i j v)

-- a vector that counts as so many times itself
abbrev pub vector_times : ℕ → Vector → Vector
vector_times n v = record { x = pos n *ℤ v.x; y = pos n *ℤ v.y }
