-- The vectors that a block may be given at a stage of the search.
use Rattle.std.specs.Prelude.{◌≡◌, ℕ, ℤ, pos, ◌+◌, ◌-◌, ◌*◌, ◌^◌, ◌<◌, ◌≤◌, nat_lt, ◌+ℤ◌, ◌-ℤ◌, ◌*ℤ◌, unsigned_abs}
use Rattle.std.specs.Prelude.{if◌then◌else◌, Bool, List, [], ◌∷◌, ◌++◌, length, slice_index_or, Option, Some, None}
use Rattle.std.specs.List.{All, flat_map}
use Rattle.dirac_common.specs.declared.limits.TheConstants.{MOST_SUPERBLOCKS}
use Rattle.dirac_common.specs.declared.formats.Vector.{Vector}
use Rattle.dirac_search.specs.declared.stage.Stage.{Stage}
use Rattle.dirac_search.specs.declared.stage.Stage.TheVariants as stage
use Rattle.dirac_search.specs.ByRows.{listed_by_rows}

abbrev pub vector : ℤ → ℤ → Vector
vector x y = record { x = x; y = y }

-- the vector of no motion
abbrev pub no_motion : Vector
no_motion = vector (pos 0) (pos 0)

-- twice a vector: what its motion is on a plane of twice the size, or in parts of half the size
abbrev pub twice : Vector → Vector
twice v = vector (pos 2 *ℤ v.x) (pos 2 *ℤ v.y)

-- the vector in column x of row y of those at most `reach` from a centre
abbrev pub near : Vector → ℕ → ℕ → ℕ → Vector
near c reach x y = vector ((c.x +ℤ pos x) -ℤ pos reach) ((c.y +ℤ pos y) -ℤ pos reach)

-- the vectors at most `reach` from a centre in each direction, by rows
abbrev pub around : Vector → ℕ → List Vector
around c reach = listed_by_rows (2 * reach + 1) (2 * reach + 1) (near c reach)

-- a vector for each block of a picture, by rows; a superblock has four by four blocks
pub record Vectors : Type 0 where
  pub across : ℕ
  pub down : ℕ
  pub vectors : List Vector

-- a vector for each of this many blocks
abbrev pub HasAllBlocks : ℕ → ℕ → List Vector → Type 0
HasAllBlocks across down vectors =
    (length vectors ≡ 4 * across * (4 * down)) × (across ≤ MOST_SUPERBLOCKS) × (down ≤ MOST_SUPERBLOCKS)

-- the vector of block i of row j
abbrev pub field_vector : Vectors → ℕ → ℕ → Vector
field_vector f i j = slice_index_or f.vectors (j * (4 * f.across) + i) no_motion

-- twice the vector of block i of row j, where there is such a block
abbrev pub centre_if : Bool → Vectors → ℕ → ℕ → List Vector
centre_if is_block f i j = if is_block then twice (field_vector f i j) ∷ [] else []

-- twice the vectors of a block and of those left of it, right of it, above and below
abbrev pub centres : Vectors → ℕ → ℕ → List Vector
centres f i j =
    (((twice (field_vector f i j) ∷ centre_if (nat_lt 0 i) f (i - 1) j)
    ++ centre_if (nat_lt (i + 1) (4 * f.across)) f (i + 1) j)
    ++ centre_if (nat_lt 0 j) f i (j - 1))
    ++ centre_if (nat_lt (j + 1) (4 * f.down)) f i (j + 1)

-- the candidates of block i of row j at a finer level, behind the vector of no motion: all vectors at most 1 in each
-- direction from twice the vectors of the coarser level for the block and its neighbours
abbrev pub finer_candidates : Option Vectors → ℕ → ℕ → List Vector
finer_candidates None i j = []
finer_candidates (Some f) i j = flat_map (λ c. around c 1) (centres f i j)

-- the candidates of block i of row j at a stage in parts of a sample, behind the vector of no motion: twice the block's
-- former vector, and then all vectors at most 1 in each direction from that
abbrev pub sub_candidates : Option Vectors → ℕ → ℕ → List Vector
sub_candidates None i j = []
sub_candidates (Some f) i j = twice (field_vector f i j) ∷ around (twice (field_vector f i j)) 1

-- the candidates of block i of row j at a stage, behind the vector of no motion
abbrev pub further_candidates : Stage → ℕ → Option Vectors → ℕ → ℕ → List Vector
further_candidates (stage.Coarse l) range before i j = around no_motion range
further_candidates (stage.Finer l) range before i j = finer_candidates before i j
further_candidates (stage.Sub q) range before i j = sub_candidates before i j

-- the candidates of block i of row j, in the order in which they are tried; `before` has the former stage's vectors
abbrev pub candidates_of : Stage → ℕ → Option Vectors → ℕ → ℕ → List Vector
candidates_of stage range before i j = no_motion ∷ further_candidates stage range before i j

-- both components of a vector are at most `reach` in magnitude
pub record IsWithinReach (reach : ℕ) (v : Vector) : Type 0 where
  pub across : unsigned_abs v.x ≤ reach
  pub down : unsigned_abs v.y ≤ reach

-- the vectors of a former stage, with one of block i of row j
pub record IsFormer (f : Vectors) (i j : ℕ) : Type 0 where
  pub column : i < 4 * f.across
  pub row : j < 4 * f.down
  pub within : All (IsWithinReach (2 ^ 22)) f.vectors

-- the vectors of a former stage, with one of block i of row j, are given exactly where the stage isn't the first
abbrev pub HasFormer : Stage → Option Vectors → ℕ → ℕ → Type 0
HasFormer (stage.Coarse l) None i j = Unit {0}
HasFormer (stage.Coarse l) (Some f) i j = ⊥
HasFormer (stage.Finer l) None i j = ⊥
HasFormer (stage.Finer l) (Some f) i j = IsFormer f i j
HasFormer (stage.Sub q) None i j = ⊥
HasFormer (stage.Sub q) (Some f) i j = IsFormer f i j
