-- What the neighbours of a place of a block table have, and what is predicted from them.
use Rattle.std.specs.Prelude.{ℕ, ℤ, ◌-◌, ◌==◌, nat_lt, Bool, true, false, not, ◌||◌, if◌then◌else◌, Option, Some, None}
use Rattle.dirac_common.specs.declared.formats.Component.{Component}
use Rattle.dirac_common.specs.declared.formats.Component.TheVariants as component
use Rattle.dirac_common.specs.declared.formats.Vector.{Vector}
use Rattle.dirac_vectors.specs.Predictions.{split_of}
use Rattle.dirac_block_table.specs.declared.reference.Reference.{Reference}
use Rattle.dirac_block_table.specs.declared.reference.Reference.TheVariants as reference
use Rattle.dirac_block_table.specs.Tables.{BlockTable, split_at, block_at}

-- what stands left of a place; None outside the picture
abbrev pub left_of : {A : Type 0} → (ℕ → ℕ → Option A) → ℕ → ℕ → Option A
left_of at i j = if i == 0 then None else at (i - 1) j

-- what stands above it
abbrev pub above_of : {A : Type 0} → (ℕ → ℕ → Option A) → ℕ → ℕ → Option A
above_of at i j = if j == 0 then None else at i (j - 1)

-- what stands above and left
abbrev pub corner_of : {A : Type 0} → (ℕ → ℕ → Option A) → ℕ → ℕ → Option A
corner_of at i j = if i == 0 then None else (if j == 0 then None else at (i - 1) (j - 1))

-- what stands so many places left of a place and above it
abbrev pub near_at : {A : Type 0} → (ℕ → ℕ → Option A) → ℕ → ℕ → ℕ → ℕ → Option A
near_at at i j left up = if nat_lt i left then None else (if nat_lt j up then None else at (i - left) (j - up))

-- what a prediction makes of the neighbours of a place
abbrev pub predicted : {A B : Type 0} → (Option A → Option A → Option A → B) → (ℕ → ℕ → Option A) → ℕ → ℕ → B
predicted prediction at i j = prediction (left_of at i j) (above_of at i j) (corner_of at i j)

-- what counts, where it does
abbrev pub counted : {A : Type 0} → Bool → A → Option A
counted true v = Some v
counted false v = None

-- whether a block uses reference 1, as its neighbours see it
abbrev pub ref1_at : BlockTable → ℕ → ℕ → Option Bool
ref1_at t i j = Some (block_at t i j).ref1

-- whether it uses reference 2
abbrev pub ref2_at : BlockTable → ℕ → ℕ → Option Bool
ref2_at t i j = Some (block_at t i j).ref2

-- a vector counts where the block uses its reference
abbrev pub v1_at : BlockTable → ℕ → ℕ → Option Vector
v1_at t i j = counted (block_at t i j).ref1 (block_at t i j).v1

-- the vector of reference 2, where the block uses it
abbrev pub v2_at : BlockTable → ℕ → ℕ → Option Vector
v2_at t i j = counted (block_at t i j).ref2 (block_at t i j).v2

-- a block without references is a DC block, whose values count
abbrev pub is_dc_at : BlockTable → ℕ → ℕ → Bool
is_dc_at t i j = not ((block_at t i j).ref1 || (block_at t i j).ref2)

-- its value of Y
abbrev pub dc_y_at : BlockTable → ℕ → ℕ → Option ℤ
dc_y_at t i j = counted (is_dc_at t i j) (block_at t i j).dc_y

-- its value of U
abbrev pub dc_u_at : BlockTable → ℕ → ℕ → Option ℤ
dc_u_at t i j = counted (is_dc_at t i j) (block_at t i j).dc_u

-- its value of V
abbrev pub dc_v_at : BlockTable → ℕ → ℕ → Option ℤ
dc_v_at t i j = counted (is_dc_at t i j) (block_at t i j).dc_v

-- the split that the neighbours of superblock sx of row sy predict
abbrev pub predicted_split : BlockTable → ℕ → ℕ → ℕ
predicted_split t sx sy = predicted split_of (λ x y. Some (split_at t x y)) sx sy

-- whether a block uses a reference
abbrev pub use_at : Reference → BlockTable → ℕ → ℕ → Option Bool
use_at reference.First t i j = ref1_at t i j
use_at reference.Second t i j = ref2_at t i j

-- the vector of a block, where it uses the reference
abbrev pub vector_at : Reference → BlockTable → ℕ → ℕ → Option Vector
vector_at reference.First t i j = v1_at t i j
vector_at reference.Second t i j = v2_at t i j

-- the DC value of a DC block
abbrev pub dc_at : Component → BlockTable → ℕ → ℕ → Option ℤ
dc_at component.Y t i j = dc_y_at t i j
dc_at component.U t i j = dc_u_at t i j
dc_at component.V t i j = dc_v_at t i j
