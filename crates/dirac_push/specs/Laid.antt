-- A plane in a buffer, a byte a sample, its rows a stride apart.
use Rattle.std.specs.Prelude.{◌≡◌, ℕ, ℤ, ◌+◌, ◌-◌, ◌*◌, ◌<◌, ◌≤◌, ◌⊎◌, pos, List, length, slice_index, slice_index_or}
use Rattle.dirac_common.specs.Table.{Table, table_at}
use Rattle.dirac_content.specs.Raw.{byte_of}

-- a row has room in its stride, and the last row of the plane in the buffer
abbrev pub HasRoom : Table → ℕ → ℕ → Type 0
HasRoom t length stride = (t.width ≤ stride) × ((t.height - 1) * stride + t.width ≤ length)

-- this byte isn't one of the first rows of a plane
abbrev pub IsOutside : Table → ℕ → ℕ → ℕ → Type 0
IsOutside t rows stride i = (x y : ℕ) → x < t.width → y < rows → i ≡ y * stride + x → ⊥

-- the first rows of a plane stand in the buffer, and all other bytes are as they were
pub record AreLaid (t : Table) (rows stride : ℕ) (old new : List ℕ) : Type 0 where
  pub long : length new ≡ length old
  pub samples : (x y : ℕ) → x < t.width → y < rows → slice_index new (y * stride + x) ≡ byte_of (table_at t x y)
  pub others : (i : ℕ) → IsOutside t rows stride i → slice_index new i ≡ slice_index old i

-- a plane stands in the buffer, and all other bytes are as they were
abbrev pub IsLaid : Table → ℕ → List ℕ → List ℕ → Type 0
IsLaid t stride old new = AreLaid t t.height stride old new

-- so many samples from a place on stand in the buffer from another place on, and all other bytes are as they were
-- Inner: for the proofs of this crate.
pub record CopiesSamples (samples : List ℤ) (from to count : ℕ) (old new : List ℕ) : Type 0 where
  pub long : length new ≡ length old
  pub copied : (k : ℕ) → k < count → slice_index new (to + k) ≡ byte_of (slice_index_or samples (from + k) (pos 0))
  pub others : (i : ℕ) → (i < to) ⊎ (to + count ≤ i) → slice_index new i ≡ slice_index old i
