-- Eight values of 32 bits at once, and runs of values.
use Rattle.std.specs.Prelude.{◌≡◌, ℕ, ℤ, pos, ◌+◌, ◌*◌, ◌<◌, ◌≤◌, List, length, slice_index_or, FitsSigned}
use Rattle.std.specs.Int.{w32}

-- the value in lane j of a vector
abbrev pub lane : List ℤ → ℕ → ℤ
lane v j = slice_index_or v j (pos 0)

-- a vector has eight lanes of 32 bits
pub record IsEight (v : List ℤ) : Type 0 where
  pub count : length v ≡ 8
  pub fit : (j : ℕ) → j < 8 → FitsSigned w32 (lane v j)

-- the lanes of a vector hold f
pub record AreLanes (f : ℕ → ℤ) (v : List ℤ) : Type 0 where
  pub eight : IsEight v
  pub each : (j : ℕ) → j < 8 → lane v j ≡ f j

-- `count` values from a place on become f, and all others stay
pub record RunPut (at count : ℕ) (f : ℕ → ℤ) (xs ys : List ℤ) : Type 0 where
  pub len : length ys ≡ length xs
  pub inside : (j : ℕ) → j < count → slice_index_or ys (at + j) (pos 0) ≡ f j
  pub before : (k : ℕ) → k < at → slice_index_or ys k (pos 0) ≡ slice_index_or xs k (pos 0)
  pub behind : (k : ℕ) → at + count ≤ k → slice_index_or ys k (pos 0) ≡ slice_index_or xs k (pos 0)

-- a vector holds four lanes of each of two others in turn, from a lane on
pub record AreInTurn (from : ℕ) (evens odds v : List ℤ) : Type 0 where
  pub eight : IsEight v
  pub even : (j : ℕ) → j < 4 → lane v (2 * j) ≡ lane evens (from + j)
  pub odd : (j : ℕ) → j < 4 → lane v (2 * j + 1) ≡ lane odds (from + j)

-- the even places of eight pairs, from pair n on, become f and their odd ones g, and all before them stay
pub record EightPairsPut (n : ℕ) (f g : ℕ → ℤ) (xs ys : List ℤ) : Type 0 where
  pub len : length ys ≡ length xs
  pub even : (j : ℕ) → j < 8 → slice_index_or ys (2 * (n + j)) (pos 0) ≡ f j
  pub odd : (j : ℕ) → j < 8 → slice_index_or ys (2 * (n + j) + 1) (pos 0) ≡ g j
  pub before : (k : ℕ) → k < 2 * n → slice_index_or ys k (pos 0) ≡ slice_index_or xs k (pos 0)
