-- The first of least cost of a list, in words.
use Rattle.std.specs.Prelude.{◌≡◌, ℕ, ◌<◌, ◌≤◌, List, ◌∷◌, length, slice_index_or}
use Rattle.dirac_costs.specs.Least.{first_least}

-- one of a list, which costs no more than any of the list, and less than all before it
pub record IsFirstOfLeastCost {A : Type 0} (cost : A → ℕ) (list : List A) (one : A) : Type 0 where
  pub place : ℕ
  pub inside : place < length list
  pub there : slice_index_or list place one ≡ one
  pub least : (k : ℕ) → k < length list → cost one ≤ cost (slice_index_or list k one)
  pub first : (k : ℕ) → k < place → cost one < cost (slice_index_or list k one)

-- what is defined as the first of least cost is such a one
abbrev pub FirstsAreLeast : Type 0 → Type 0
FirstsAreLeast A =
    (cost : A → ℕ) (item : A) (others : List A)
    → IsFirstOfLeastCost cost (item ∷ others) (first_least cost item others)
