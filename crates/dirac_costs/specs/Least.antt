-- The first of least cost.
use Rattle.std.specs.Prelude.{◌≡◌, ℕ, ◌<◌, ◌≤◌, nat_lt, if◌then◌else◌, List, [], ◌∷◌}
use Rattle.std.specs.List.{range_with_len}

-- the first of least cost, of one thing and others behind it: a later one only where it costs less
abbrev pub first_least : {A : Type 0} → (A → ℕ) → A → List A → A
first_least cost v [] = v
first_least cost v (w ∷ ws) = first_least cost (if nat_lt (cost w) (cost v) then w else v) ws

-- the first number from 0 to n whose cost is least
abbrev pub first_least_to : (ℕ → ℕ) → ℕ → ℕ
first_least_to cost n = first_least cost 0 (range_with_len 1 n)

-- a cost that is told where it is below a limit, and else that it isn't
pub record IsToldBelow (limit cost told : ℕ) : Type 0 where
  pub below : told < limit → told ≡ cost
  pub above : limit ≤ told → limit ≤ cost
