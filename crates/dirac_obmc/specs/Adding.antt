-- Rows of sums to which values are added.
use Rattle.std.specs.Prelude.{◌≡◌, ℕ, ℤ, pos, ◌+◌, ◌*◌, ◌^◌, ◌<◌, ◌≤◌, ◌+ℤ◌, ◌*ℤ◌, unsigned_abs, List, length}
use Rattle.std.specs.Prelude.{slice_index, slice_index_or}
use Rattle.std.specs.List.{All}
use Rattle.dirac_obmc.specs.declared.sums.Weighed.{Weighed}

-- the first n sums have grown by f
pub record Adds (f : ℕ → ℤ) (n : ℕ) (old new : List ℤ) : Type 0 where
  pub len : length new ≡ length old
  pub each : (x : ℕ) → x < n → slice_index_or new x (pos 0) ≡ slice_index_or old x (pos 0) +ℤ f x

-- n sums from place start on have grown by f, all others are as they were
pub record AddsPart (start : ℕ) (f : ℕ → ℤ) (n : ℕ) (old new : List ℤ) : Type 0 where
  pub len : length new ≡ length old
  pub before : (x : ℕ) → x < start → slice_index_or new x (pos 0) ≡ slice_index_or old x (pos 0)
  pub done : (k : ℕ) → k < n → slice_index_or new (start + k) (pos 0) ≡ slice_index_or old (start + k) (pos 0) +ℤ f k
  pub rest : (x : ℕ) → start + n ≤ x → slice_index_or new x (pos 0) ≡ slice_index_or old x (pos 0)

-- n values of a list stand from a place on, all others are as they were
pub record PutOver (place : ℕ) (values : List ℤ) (n : ℕ) (old new : List ℤ) : Type 0 where
  pub len : length new ≡ length old
  pub before : (x : ℕ) → x < place → slice_index_or new x (pos 0) ≡ slice_index_or old x (pos 0)
  pub done : (k : ℕ) → k < n → slice_index_or new (place + k) (pos 0) ≡ slice_index_or values k (pos 0)
  pub rest : (x : ℕ) → place + n ≤ x → slice_index_or new x (pos 0) ≡ slice_index_or old x (pos 0)

-- n weights from a place on are f, all others are as they were
pub record PutWeights (place n : ℕ) (f : ℕ → ℕ) (old new : List ℕ) : Type 0 where
  pub before : (x : ℕ) → x < place → slice_index new x ≡ slice_index old x
  pub done : (k : ℕ) → k < n → slice_index new (place + k) ≡ f k
  pub rest : (x : ℕ) → place + n ≤ x → slice_index new x ≡ slice_index old x

-- n values of a row, and their weights
pub record AreWeighed (w : Weighed) (n : ℕ) : Type 0 where
  pub enough : w.at + n ≤ length w.values.now
  pub values : (k : ℕ) → k < n → unsigned_abs (slice_index_or w.values.now (w.at + k) (pos 0)) ≤ 2 ^ 15
  pub listed : n ≤ length w.weights.now
  pub weights : All (λ w. w ≤ 8) w.weights.now
  pub down : w.down ≤ 8

-- value k of a row times its weights across and down
unfoldable pub weighed_at : Weighed → ℕ → ℤ
weighed_at w k = pos (slice_index w.weights.now k * w.down) *ℤ slice_index_or w.values.now (w.at + k) (pos 0)
