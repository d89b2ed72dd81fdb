-- The counts of codeblocks, across and down, that bands are divided into.
use Rattle.std.specs.Prelude.{ℕ, List, Option, None, Some, slice_get}

-- counts of codeblocks, across and down: those told, else one
abbrev pub counts_among : Option (ℕ × ℕ) → ℕ × ℕ
counts_among None = (1, 1)
counts_among (Some counts) = counts

-- the counts of a level
abbrev pub counts_at : List (ℕ × ℕ) → ℕ → ℕ × ℕ
counts_at counts level = counts_among (slice_get counts level)
