-- One lifting step over a line of even length, whose values stand in pairs: an even place, then an odd one.
use Rattle.std.specs.Prelude.{ℕ, zero, suc, ℤ, pos, Bool, true, false, not, ◌+◌, ◌-◌, ◌*◌, ◌/◌, ◌%◌, ◌^◌, ◌≤◌, ◌==◌}
use Rattle.std.specs.Prelude.{◌+ℤ◌, ◌-ℤ◌, ◌*ℤ◌, min, unsigned_abs, List, length, map, slice_index_or, if◌then◌else◌}
use Rattle.std.specs.Int.{int_shr}
use Rattle.std.specs.List.{range_with_len, sum_by}

-- a step changes the even places of a line (parity 0) and reads the odd ones, or the other way round (parity 1);
-- its first tap reads `lead` pairs before the pair that it changes, each further tap one pair later
pub record Step : Type 0 where
  pub parity : ℕ
  pub minus : Bool
  pub shift : ℕ
  pub lead : ℕ
  pub taps : List ℤ

-- the place of pair n that a step changes
abbrev pub own : ℕ → ℕ → ℕ
own parity n = 2 * n + parity

-- the place of pair n that a step reads
abbrev pub other : ℕ → ℕ → ℕ
other parity n = 2 * n + (1 - parity)

-- the pair that tap k reads for pair n, clamped to the pairs of the line
abbrev pub pair_read : ℕ → ℕ → ℕ → ℕ → ℕ
pair_read lead half n k = min (n + k - lead) (half - 1)

-- the value that tap k reads for pair n
abbrev pub value_read : ℕ → ℕ → List ℤ → ℕ → ℕ → ℤ
value_read parity lead xs n k = slice_index_or xs (other parity (pair_read lead (length xs / 2) n k)) (pos 0)

-- the sum of the first taps, each times its value
abbrev pub weighted : List ℤ → (ℕ → ℤ) → ℕ → ℤ
weighted taps f zero = pos 0
weighted taps f (suc m) = weighted taps f m +ℤ slice_index_or taps m (pos 0) *ℤ f m

-- a sum divided by 2 ^ shift, to the nearest, halves up
abbrev pub rounded : ℕ → ℤ → ℤ
rounded shift sum = int_shr (sum +ℤ pos (2 ^ shift / 2)) shift

-- what a step adds to pair n, or takes from it
abbrev pub change_at : Step → List ℤ → ℕ → ℤ
change_at s xs n = rounded s.shift (weighted s.taps (value_read s.parity s.lead xs n) (length s.taps))

-- a value after a change
abbrev pub moved : Bool → ℤ → ℤ → ℤ
moved true value change = value -ℤ change
moved false value change = value +ℤ change

-- the changed value of pair n
abbrev pub new_at : Step → List ℤ → ℕ → ℤ
new_at s xs n = moved s.minus (slice_index_or xs (own s.parity n) (pos 0)) (change_at s xs n)

-- the value at a place after a step
abbrev pub lifted_at : Step → List ℤ → ℕ → ℤ
lifted_at s xs p = if p % 2 == s.parity then new_at s xs (p / 2) else slice_index_or xs p (pos 0)

-- the whole line after a step, made of the whole line before it
unfoldable pub lift : Step → List ℤ → List ℤ
lift s xs = map (lifted_at s xs) (range_with_len 0 (length xs))

-- the step that takes a step back
abbrev pub opposite : Step → Step
opposite s = record s { minus = not s.minus }

-- the values at the even places (parity 0) or the odd ones (parity 1) have magnitudes of at most b
abbrev pub PlacesWithin : ℕ → ℕ → List ℤ → Type 0
PlacesWithin b parity xs = (n : ℕ) → unsigned_abs (slice_index_or xs (2 * n + parity) (pos 0)) ≤ b

-- how large changed values become, if they were at most a and those read are at most b
abbrev pub grown_by_step : Step → ℕ → ℕ → ℕ
grown_by_step s a b = a + (sum_by unsigned_abs s.taps * b + 2 ^ s.shift / 2) / 2 ^ s.shift
