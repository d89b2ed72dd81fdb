-- The coefficients that a band holds, in 32 bits or wide, and the largest of their magnitudes.
use Rattle.std.specs.Prelude.{◌≡◌, ℕ, ℤ, pos, ◌*◌, ◌^◌, ◌≤◌, List, length, replicate, unsigned_abs}
use Rattle.std.specs.List.{All}
use Rattle.dirac_common.specs.declared.limits.TheConstants.{LARGEST_TABLE_SIDE}
use Rattle.dirac_common.specs.Table.{Table}
use Rattle.dirac_coeffs.specs.declared.coefficients.Held.{Held}
use Rattle.dirac_coeffs.specs.declared.coefficients.Held.TheVariants.{Zeros, Narrow, Wide}

-- a table of zeros
abbrev pub zeros_of : ℕ → ℕ → Table
zeros_of width height = record { width = width; height = height; values = replicate (width * height) (pos 0) }

-- the coefficients that are held, of which there are that many
abbrev pub held_values : ℕ → Held → List ℤ
held_values count Zeros = replicate count (pos 0)
held_values count (Narrow list) = list.items
held_values count (Wide t) = t.values

-- their table
abbrev pub held_table : ℕ → ℕ → Held → Table
held_table width height held = record { width = width; height = height; values = held_values (width * height) held }

-- the largest magnitude: no value has a larger one, and no smaller number is as large as all
pub record IsLargest (largest : ℕ) (xs : List ℤ) : Type 0 where
  pub bound : All (λ v. unsigned_abs v ≤ largest) xs
  pub least : (m : ℕ) → All (λ v. unsigned_abs v ≤ m) xs → largest ≤ m

-- how coefficients are held goes by the largest magnitude: without a list where it is 0 and with one where it isn't,
-- and wide, as a table of these sizes, only from 2^31 on
abbrev pub IsFormFor : ℕ → ℕ → Held → ℕ → Type 0
IsFormFor width height Zeros largest = largest ≡ 0
IsFormFor width height (Narrow list) largest = 1 ≤ largest
IsFormFor width height (Wide t) largest = (2 ^ 31 ≤ largest) × (t.width ≡ width) × (t.height ≡ height)

-- a band that is held: a table of sizes that a band may have, and its largest magnitude
pub record IsHeld (width height : ℕ) (held : Held) (largest : ℕ) : Type 0 where
  pub across : (1 ≤ width) × (width ≤ LARGEST_TABLE_SIDE)
  pub down : (1 ≤ height) × (height ≤ LARGEST_TABLE_SIDE)
  pub whole : length (held_values (width * height) held) ≡ width * height
  pub most : IsLargest largest (held_values (width * height) held)
  pub form : IsFormFor width height held largest
