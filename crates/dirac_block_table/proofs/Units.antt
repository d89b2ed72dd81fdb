-- Units of superblocks: three splits, so each fact is proved three times by arithmetic.
use Rattle.std.proofs.Common.{◌≡◌, ℕ, ◌+◌, ◌*◌, ◌/◌, ◌^◌, ◌<◌, ◌≤◌, inl, inr, arith, subst, sym}
use Rattle.std.proofs.lemmas.Bool.{cases_eq}
use Rattle.dirac_block_table.specs.Tables.{unit_size, first_in_unit}

-- what holds of the splits 0 to 2 holds of each split
pub of_splits : (P : ℕ → Type 0) (split : ℕ) → split ≤ 2 → P 0 → P 1 → P 2 → P split
of_splits P split h p q r =
    elim (cases_eq split 0) [
      | inl e ↦ subst P (sym e) p
      | inr a ↦ elim (cases_eq split 1) [
        | inl e ↦ subst P (sym e) q
        | inr b ↦ let e : split ≡ 2 = omega arith in subst P (sym e) r
      ]
    ]

pub size_some : (split : ℕ) → split ≤ 2 → 1 ≤ unit_size split
size_some split h = of_splits (λ s. 1 ≤ unit_size s) split h (omega arith) (omega arith) (omega arith)

-- the unit of a block in the first four columns is among those across
pub column_fits : (split i : ℕ) → split ≤ 2 → i < 4 → i / unit_size split < 2 ^ split
column_fits split i h l = of_splits (λ s. i / unit_size s < 2 ^ s) split h (omega arith) (omega arith) (omega arith)

-- a row of units ends within them
pub row_fits : (split j : ℕ) → split ≤ 2 → j < 4 → j / unit_size split * 2 ^ split + 2 ^ split ≤ 4 ^ split
row_fits split j h l = of_splits (λ s. j / unit_size s * 2 ^ s + 2 ^ s ≤ 4 ^ s) split h (omega arith) (omega arith) (omega arith)

-- the first of a unit's columns is in the superblock
pub first_below : (split i : ℕ) → split ≤ 2 → i < 4 → first_in_unit split i < 4
first_below split i h l = of_splits (λ s. first_in_unit s i < 4) split h (omega arith) (omega arith) (omega arith)

-- and in the same unit
pub first_alike : (split i : ℕ) → split ≤ 2 → i < 4 → first_in_unit split i / unit_size split ≡ i / unit_size split
first_alike split i h l = of_splits (λ s. first_in_unit s i / unit_size s ≡ i / unit_size s) split h (omega arith) (omega arith) (omega arith)
