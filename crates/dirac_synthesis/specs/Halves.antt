-- Rows whose even columns stand before their odd ones, and when 32 bits are enough for them.
use Rattle.std.specs.Prelude.{ℕ, ℤ, ◌+◌, ◌-◌, ◌*◌, ◌^◌, ◌<◌, ◌≤◌, nat_lt, if◌then◌else◌, unsigned_abs}
use Rattle.std.specs.List.{All}
use Rattle.dirac_common.specs.declared.formats.Kind.{Kind}
use Rattle.dirac_common.specs.declared.limits.TheConstants.{LARGEST_NARROW}
use Rattle.dirac_common.specs.Table.{Table, table_at, table_of}
use Rattle.dirac_quant.specs.Quantiser.{factor_of, offset_of, restored}
use Rattle.dirac_quant.specs.declared.quantiser.TheConstants.{MOST_QUARTERS}
use Rattle.dirac_coeffs.specs.declared.layout.CodedBand.{CodedBand}

-- the value in column x of row y where each row of one table stands before that of another
abbrev pub beside_at : Table → Table → ℕ → ℕ → ℤ
beside_at a b x y = if nat_lt x a.width then table_at a x y else table_at b (x - a.width) y

-- two tables of one size beside each other
abbrev pub beside : Table → Table → Table
beside a b = table_of (2 * a.width) a.height (beside_at a b)

-- a coded number that is restored in 32 bits
abbrev pub IsRestorable : ℕ → ℕ → ℤ → Type 0
IsRestorable factor offset v = 1 ≤ unsigned_abs v → unsigned_abs v * factor + offset + 2 ≤ MOST_QUARTERS

-- a band whose coefficients are at most 4,095
pub record IsNarrowBand (kind : Kind) (b : CodedBand) : Type 0 where
  pub coded : All (λ v. unsigned_abs v < 2 ^ 12) b.table.values
  pub restorable : All (λ v. IsRestorable (factor_of b.index) (offset_of b.index kind) v) b.table.values
  pub small : All (λ v. unsigned_abs (restored v b.index kind) ≤ LARGEST_NARROW) b.table.values
