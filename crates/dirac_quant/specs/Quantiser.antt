-- The quantiser of wavelet coefficients: factors, offsets, and what a coded number stands for.
use Rattle.std.specs.Prelude.{ℕ, ℤ, pos, negsuc, neg_ℤ, unsigned_abs, ◌+◌, ◌-◌, ◌*◌, ◌/◌, ◌%◌, ◌^◌, ◌==◌, if◌then◌else◌}
use Rattle.dirac_common.specs.declared.formats.Kind.{Kind}
use Rattle.dirac_common.specs.declared.formats.Kind.TheVariants.{Intra, Inter}

-- the power of two in a factor: four indices further the factor doubles
abbrev pub power_of : ℕ → ℕ
power_of index = 2 ^ (index / 4)

-- four times the quantiser's step at an index
abbrev pub factor_of : ℕ → ℕ
factor_of index =
    if index % 4 == 0
    then 4 * power_of index
    else if index % 4 == 1
    then (503829 * power_of index + 52958) / 105917
    else if index % 4 == 2
    then (665857 * power_of index + 58854) / 117708
    else (440253 * power_of index + 32722) / 65444

-- the offset from index 2 on: near half a factor, in an inter picture near three eighths
abbrev pub general_offset : ℕ → Kind → ℕ
general_offset factor Intra = (factor + 1) / 2
general_offset factor Inter = (3 * factor + 4) / 8

-- four times what a restored magnitude gains, so that it stands inside its step
abbrev pub offset_of : ℕ → Kind → ℕ
offset_of index kind =
    if index == 0 then 1 else if index == 1 then 2 else general_offset (factor_of index) kind

-- 2^64 over a factor, rounded up
abbrev pub reciprocal_of : ℕ → ℕ
reciprocal_of factor = (2 ^ 64 - 1) / factor + 1

-- a magnitude with the sign of a number
abbrev pub with_sign_of : ℤ → ℕ → ℤ
with_sign_of (pos _) magnitude = pos magnitude
with_sign_of (negsuc _) magnitude = neg_ℤ (pos magnitude)

-- the magnitude that a coded magnitude stands for
abbrev pub restored_magnitude : ℕ → ℕ → Kind → ℕ
restored_magnitude magnitude index kind =
    if magnitude == 0 then 0 else (magnitude * factor_of index + offset_of index kind + 2) / 4

-- what a coded number stands for at a factor and an offset
abbrev pub scaled : ℤ → ℕ → ℕ → ℤ
scaled value factor offset =
    with_sign_of value (if unsigned_abs value == 0 then 0 else (unsigned_abs value * factor + offset + 2) / 4)

-- the coefficient that a coded number stands for
abbrev pub restored : ℤ → ℕ → Kind → ℤ
restored value index kind =
    with_sign_of value (restored_magnitude (unsigned_abs value) index kind)

-- the number that codes a coefficient: its magnitude in steps, rounded down, with its sign
abbrev pub reduced : ℤ → ℕ → ℤ
reduced value index = with_sign_of value (4 * unsigned_abs value / factor_of index)
