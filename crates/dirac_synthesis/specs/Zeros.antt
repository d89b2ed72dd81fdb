-- Bands of zeros, and what they stand for.
use Rattle.std.specs.Prelude.{◌≡◌, ℕ, pos, ◌*◌, Bool, true, List, replicate}
use Rattle.std.specs.List.{list_all}
use Rattle.dirac_common.specs.declared.formats.Kind.TheVariants.{Inter}
use Rattle.dirac_common.specs.Table.{Table}
use Rattle.dirac_parameters.specs.declared.transform.Transform.{Transform}
use Rattle.dirac_coeffs.specs.declared.layout.CodedBand.{CodedBand}
use Rattle.dirac_coeffs.specs.Written.{is_zero_band}
use Rattle.dirac_synthesis.specs.Residual.{residual}

-- a plane of zeros
abbrev pub zeros : ℕ → ℕ → Table
zeros width height = record { width = width; height = height; values = replicate (width * height) (pos 0) }

-- whether all bands of a plane have zeros alone
abbrev pub are_zero_bands : List CodedBand → Bool
are_zero_bands bands = list_all (λ (b : CodedBand). is_zero_band b.table.values) bands

-- such bands stand for a residual of zeros, at whatever indices: an inter picture may write none
abbrev pub ZerosStandForZeros : Type 0
ZerosStandForZeros =
    (t : Transform) (bands : List CodedBand) (width height : ℕ) → are_zero_bands bands ≡ true
    → residual t Inter bands width height ≡ zeros width height
