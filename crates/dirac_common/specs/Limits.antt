-- The ranges of the numbers by which transforms are told.
use Rattle.std.specs.Prelude.{ℕ, ◌≤◌}
use Rattle.dirac_common.specs.declared.limits.TheConstants.{LARGEST_DEPTH, LARGEST_ENCODED_DEPTH, LARGEST_INDEX}
use Rattle.dirac_common.specs.declared.limits.TheConstants.{LARGEST_WAVELET}

-- a wavelet, by its index
abbrev pub IsWavelet : ℕ → Type 0
IsWavelet wavelet = wavelet ≤ LARGEST_WAVELET

-- a quantiser index
abbrev pub IsIndex : ℕ → Type 0
IsIndex index = index ≤ LARGEST_INDEX

-- a transform depth that is read
abbrev pub IsDepth : ℕ → Type 0
IsDepth depth = (1 ≤ depth) × (depth ≤ LARGEST_DEPTH)

-- a transform depth that is written
abbrev pub IsEncodedDepth : ℕ → Type 0
IsEncodedDepth depth = (1 ≤ depth) × (depth ≤ LARGEST_ENCODED_DEPTH)
