-- The transform parameters, field after field: transform parameters, Dirac specification.
use Rattle.std.specs.Prelude.{ℕ, zero, suc, ◌+◌, if◌then◌else◌, List, [], ◌∷◌, ◌++◌, length, replicate}
use Rattle.dirac_common.specs.declared.limits.TheConstants.{LARGEST_DEPTH, LARGEST_WAVELET}
use Rattle.dirac_common.specs.declared.faults.Cause.TheVariants.{Wavelet, Depth, Codeblocks, CodeblockMode}
use Rattle.dirac_bits.specs.Syntax.{Syntax, done, ◌>>=◌, flag, number_field, between}
pub use Rattle.dirac_bands.specs.Geometry.{band_length}
use Rattle.dirac_header.specs.declared.transform.Partition.{Partition}
use Rattle.dirac_parameters.specs.declared.transform.Transform.{Transform}

-- the counts of codeblocks of one level, across and down, at most as many as its luma bands have columns and rows
unfoldable pub level_counts : ℕ → ℕ → ℕ → ℕ → Syntax (ℕ × ℕ)
level_counts width height depth level = do
  across ← number_field Codeblocks (between 1 (band_length width depth level))
  down ← number_field Codeblocks (between 1 (band_length height depth level))
  done (across, down)

-- the counts of the levels from 0 on: those of the levels before, and that many more
unfoldable pub counts_behind : ℕ → ℕ → ℕ → List (ℕ × ℕ) → ℕ → Syntax (List (ℕ × ℕ))
counts_behind width height depth before zero = done before
counts_behind width height depth before (suc more) = do
  counts ← level_counts width height depth (length before)
  counts_behind width height depth (before ++ counts ∷ []) more

-- the counts that stand behind a partition flag, and the codeblock mode, 0 or 1
unfoldable pub partition : ℕ → ℕ → ℕ → Syntax Partition
partition width height depth = do
  counts ← counts_behind width height depth [] (depth + 1)
  mode ← number_field CodeblockMode (between 0 1)
  done (record { counts = counts; mode = mode })

-- one codeblock a band, and mode 0
abbrev pub undivided : ℕ → Partition
undivided depth = record { counts = replicate (depth + 1) (1, 1); mode = 0 }

-- the counts of levels 0 to depth and the mode; without a partition flag all counts are 1 and the mode is 0
unfoldable pub codeblocks : ℕ → ℕ → ℕ → Syntax Partition
codeblocks width height depth = do
  parted ← flag
  if parted then partition width height depth else done (undivided depth)

-- the transform parameters of a picture of this size in luma samples
unfoldable pub transform : ℕ → ℕ → Syntax Transform
transform width height = do
  wavelet ← number_field Wavelet (between 0 LARGEST_WAVELET)
  depth ← number_field Depth (between 1 LARGEST_DEPTH)
  blocks ← codeblocks width height depth
  done (record { wavelet = wavelet; depth = depth; counts = blocks.counts; mode = blocks.mode })
