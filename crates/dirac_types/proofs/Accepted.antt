-- What accepted settings have: each is in its range, by its name.
use Rattle.std.proofs.Common.{◌≡◌, ℕ, ◌≤◌, ◌%◌}
use Rattle.dirac_common.specs.declared.limits.TheConstants.{LARGEST_ENCODED_DEPTH, LARGEST_HEIGHT, LARGEST_INDEX, LARGEST_WAVELET, LARGEST_WIDTH}
use Rattle.dirac_base_formats.specs.declared.base_formats.TheConstants.{LAST_BASE}
use Rattle.dirac_types.specs.declared.settings.Settings.{Settings}
use Rattle.dirac_types.specs.Settings.{IsAccepted, step_across, step_of_height, table}

-- the ranges of the settings, and what divides the sizes
pub record AreInRange (s : Settings) : Type 0 where
  pub base : s.base ≤ LAST_BASE
  pub chroma : s.chroma ≤ 2
  pub width : (1 ≤ s.width) × (s.width ≤ LARGEST_WIDTH)
  pub height : (1 ≤ s.height) × (s.height ≤ LARGEST_HEIGHT)
  pub rate : (1 ≤ s.rate) × (s.rate ≤ 10)
  pub signal : (1 ≤ s.signal) × (s.signal ≤ 2)
  pub fields : s.fields ≤ 1
  pub profile : s.profile ≤ 255
  pub level : s.level ≤ 255
  pub wavelet : s.wavelet ≤ LARGEST_WAVELET
  pub depth : (1 ≤ s.depth) × (s.depth ≤ LARGEST_ENCODED_DEPTH)
  pub index : s.index ≤ LARGEST_INDEX
  pub codeblocks : (1 ≤ s.codeblocks) × (s.codeblocks ≤ 8)
  pub finer : s.finer ≤ LARGEST_INDEX
  pub blocks : (2 ≤ s.blocks) × (s.blocks ≤ 4)
  pub precision : s.precision ≤ 3
  pub references : (1 ≤ s.references) × (s.references ≤ 2)
  pub gop : (1 ≤ s.gop) × (s.gop ≤ 65535)
  pub between : s.between ≤ 3
  pub range : s.range ≤ 16
  pub pyramid : s.pyramid ≤ 4
  pub bias : s.bias ≤ 255
  pub workers : (1 ≤ s.workers) × (s.workers ≤ 64)
  pub pictures : (1 ≤ s.pictures) × (s.pictures ≤ 2147483647)
  pub unit_bytes : (14 ≤ s.unit_bytes) × (s.unit_bytes ≤ 4294967295)
  pub alike : s.alike ≤ 1
  pub whole_across : s.width % step_across s.chroma ≡ 0
  pub whole_down : s.height % step_of_height s.chroma s.fields ≡ 0

pub in_range : (s : Settings) → IsAccepted s → AreInRange s
unfolding table
in_range s is = record {
  base = is.0.1;
  chroma = is.1.0.1;
  width = (is.1.1.0.0, is.1.1.0.1);
  height = (is.1.1.1.0.0, is.1.1.1.0.1);
  rate = (is.1.1.1.1.0.0, is.1.1.1.1.0.1);
  signal = (is.1.1.1.1.1.0.0, is.1.1.1.1.1.0.1);
  fields = is.1.1.1.1.1.1.0.1;
  profile = is.1.1.1.1.1.1.1.0.1;
  level = is.1.1.1.1.1.1.1.1.0.1;
  wavelet = is.1.1.1.1.1.1.1.1.1.0.1;
  depth = (is.1.1.1.1.1.1.1.1.1.1.0.0, is.1.1.1.1.1.1.1.1.1.1.0.1);
  index = is.1.1.1.1.1.1.1.1.1.1.1.0.1;
  codeblocks = (is.1.1.1.1.1.1.1.1.1.1.1.1.0.0, is.1.1.1.1.1.1.1.1.1.1.1.1.0.1);
  finer = is.1.1.1.1.1.1.1.1.1.1.1.1.1.0.1;
  blocks = (is.1.1.1.1.1.1.1.1.1.1.1.1.1.1.0.0, is.1.1.1.1.1.1.1.1.1.1.1.1.1.1.0.1);
  precision = is.1.1.1.1.1.1.1.1.1.1.1.1.1.1.1.0.1;
  references = (is.1.1.1.1.1.1.1.1.1.1.1.1.1.1.1.1.0.0, is.1.1.1.1.1.1.1.1.1.1.1.1.1.1.1.1.0.1);
  gop = (is.1.1.1.1.1.1.1.1.1.1.1.1.1.1.1.1.1.0.0, is.1.1.1.1.1.1.1.1.1.1.1.1.1.1.1.1.1.0.1);
  between = is.1.1.1.1.1.1.1.1.1.1.1.1.1.1.1.1.1.1.0.1;
  range = is.1.1.1.1.1.1.1.1.1.1.1.1.1.1.1.1.1.1.1.0.1;
  pyramid = is.1.1.1.1.1.1.1.1.1.1.1.1.1.1.1.1.1.1.1.1.0.1;
  bias = is.1.1.1.1.1.1.1.1.1.1.1.1.1.1.1.1.1.1.1.1.1.0.1;
  workers = (is.1.1.1.1.1.1.1.1.1.1.1.1.1.1.1.1.1.1.1.1.1.1.0.0, is.1.1.1.1.1.1.1.1.1.1.1.1.1.1.1.1.1.1.1.1.1.1.0.1);
  pictures = (is.1.1.1.1.1.1.1.1.1.1.1.1.1.1.1.1.1.1.1.1.1.1.1.0.0, is.1.1.1.1.1.1.1.1.1.1.1.1.1.1.1.1.1.1.1.1.1.1.1.0.1);
  unit_bytes = (is.1.1.1.1.1.1.1.1.1.1.1.1.1.1.1.1.1.1.1.1.1.1.1.1.0.0, is.1.1.1.1.1.1.1.1.1.1.1.1.1.1.1.1.1.1.1.1.1.1.1.1.0.1);
  alike = is.1.1.1.1.1.1.1.1.1.1.1.1.1.1.1.1.1.1.1.1.1.1.1.1.1.0.1;
  whole_across = is.1.1.0.2;
  whole_down = is.1.1.1.0.2;
}
