-- The words behind `encode`, `make`, `pardecode` and `rate`: settings by name, the path of the reconstructions, the
-- number of pictures, the number of workers, the budget.
use Rattle.std.specs.Prelude.{ℕ, ◌+◌, ◌-◌, ◌*◌, nat_le, ◌==◌, Bool, ◌&&◌, ◌||◌, if◌then◌else◌, List, [], ◌∷◌, ◌++◌}
use Rattle.std.specs.Prelude.{length, codes, Option, None, Some, is_some, is_none, option_and_then, unwrap_or}
use Rattle.std.specs.List.{list_any}
use Rattle.std.specs.Option.{option_or}
use Rattle.std.specs.Str.{all_ascii_digits}
use Rattle.dirac_types.specs.declared.settings.Name.{Name}
use Rattle.dirac_types.specs.declared.settings.Name.TheVariants as name
use Rattle.dirac_types.specs.declared.settings.Settings.{Settings}
use Rattle.dirac_types.specs.Names.{setting_text}
use Rattle.dirac_types.specs.Settings.{of_base}
use Rattle.dirac_command_line.specs.declared.options.OptionsOf.{OptionsOf}
use Rattle.dirac_command_line.specs.declared.options.OptionsOf.TheVariants as options_of

-- the names of the settings, in the order of their table
abbrev pub names : List Name
names =
    name.Base ∷ name.Chroma ∷ name.Width ∷ name.Height ∷ name.Rate ∷ name.Signal ∷ name.Fields ∷ name.Profile
    ∷ name.Level ∷ name.Wavelet ∷ name.Depth ∷ name.Index ∷ name.Codeblocks ∷ name.Finer ∷ name.Blocks ∷ name.Precision
    ∷ name.References ∷ name.Gop ∷ name.Between ∷ name.Range ∷ name.Pyramid ∷ name.Bias ∷ name.Workers ∷ name.Pictures
    ∷ name.UnitBytes ∷ name.Alike ∷ []

-- what stands behind this front, where the word begins with it
abbrev pub behind : List ℕ → List ℕ → Option (List ℕ)
behind [] word = Some word
behind (b ∷ front) [] = None
behind (b ∷ front) (c ∷ word) = if b == c then behind front word else None

-- the number whose decimal digits are those of `high` followed by these
abbrev pub number_after : ℕ → List ℕ → ℕ
number_after high [] = high
number_after high (c ∷ cs) = number_after (10 * high + (c - 48)) cs

-- 1 to 10 ASCII digits
abbrev pub is_digits : List ℕ → Bool
is_digits text = all_ascii_digits text && (nat_le 1 (length text) && nat_le (length text) 10)

-- the number that 1 to 10 ASCII digits spell, where it is at most 4,294,967,295
unfoldable pub number_in_digits : List ℕ → Option ℕ
number_in_digits text =
    if is_digits text && nat_le (number_after 0 text) 4294967295 then Some (number_after 0 text) else None

-- the value that a word --name=value gives to the setting of this name
unfoldable pub value_in : Name → List ℕ → Option ℕ
value_in name word = option_and_then number_in_digits (behind (codes "--" ++ (setting_text name ++ codes "=")) word)

-- a path that isn't empty
abbrev pub some_path : List ℕ → Option (List ℕ)
some_path path = if length path == 0 then None else Some path

-- the path that a word --recon=path gives
unfoldable pub path_in : List ℕ → Option (List ℕ)
path_in word = option_and_then some_path (behind (codes "--recon=") word)

-- the number of the point that a word gives behind this front
abbrev pub point_in : List ℕ → List ℕ → Option ℕ
point_in front word = option_and_then number_in_digits (behind front word)

-- the value that these words give to the setting of this name
abbrev pub value_given : Name → List (List ℕ) → Option ℕ
value_given name [] = None
value_given name (word ∷ words) = option_or (value_in name word) (value_given name words)

-- the path that these words give
abbrev pub path_given : List (List ℕ) → Option (List ℕ)
path_given [] = None
path_given (word ∷ words) = option_or (path_in word) (path_given words)

-- a word gives the setting of this name its value, and none of the words before does
unfoldable pub is_new_setting : List (List ℕ) → List ℕ → Name → Bool
is_new_setting before word name = is_some (value_in name word) && is_none (value_given name before)

-- a word gives the path, and none of the words before does
unfoldable pub is_new_path : List (List ℕ) → List ℕ → Bool
is_new_path before word = is_some (path_in word) && is_none (path_given before)

-- a word fits behind these: it gives a setting its value, or for `encode` the path, for `make` the number of pictures,
-- and for `rate` the path or the budget; for `pardecode` just the number of workers
unfoldable pub fits : OptionsOf → List (List ℕ) → List ℕ → Bool
fits options_of.Encode before word = list_any (is_new_setting before word) names || is_new_path before word
fits options_of.Make before word = list_any (is_new_setting before word) names || is_new_setting before word name.Count
fits options_of.Pardecode before word = is_new_setting before word name.Workers
fits options_of.Rate before word =
    (list_any (is_new_setting before word) names || is_new_path before word) || is_new_setting before word name.Budget

-- the number of the first word that doesn't fit, where the command and these stand before
abbrev pub first_unfit : OptionsOf → List (List ℕ) → List (List ℕ) → Option ℕ
first_unfit of before [] = None
first_unfit of before (word ∷ words) =
    if fits of before word then first_unfit of (before ++ word ∷ []) words else Some (length before + 1)

-- the value that these words give to the setting of this name, or else this one
unfoldable pub value_or : List (List ℕ) → Name → ℕ → ℕ
value_or words name default = unwrap_or (value_given name words) default

-- the defaults of the base video format that these words name, or else of base 0
abbrev pub defaults_given : List (List ℕ) → Settings
defaults_given words = of_base (value_or words name.Base 0)

-- these defaults, but for the settings to which the words give values
abbrev pub changed : List (List ℕ) → Settings → Settings
changed words d = record {
  base = d.base;
  chroma = value_or words name.Chroma d.chroma;
  width = value_or words name.Width d.width;
  height = value_or words name.Height d.height;
  rate = value_or words name.Rate d.rate;
  signal = value_or words name.Signal d.signal;
  fields = value_or words name.Fields d.fields;
  profile = value_or words name.Profile d.profile;
  level = value_or words name.Level d.level;
  wavelet = value_or words name.Wavelet d.wavelet;
  depth = value_or words name.Depth d.depth;
  index = value_or words name.Index d.index;
  codeblocks = value_or words name.Codeblocks d.codeblocks;
  finer = value_or words name.Finer d.finer;
  blocks = value_or words name.Blocks d.blocks;
  precision = value_or words name.Precision d.precision;
  references = value_or words name.References d.references;
  gop = value_or words name.Gop d.gop;
  between = value_or words name.Between d.between;
  range = value_or words name.Range d.range;
  pyramid = value_or words name.Pyramid d.pyramid;
  bias = value_or words name.Bias d.bias;
  workers = value_or words name.Workers d.workers;
  pictures = value_or words name.Pictures d.pictures;
  unit_bytes = value_or words name.UnitBytes d.unit_bytes;
  alike = value_or words name.Alike d.alike;
}

-- the settings that these words say
unfoldable pub settings_given : List (List ℕ) → Settings
settings_given words = changed words (defaults_given words)

-- the number of pictures that these words say, or else 12
abbrev pub count_given : List (List ℕ) → ℕ
count_given words = value_or words name.Count 12

-- the number of workers that these words say, or else 2
abbrev pub workers_given : List (List ℕ) → ℕ
workers_given words = value_or words name.Workers 2

-- the budget that these words say, or else 65,536
abbrev pub budget_given : List (List ℕ) → ℕ
budget_given words = value_or words name.Budget 65536
