use Rattle.std.specs.Prelude.{ℕ, List, codes}
use Rattle.dirac_types.specs.declared.settings.Name.{Name}
use Rattle.dirac_types.specs.declared.settings.Name.TheVariants as name

-- the word of a setting, as text
abbrev pub setting_text : Name → List ℕ
setting_text name.Base = codes "base"
setting_text name.Chroma = codes "chroma"
setting_text name.Width = codes "width"
setting_text name.Height = codes "height"
setting_text name.Rate = codes "rate"
setting_text name.Signal = codes "signal"
setting_text name.Fields = codes "fields"
setting_text name.Profile = codes "profile"
setting_text name.Level = codes "level"
setting_text name.Wavelet = codes "wavelet"
setting_text name.Depth = codes "depth"
setting_text name.Index = codes "index"
setting_text name.Codeblocks = codes "codeblocks"
setting_text name.Finer = codes "finer"
setting_text name.Blocks = codes "blocks"
setting_text name.Precision = codes "precision"
setting_text name.References = codes "references"
setting_text name.Gop = codes "gop"
setting_text name.Between = codes "between"
setting_text name.Range = codes "range"
setting_text name.Pyramid = codes "pyramid"
setting_text name.Bias = codes "bias"
setting_text name.Workers = codes "workers"
setting_text name.Pictures = codes "pictures"
setting_text name.UnitBytes = codes "unit_bytes"
setting_text name.Alike = codes "alike"
setting_text name.Count = codes "count"
setting_text name.Budget = codes "budget"
