-- The numbers that words give beside settings, and which of them are out of their ranges.
use Rattle.std.specs.Prelude.{ℕ, [], ◌∷◌, ◌++◌, Option}
use Rattle.dirac_types.specs.declared.settings.BadSetting.{BadSetting}
use Rattle.dirac_types.specs.declared.settings.Name.TheVariants as name
use Rattle.dirac_types.specs.declared.settings.Settings.{Settings}
use Rattle.dirac_types.specs.Settings.{first_bad, setting, table}

-- this number of workers where it isn't from 1 to 64
unfoldable pub bad_workers : ℕ → Option BadSetting
bad_workers workers = first_bad (setting name.Workers workers 1 64 1 ∷ [])

-- the first setting that is out of its range, and behind all settings the number of pictures, from 0 to 1000
abbrev pub first_bad_for_make : Settings → ℕ → Option BadSetting
first_bad_for_make t count = first_bad (table t ++ setting name.Count count 0 1000 1 ∷ [])

-- the first setting that is out of its range, and behind all settings the budget, from 14 to 4,294,967,295
abbrev pub first_bad_for_rate : Settings → ℕ → Option BadSetting
first_bad_for_rate t budget = first_bad (table t ++ setting name.Budget budget 14 4294967295 1 ∷ [])
