-- What the words of a command line say.
use Rattle.std.specs.Prelude.{ℕ, ◌+◌, Bool, true, false, List, [], ◌∷◌, drop, codes, bytes_eq, if◌then◌else◌, Option}
use Rattle.std.specs.Prelude.{None, Some, unwrap_or, Result, Ok, Err}
use Rattle.dirac_types.specs.declared.settings.BadSetting.{BadSetting}
use Rattle.dirac_types.specs.Settings.{first_bad, table}
use Rattle.dirac_command_line.specs.declared.words.Command.{Command}
use Rattle.dirac_command_line.specs.declared.words.Command.TheVariants as command
use Rattle.dirac_command_line.specs.declared.words.WordsStop.{WordsStop}
use Rattle.dirac_command_line.specs.declared.words.WordsStop.TheVariants.{Usage}
use Rattle.dirac_command_line.specs.declared.options.OptionsOf.TheVariants as options_of
use Rattle.dirac_command_line.specs.Options.{budget_given, count_given, first_unfit, path_given, settings_given}
use Rattle.dirac_command_line.specs.Options.{workers_given}
use Rattle.dirac_command_line.specs.declared.points.Points.{Points}
use Rattle.dirac_command_line.specs.Points.{none_given, points_with}
use Rattle.dirac_command_line.specs.Checks.{first_bad_for_rate}

-- a command that takes no further word
abbrev pub alone : Command → List (List ℕ) → Result Command WordsStop
alone c [] = Ok c
alone c (word ∷ words) = Err (Usage 1)

-- a command, where no word doesn't fit
abbrev pub where_all_fit : Command → Option ℕ → Result Command WordsStop
where_all_fit c None = Ok c
where_all_fit c (Some n) = Err (Usage n)

-- `encode` with the settings that these words say
unfoldable pub encode_read : List (List ℕ) → Result Command WordsStop
encode_read words = where_all_fit (command.Encode (settings_given words)) (first_unfit options_of.Encode [] words)

-- `make` with the settings and the number of pictures that these words say
unfoldable pub make_read : List (List ℕ) → Result Command WordsStop
make_read words =
    where_all_fit (command.Make (settings_given words) (count_given words)) (first_unfit options_of.Make [] words)

-- `pardecode` with the number of workers that these words say
unfoldable pub pardecode_read : List (List ℕ) → Result Command WordsStop
pardecode_read words =
    where_all_fit (command.Pardecode (workers_given words)) (first_unfit options_of.Pardecode [] words)

-- a word that doesn't fit, or what is behind it
abbrev pub where_it_fits : ℕ → (Points → Result Command WordsStop) → Option Points → Result Command WordsStop
where_it_fits number next None = Err (Usage number)
where_it_fits number next (Some points) = next points

-- `cut` with these points and those that the words say, of which the first has this number
abbrev pub cut_behind : ℕ → Points → List (List ℕ) → Result Command WordsStop
cut_behind number points [] = Ok (command.Cut (unwrap_or points.from 0) points.to)
cut_behind number points (word ∷ words) =
    where_it_fits number (λ next. cut_behind (number + 1) next words) (points_with points word)

-- `cut` with the points that these words say
unfoldable pub cut_read : List (List ℕ) → Result Command WordsStop
cut_read words = cut_behind 1 none_given words

-- `rate` with the settings and the budget that these words say
unfoldable pub rate_read : List (List ℕ) → Result Command WordsStop
rate_read words =
    where_all_fit (command.Rate (settings_given words) (budget_given words)) (first_unfit options_of.Rate [] words)

-- the command, or the number of the first word that doesn't fit
abbrev pub command_read : List (List ℕ) → Result Command WordsStop
command_read [] = Err (Usage 0)
command_read (word ∷ words) =
    if bytes_eq word (codes "list") then alone command.List words
    else if bytes_eq word (codes "decode") then alone command.Decode words
    else if bytes_eq word (codes "encode") then encode_read words
    else if bytes_eq word (codes "make") then make_read words
    else if bytes_eq word (codes "pardecode") then pardecode_read words
    else if bytes_eq word (codes "cut") then cut_read words
    else if bytes_eq word (codes "rate") then rate_read words
    else if bytes_eq word (codes "join") then alone command.Join words
    else Err (Usage 0)

-- the words fit a command that tells reconstructions beside it: `encode` or `rate`, whatever their settings are
abbrev pub tells_reconstructions : Result Command WordsStop → Bool
tells_reconstructions (Ok (command.Encode s)) = true
tells_reconstructions (Ok (command.Rate s budget)) = true
tells_reconstructions _ = false

-- the path that these words give, where all settings are in their ranges
abbrev pub path_accepted : Option BadSetting → List (List ℕ) → Option (List ℕ)
path_accepted None words = path_given words
path_accepted (Some bad) words = None

-- the path behind a command: only `encode` and `rate` have one
abbrev pub path_behind : Result Command WordsStop → List (List ℕ) → Option (List ℕ)
path_behind (Ok (command.Encode s)) words = path_accepted (first_bad (table s)) words
path_behind (Ok (command.Rate s budget)) words = path_accepted (first_bad_for_rate s budget) words
path_behind _ words = None

-- the path of the reconstructions, where the words fit `encode` or `rate`, give one, and the settings and the budget
-- are accepted
unfoldable pub path_read : List (List ℕ) → Option (List ℕ)
path_read words = path_behind (command_read words) (drop 1 words)
