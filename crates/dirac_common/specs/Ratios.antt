-- How many luma samples one chroma sample stands for.
use Rattle.std.specs.Prelude.{ℕ}
use Rattle.dirac_common.specs.declared.formats.Chroma.{Chroma}
use Rattle.dirac_common.specs.declared.formats.Chroma.TheVariants.{C444, C422, C420}

-- across
abbrev pub ratio_across : Chroma → ℕ
ratio_across C444 = 1
ratio_across C422 = 2
ratio_across C420 = 2

-- down
abbrev pub ratio_down : Chroma → ℕ
ratio_down C444 = 1
ratio_down C422 = 1
ratio_down C420 = 2
