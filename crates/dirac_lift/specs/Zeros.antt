-- What the synthesis makes of zeros.
use Rattle.std.specs.Prelude.{◌≡◌, ℕ, ℤ, pos, List}
use Rattle.std.specs.List.{All}
use Rattle.dirac_common.specs.Table.{Table}
use Rattle.dirac_lift.specs.Level.{level}
use Rattle.dirac_lift.specs.Wavelets.{synth}

-- each value is 0
abbrev pub AreZeros : List ℤ → Type 0
AreZeros xs = All (λ v. v ≡ pos 0) xs

-- the synthesis of a line of zeros has zeros alone
abbrev pub LinesStayZeros : Type 0
LinesStayZeros = (wavelet : ℕ) (xs : List ℤ) → AreZeros xs → AreZeros (synth wavelet xs)

-- and so has that of four bands of zeros
abbrev pub LevelsStayZeros : Type 0
LevelsStayZeros =
    (wavelet : ℕ) (ll hl lh hh : Table) → AreZeros ll.values → AreZeros hl.values → AreZeros lh.values
    → AreZeros hh.values
    → AreZeros (level wavelet ll hl lh hh).values
