-- The lines of `list`.
use Rattle.std.specs.Prelude.{ℕ, ◌/◌, ◌%◌, true, List, [], ◌∷◌, ◌++◌, codes, decimal, Result, Ok, Err}
use Rattle.std.specs.Fmt.{digit_glyph}
use Rattle.dirac_common.specs.declared.faults.Cause.{Cause}
use Rattle.dirac_units.specs.declared.info.ParseInfo.{ParseInfo}
use Rattle.dirac_units.specs.declared.info.UnitKind.{UnitKind}
use Rattle.dirac_units.specs.declared.info.UnitKind.TheVariants as kind
use Rattle.dirac_units.specs.declared.unit_place.UnitPlace.{UnitPlace}
use Rattle.dirac_units.specs.Info.{unit_kind}
use Rattle.dirac_units.specs.Cut.{UnitText, after}

-- the name of a unit's kind; a refused code has none
abbrev pub unit_name : Result UnitKind Cause → List ℕ
unit_name (Ok kind.Sequence) = codes "sequence"
unit_name (Ok kind.End) = codes "end"
unit_name (Ok kind.Auxiliary) = codes "auxiliary"
unit_name (Ok kind.Padding) = codes "padding"
unit_name (Ok kind.Picture) = codes "picture"
unit_name (Err cause) = []

-- the name of the unit with this parse code
unfoldable pub name_of_code : ℕ → List ℕ
name_of_code code = unit_name (unit_kind code)

-- a byte as two upper-case hexadecimal digits
abbrev pub hexadecimal : ℕ → List ℕ
hexadecimal n = digit_glyph true (n / 16) ∷ digit_glyph true (n % 16) ∷ []

-- INDEX AT CODE NAME NEXT PREVIOUS, and a newline
abbrev pub line_with : ℕ → ℕ → ParseInfo → List ℕ → List ℕ
line_with index at info name =
    decimal index ++ (codes " " ++ (decimal at ++ (codes " " ++ (hexadecimal info.code ++ (codes " "
    ++ (name ++ (codes " " ++ (decimal info.next ++ (codes " " ++ (decimal info.previous ++ codes "\n"))))))))))

-- the line of a unit
abbrev pub line_text : ℕ → ℕ → ParseInfo → List ℕ
line_text index at info = line_with index at info (name_of_code info.code)

-- the lines of the units of a cut, of which the first begins there
abbrev pub lines : UnitPlace → List UnitText → List ℕ
lines unit_place [] = []
lines unit_place (unit ∷ units) =
    line_text unit_place.index unit_place.at unit.info ++ lines (after unit_place unit.info) units
