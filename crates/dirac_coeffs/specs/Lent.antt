-- Numbers that are lent, and the values of a band while it is read.
use Rattle.std.specs.Prelude.{⊤, ℤ, pos, List, replicate}
use Rattle.dirac_coeffs.specs.declared.codeblocks.Filling.{Filling}
use Rattle.dirac_coeffs.specs.declared.numbers.Numbers.{Numbers}
use Rattle.dirac_coeffs.specs.declared.numbers.Numbers.TheVariants as lent
use Rattle.dirac_coeffs.specs.declared.store.Values.{Values}
use Rattle.dirac_coeffs.specs.declared.store.Values.TheVariants as held
use Rattle.dirac_coeffs.specs.BandRead.{Content, band_content}

-- the numbers that are lent
abbrev pub numbers_in : Numbers → List ℤ
numbers_in (lent.Zeros count) = replicate count (pos 0)
numbers_in (lent.Narrow list) = list.now
numbers_in (lent.Wide list) = list.now

-- the values so far
abbrev pub values_in : Values → List ℤ
values_in (held.Narrow list) = list.items
values_in (held.Wide list) = list.items

-- what is read of a block so far
abbrev pub content_in : Filling → Content
content_in f = band_content (values_in f.values) f.indices

-- whether values are held in 32 bits
abbrev pub IsNarrow : Values → Type 0
IsNarrow (held.Narrow list) = ⊤
IsNarrow (held.Wide list) = ⊥
