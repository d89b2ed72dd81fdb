-- The definitions of numbers, bytes and tables, computed on small cases.
use Rattle.std.proofs.Common.{◌≡◌, ℕ, true, false, [], ◌∷◌, pos, negsuc, refl}
use Rattle.dirac_common.specs.Bits.{bits_of, number_from}
use Rattle.dirac_common.specs.Bytes.{bytes_in, bytes_of}
use Rattle.dirac_common.specs.Numbers.{digits_within, digits_of, uint, sint, literal}
use Rattle.dirac_common.specs.Table.{Table, cell_at, table_at}

uint_five : uint 5 ≡ false ∷ true ∷ false ∷ false ∷ true ∷ []
unfolding digits_within digits_of
uint_five = refl

uint_zero : uint 0 ≡ true ∷ []
unfolding digits_within digits_of
uint_zero = refl

minus_one : sint (negsuc 0) ≡ false ∷ false ∷ true ∷ true ∷ []
unfolding digits_within digits_of
minus_one = refl

two : sint (pos 2) ≡ false ∷ true ∷ true ∷ false ∷ []
unfolding digits_within digits_of
two = refl

bytes : literal 1111638852 ≡ bits_of (0x42 ∷ 0x42 ∷ 0x43 ∷ 0x44 ∷ [])
bytes = refl

spelt : number_from 0 (bits_of (0xB5 ∷ [])) ≡ 181
spelt = refl

again : bytes_of (bits_of (0x42 ∷ 0xB5 ∷ [])) ≡ 0x42 ∷ 0xB5 ∷ []
unfolding bytes_in
again = refl

-- a table of numbers has 0 outside
number_at : (t : Table) (x y : ℕ) → cell_at (pos 0) t x y ≡ table_at t x y
number_at t x y = refl
