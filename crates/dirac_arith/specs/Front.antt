-- The number at the front of a block, whose bits past its end are ones.
use Rattle.std.specs.Prelude.{ℕ, zero, suc, Bool, true, List, [], ◌∷◌}
use Rattle.dirac_common.specs.Bits.{bits_of, number_from}

-- the first n of these bits followed by endless ones
unfoldable pub first_bits : List Bool → ℕ → List Bool
first_bits bits zero = []
first_bits [] (suc n) = true ∷ first_bits [] n
first_bits (b ∷ bs) (suc n) = b ∷ first_bits bs n

-- the number spelt by the first n bits of a block followed by endless ones
unfoldable pub front : List ℕ → ℕ → ℕ
front block n = number_from 0 (first_bits (bits_of block) n)
