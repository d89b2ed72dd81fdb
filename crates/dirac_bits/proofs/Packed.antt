-- Bits that are those of bytes.
use Rattle.std.proofs.Common.{◌≡◌, ℕ, suc, ◌/◌, ◌<◌, ◌^◌, Bool, List, [], ◌∷◌, ◌++◌, length, get_or, refl, sym, ap, ap₂, ◌∙◌, arith}
use Rattle.std.specs.List.{AllByRecursion}
use Rattle.dirac_common.specs.Bits.{byte_bits, bits_of, number_from}
use Rattle.dirac_common.specs.Bytes.{bytes_in, bytes_of}
use Rattle.dirac_bits.specs.Laws.{StartsWith}
use Rattle.dirac_bits.specs.Spelling.{Spells}
use Rattle.dirac_bits.specs.Syntax.{Syntax}
use Rattle.dirac_bits.proofs.Bits.{length-bits_of}
use Rattle.dirac_bits.proofs.Literals.{number_from-byte}

in_bits : (bytes : List ℕ) → AllByRecursion (λ b. b < 2 ^ 8) bytes → bytes_in (length bytes) (bits_of bytes) ≡ bytes
unfolding bytes_in
in_bits [] below = refl
in_bits (b ∷ bytes) below =
    let first : number_from 0 (byte_bits b []) ≡ b = number_from-byte 0 b [] below.0 ∙ omega arith in
    ap₂ (λ (x : ℕ) (xs : List ℕ). x ∷ xs) first (in_bits bytes below.1)

-- bytes are those of their bits
pub packed : (bits : List Bool) (bytes : List ℕ) → AllByRecursion (λ b. b < 2 ^ 8) bytes → bits_of bytes ≡ bits → bytes ≡ bytes_of bits
packed bits bytes below e =
    let count : length bits / 8 ≡ length bytes = omega (arith, ap length e, length-bits_of bytes) in
    sym (in_bits bytes below) ∙ ap₂ (λ (n : ℕ) (xs : List Bool). bytes_in n xs) (sym count) e

-- bytes whose first bits spell a value
pub starts : {A : Type 0} (s : Syntax A) (x : A) (bits rest : List Bool) (bytes : List ℕ) → Spells s x 0 bits → bits_of bytes ≡ bits ++ rest → StartsWith s x bytes
starts s x bits rest bytes spells parts = record { bits = bits; rest = rest; spells = spells; parts = parts }

-- items below 256, told by their places
pub all_below : (bytes : List ℕ) → ((i : ℕ) → get_or bytes i 0 < 256) → AllByRecursion (λ b. b < 2 ^ 8) bytes
all_below [] each = tt
all_below (b ∷ bytes) each = (omega (arith, each 0), all_below bytes (λ i. each (suc i)))
