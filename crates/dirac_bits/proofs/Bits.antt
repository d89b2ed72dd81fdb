-- The bits of bytes, one by one.
use Rattle.std.proofs.Common.{◌≡◌, ℕ, zero, suc, ◌+◌, ◌-◌, ◌*◌, ◌<◌, ◌≤◌, List, [], ◌∷◌, length, get_or, drop, refl, sym, ap, ◌∙◌, arith, Ok, Err}
use Rattle.std.proofs.lemmas.List.{drop-drop, drop_all}
use Rattle.dirac_common.specs.declared.faults.Cause.TheVariants.{UnitShort}
use Rattle.dirac_common.specs.Bits.{is_bit_set, bits_of}
use Rattle.dirac_bits.specs.Cursor.{bits_left, first_bit_of, bit_next}

-- eight bits a byte
pub length-bits_of : (bytes : List ℕ) → length (bits_of bytes) ≡ 8 * length bytes
length-bits_of [] = refl
length-bits_of (b ∷ bytes) = omega (arith, length-bits_of bytes)

-- the bits behind the first byte are those of the others
pub drop_byte : (n k b : ℕ) (bytes : List ℕ) → n ≡ 8 + k → drop n (bits_of (b ∷ bytes)) ≡ drop k (bits_of bytes)
drop_byte n k b bytes e = ap (λ i. drop i (bits_of (b ∷ bytes))) e ∙ sym (drop-drop k 8 (bits_of (b ∷ bytes)))

-- a bit of the first byte
first_byte : (bit b : ℕ) (bytes : List ℕ) → bit < 8 → drop bit (bits_of (b ∷ bytes)) ≡ is_bit_set b (7 - bit) ∷ drop (bit + 1) (bits_of (b ∷ bytes))
first_byte zero b bytes h = refl
first_byte (suc zero) b bytes h = refl
first_byte (suc (suc zero)) b bytes h = refl
first_byte (suc (suc (suc zero))) b bytes h = refl
first_byte (suc (suc (suc (suc zero)))) b bytes h = refl
first_byte (suc (suc (suc (suc (suc zero))))) b bytes h = refl
first_byte (suc (suc (suc (suc (suc (suc zero)))))) b bytes h = refl
first_byte (suc (suc (suc (suc (suc (suc (suc zero))))))) b bytes h = refl
first_byte (suc (suc (suc (suc (suc (suc (suc (suc bit)))))))) b bytes h = absurd (omega arith)

-- the bit at a number
drop_bits : (byte bit at : ℕ) (bytes : List ℕ) → at ≡ 8 * byte + bit → byte < length bytes → bit < 8
    → drop at (bits_of bytes) ≡ is_bit_set (get_or bytes byte 0) (7 - bit) ∷ drop (at + 1) (bits_of bytes)
drop_bits byte bit at [] e inside below = absurd (omega arith)
drop_bits zero bit at (b ∷ bytes) e inside below =
    let same : at ≡ bit = omega arith in
    rw same (first_byte bit b bytes below)
drop_bits (suc byte) bit at (b ∷ bytes) e inside below =
    let rest : 8 * byte + bit ≡ 8 * byte + bit = refl in
    drop_byte at (8 * byte + bit) b bytes (omega arith)
    ∙ drop_bits byte bit (8 * byte + bit) bytes rest (omega arith) below
    ∙ ap (λ bits. is_bit_set (get_or bytes byte 0) (7 - bit) ∷ bits) (sym (drop_byte (at + 1) (8 * byte + bit + 1) b bytes (omega arith)))

-- the next bit, where there is one
pub bit_next_is : (byte bit at : ℕ) (bytes : List ℕ) → at ≡ 8 * byte + bit → byte < length bytes → bit < 8
    → bit_next (record { bytes = bytes; at = at }) ≡ Ok (is_bit_set (get_or bytes byte 0) (7 - bit), record { bytes = bytes; at = at + 1 })
unfolding bit_next bits_left
bit_next_is byte bit at bytes e inside below =
    ap (λ bits. first_bit_of bits (record { bytes = bytes; at = at })) (drop_bits byte bit at bytes e inside below)

-- and where there is none
pub no_bit_next : (at : ℕ) (bytes : List ℕ) → 8 * length bytes ≤ at → bit_next (record { bytes = bytes; at = at }) ≡ Err UnitShort
unfolding bit_next bits_left
no_bit_next at bytes past =
    ap (λ bits. first_bit_of bits (record { bytes = bytes; at = at })) (drop_all at (bits_of bytes) (omega (arith, length-bits_of bytes)))
