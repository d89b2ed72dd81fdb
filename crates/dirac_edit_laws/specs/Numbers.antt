-- A new number has the key that it was made from.
use Rattle.std.specs.Prelude.{◌≡◌, ℕ, ◌<◌, ◌^◌}
use Rattle.std.specs.Int.{cast_signed, w32}
use Rattle.dirac_refs.specs.Delivery.{key_of}
use Rattle.dirac_edit_laws.specs.Joined.{new_number}

-- a decoder that counts from the same first number finds each key again; a key is any signed number of 32 bits
abbrev pub NumbersHaveTheirKeys : Type 0
NumbersHaveTheirKeys =
    (first n : ℕ) → first < 2 ^ 32 → n < 2 ^ 32
    → key_of first (new_number first (cast_signed w32 n)) ≡ cast_signed w32 n
