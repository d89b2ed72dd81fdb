-- A new number has the key that it was made from.
use Rattle.std.proofs.Common.{◌≡◌, ℕ, ◌<◌, ◌+◌, ◌-◌, ◌%◌, ◌^◌, ap, ◌∙◌, arith}
use Rattle.std.specs.Int.{cast_signed, w32}
use Rattle.std.proofs.lemmas.Int.{of_z-to_z}
use Rattle.dirac_edit_laws.specs.Numbers.{NumbersHaveTheirKeys}

back : (first n : ℕ) → first < 2 ^ 32 → n < 2 ^ 32 → ((first + n) % 2 ^ 32 + (2 ^ 32 - first)) % 2 ^ 32 ≡ n
back first n small small' = omega arith

-- the law
pub numbers_have_keys : NumbersHaveTheirKeys
numbers_have_keys first n small small' =
    ap (λ (m : ℕ). cast_signed w32 (((first + m) % 2 ^ 32 + (2 ^ 32 - first)) % 2 ^ 32)) (of_z-to_z w32 n small')
    ∙ ap (cast_signed w32) (back first n small small')
