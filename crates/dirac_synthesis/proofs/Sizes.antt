-- The sizes of the LL band on the way through the levels.
use Rattle.std.proofs.Common.{◌≡◌, ℕ, zero, suc, ◌+◌, ◌-◌, ◌*◌, ◌/◌, ◌^◌, ◌<◌, ◌≤◌, arith, ap, sym, ◌∙◌}
use Rattle.std.proofs.lemmas.Bool.{ne_eqb}
use Rattle.std.proofs.lemmas.Nat.{pow-add, pow_pos, shl-shr, mul-le, div-add-mod', mod_below}
use Rattle.std.proofs.Math.Pow.{pow_mono}
use Rattle.dirac_bands.specs.Geometry.{lowest_size}
use Rattle.dirac_bands.proofs.Sizes.{rounded_up_bound}
use Rattle.dirac_synthesis.specs.Fits.{length_of_band}

pub lowest_length : (size depth : ℕ) → length_of_band size depth 0 ≡ lowest_size size depth
lowest_length size depth = shl-shr (lowest_size size depth) depth

-- a power that is parted
pow_parts : (n depth : ℕ) → n ≤ depth → 2 ^ depth ≡ 2 ^ n * 2 ^ (depth - n)
pow_parts n depth l =
    let whole : n + (depth - n) ≡ depth = omega (arith, l) in
    ap (λ k. 2 ^ k) (sym whole) ∙ pow-add 2 n (depth - n)

padded_parts : (q n depth : ℕ) → n ≤ depth → q * 2 ^ depth / 2 ^ (depth - n) ≡ q * 2 ^ n
padded_parts q n depth l =
    let parts : q * 2 ^ depth ≡ q * 2 ^ n * 2 ^ (depth - n) = omega (arith, ap (λ p. q * p) (pow_parts n depth l)) in
    ap (λ p. p / 2 ^ (depth - n)) parts ∙ shl-shr (q * 2 ^ n) (depth - n)

-- bands 3n + 1 to 3n + 3 have the size of the LL band after n levels
pub level_length : (size depth n band : ℕ) → n < depth → 3 * n + 1 ≤ band → band ≤ 3 * n + 3 → length_of_band size depth band ≡ lowest_size size depth * 2 ^ n
level_length size depth n band l low high =
    let level : (band + 2) / 3 ≡ n + 1 = omega (arith, low, high) in
    let some : n + 1 ≡ 0 → ⊥ = λ e. omega (arith, e) in
    let shift : depth - (n + 1) + 1 ≡ depth - n = omega (arith, l) in
    rw (level, ne_eqb (n + 1) 0 some, shift) (padded_parts (lowest_size size depth) n depth (omega (arith, l)))

padded_bound : (size depth : ℕ) → size ≤ 8192 → depth ≤ 5 → lowest_size size depth * 2 ^ depth ≤ 8192
padded_bound size depth small five =
    let split : depth + (13 - depth) ≡ 13 = omega (arith, five) in
    let all : 2 ^ 13 ≡ 2 ^ (13 - depth) * 2 ^ depth = omega (arith, ap (λ k. 2 ^ k) split, pow-add 2 depth (13 - depth)) in
    omega (arith, all, rounded_up_bound size (2 ^ depth) (2 ^ (13 - depth)) (pow_pos depth) (omega (arith, all, small)))

-- the LL band before the last level has at most half the size of the largest table
pub quotient_bound : (size depth n : ℕ) → size ≤ 8192 → n < depth → depth ≤ 5 → lowest_size size depth * 2 ^ n ≤ 4096
quotient_bound size depth n small l five =
    let double : 2 ^ (n + 1) ≤ 2 ^ depth = pow_mono {i = n + 1} {j = depth} (omega (arith, l)) in
    let power : 2 ^ (n + 1) ≡ 2 ^ n * 2 = pow-add 2 n 1 in
    let half : 2 ^ n * 2 ≤ 2 ^ depth = omega (arith, double, power) in
    omega (
      arith,
      padded_bound size depth small five,
      mul-le (lowest_size size depth) (2 ^ n * 2) (lowest_size size depth) (2 ^ depth) (omega arith) half,
    )

-- after all levels the size is the padded one, which is at least the size itself
pub size_within : (size depth : ℕ) → size ≤ lowest_size size depth * 2 ^ depth
size_within size depth =
    omega (arith, div-add-mod' (size + 2 ^ depth - 1) (2 ^ depth), pow_pos depth, mod_below (size + 2 ^ depth - 1) (2 ^ depth) (pow_pos depth))

-- a level doubles the size
pub next_length : (q n low next : ℕ) → next ≡ 2 * low → low ≡ q * 2 ^ n → next ≡ q * 2 ^ (n + 1)
next_length q n low next en el =
    let power : 2 ^ (n + 1) ≡ 2 ^ n * 2 = pow-add 2 n 1 in
    let twice : q * 2 ^ (n + 1) ≡ q * (2 ^ n * 2) = ap (λ p. q * p) power in
    omega (arith, en, el, twice)

-- bounds on values over the levels
pub entry_bound : (n : ℕ) → n ≤ 4 → 2 ^ 77 * 73 ^ n ≤ 2 ^ 103
entry_bound zero l = omega arith
entry_bound (suc zero) l = omega arith
entry_bound (suc (suc zero)) l = omega arith
entry_bound (suc (suc (suc zero))) l = omega arith
entry_bound (suc (suc (suc (suc zero)))) l = omega arith
entry_bound (suc (suc (suc (suc (suc n))))) l = absurd (omega arith)

pub end_bound : (n : ℕ) → n ≤ 5 → 2 ^ 77 * 73 ^ n ≤ 2 ^ 108
end_bound zero l = omega arith
end_bound (suc zero) l = omega arith
end_bound (suc (suc zero)) l = omega arith
end_bound (suc (suc (suc zero))) l = omega arith
end_bound (suc (suc (suc (suc zero)))) l = omega arith
end_bound (suc (suc (suc (suc (suc zero))))) l = omega arith
end_bound (suc (suc (suc (suc (suc (suc n)))))) l = absurd (omega arith)

-- a bound that is at least 1
pub bound_some : (n : ℕ) → 1 ≤ 73 ^ n
bound_some zero = omega arith
bound_some (suc n) =
    let next : suc n ≡ n + 1 = omega arith in
    let power : 73 ^ (n + 1) ≡ 73 ^ n * 73 = pow-add 73 n 1 in
    rw (next, power) (omega (arith, bound_some n))

pub bound_more : (n : ℕ) → 72 * (2 ^ 77 * 73 ^ n) + 40 ≤ 2 ^ 77 * 73 ^ (n + 1)
bound_more n =
    let power : 73 ^ (n + 1) ≡ 73 ^ n * 73 = pow-add 73 n 1 in
    omega (arith, power, bound_some n)

pub bound_least : (n : ℕ) → 2 ^ 64 ≤ 2 ^ 77 * 73 ^ n
bound_least n = omega (arith, bound_some n)

-- an LL band has at least one column and one row
some_factor : (q p : ℕ) → 1 ≤ q * p → 1 ≤ q
some_factor zero p l = absurd (omega (arith, l))
some_factor (suc q) p l = omega arith

pub level_some : (size depth n low : ℕ) → 1 ≤ size → low ≡ lowest_size size depth * 2 ^ n → 1 ≤ low
level_some size depth n low some e =
    let lowest : 1 ≤ lowest_size size depth = some_factor (lowest_size size depth) (2 ^ depth) (omega (arith, some, size_within size depth)) in
    omega (arith, e, mul-le 1 1 (lowest_size size depth) (2 ^ n) lowest (pow_pos n))
