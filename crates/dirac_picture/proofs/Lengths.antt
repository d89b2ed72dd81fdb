-- How long bands are.
use Rattle.std.proofs.Common.{◌≡◌, ℕ, zero, suc, ◌+◌, ◌-◌, ◌*◌, ◌/◌, ◌^◌, ◌<◌, ◌≤◌, arith, ap, sym, subst, ◌∙◌, if◌then◌else◌}
use Rattle.std.proofs.Math.Nat.{mul-div_cancel, div-mul-le_self, div-le_self}
use Rattle.std.proofs.Math.Pow.{pow_mono}
use Rattle.std.proofs.lemmas.Nat.{pow-add, pow_pos, mul-le, le-div}
use Rattle.std.proofs.lemmas.Bool.{ne_eqb}
use Rattle.dirac_bands.specs.Geometry.{padded_size, band_length}

-- a multiple of 2 ^ depth, divided by a smaller power
pub whole_quotient : (q depth k : ℕ) → k ≤ depth → q * 2 ^ depth / 2 ^ k ≡ q * 2 ^ (depth - k)
whole_quotient q depth k h =
    let split : (depth - k) + k ≡ depth = omega arith in
    let parts : 2 ^ ((depth - k) + k) ≡ 2 ^ (depth - k) * 2 ^ k = pow-add 2 (depth - k) k in
    let power : 2 ^ depth ≡ 2 ^ (depth - k) * 2 ^ k = rw split at parts in
    let same : q * 2 ^ depth ≡ q * 2 ^ (depth - k) * 2 ^ k = rw power (omega arith) in
    ap (λ p. p / 2 ^ k) same ∙ mul-div_cancel (q * 2 ^ (depth - k)) (pow_pos k)

-- one power more
twice_more : (q l : ℕ) → q * 2 ^ (1 + l) ≡ 2 * (q * 2 ^ l)
twice_more q l = rw (pow-add 2 1 l) (omega arith)

-- a padded plane has a unit at least
unit_fits : (size depth k : ℕ) → 1 ≤ size → k ≤ depth → 1 ≤ padded_size size depth / 2 ^ k
unit_fits size depth k some h =
    let unit : 0 < 2 ^ depth = pow_pos depth in
    let few : 2 ^ k ≤ 2 ^ depth = pow_mono h in
    let q : 1 ≤ (size + 2 ^ depth - 1) / 2 ^ depth = le-div 1 (size + 2 ^ depth - 1) (2 ^ depth) unit (omega arith) in
    let whole : 1 * 2 ^ k ≤ padded_size size depth = mul-le 1 (2 ^ k) ((size + 2 ^ depth - 1) / 2 ^ depth) (2 ^ depth) q few in
    le-div 1 (padded_size size depth) (2 ^ k) (pow_pos k) whole

-- a band above level 0
higher : (size depth l : ℕ) → band_length size depth (suc l) ≡ padded_size size depth / 2 ^ (depth - suc l + 1)
higher size depth l =
    ap (λ b. if b then padded_size size depth / 2 ^ depth else padded_size size depth / 2 ^ (depth - suc l + 1)) (ne_eqb (suc l) 0 (λ e. omega arith))

-- a band has a column at least
pub band_some : (size depth level : ℕ) → 1 ≤ size → 1 ≤ depth → level ≤ depth → 1 ≤ band_length size depth level
band_some size depth zero some one h = unit_fits size depth depth some (omega arith)
band_some size depth (suc l) some one h = subst (λ n. 1 ≤ n) (sym (higher size depth l)) (unit_fits size depth (depth - suc l + 1) some (omega arith))

-- a plane of at most 4,096 is padded to at most 8,192
padded_few : (size depth : ℕ) → size ≤ 4096 → depth ≤ 5 → padded_size size depth ≤ 8192
padded_few size depth h five =
    let unit : 2 ^ depth ≤ 2 ^ 5 = pow_mono five in
    omega (arith, div-mul-le_self (size + 2 ^ depth - 1) (2 ^ depth))

-- and so are its bands
pub band_few : (size depth level : ℕ) → size ≤ 4096 → depth ≤ 5 → band_length size depth level ≤ 8192
band_few size depth zero h five = omega (arith, padded_few size depth h five, div-le_self (padded_size size depth) (2 ^ depth))
band_few size depth (suc l) h five =
    subst (λ n. n ≤ 8192) (sym (higher size depth l)) (omega (arith, padded_few size depth h five, div-le_self (padded_size size depth) (2 ^ (depth - suc l + 1))))

-- a band has twice the length of one a level lower
pub band_twice : (size depth l : ℕ) → suc (suc l) ≤ depth → band_length size depth (suc (suc l)) ≡ 2 * band_length size depth (suc l)
band_twice size depth l h =
    let q : ℕ = (size + 2 ^ depth - 1) / 2 ^ depth in
    let up : depth - (depth - suc (suc l) + 1) ≡ 1 + l = omega arith in
    let down : depth - (depth - suc l + 1) ≡ l = omega arith in
    let high : band_length size depth (suc (suc l)) ≡ q * 2 ^ (1 + l) =
    higher size depth (suc l) ∙ whole_quotient q depth (depth - suc (suc l) + 1) (omega arith) ∙ ap (λ k. q * 2 ^ k) up in
    let low : band_length size depth (suc l) ≡ q * 2 ^ l =
    higher size depth l ∙ whole_quotient q depth (depth - suc l + 1) (omega arith) ∙ ap (λ k. q * 2 ^ k) down in
    high ∙ twice_more q l ∙ ap (λ n. 2 * n) (sym low)

-- the band has twice the sizes of the one three places before, from level 2 on
pub parent_length : (size depth n : ℕ) → 4 ≤ n → n ≤ 3 * depth → band_length size depth ((n + 2) / 3) ≡ 2 * band_length size depth ((n - 3 + 2) / 3)
parent_length size depth n four most =
    let l : ℕ = (n + 2) / 3 - 2 in
    let here : (n + 2) / 3 ≡ suc (suc l) = omega arith in
    let lower : (n - 3 + 2) / 3 ≡ suc l = omega arith in
    let there : suc (suc l) ≤ depth = omega arith in
    ap (band_length size depth) here ∙ band_twice size depth l there ∙ ap (λ k. 2 * band_length size depth k) (sym lower)
