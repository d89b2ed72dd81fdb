-- Two weights of a ramp that overlap sum to 8.
use Rattle.std.proofs.Common.{◌≡◌, ℕ, ◌+◌, ◌-◌, ◌*◌, ◌/◌, ◌%◌, ◌<◌, arith, inl, inr, ap, ◌∙◌, eq-eqb}
use Rattle.std.proofs.Math.Nat.{mul-add}
use Rattle.std.proofs.lemmas.Bool.{cases_eq, ne_eqb}
use Rattle.std.proofs.lemmas.Nat.{div_below, mod_below, div-add-mod', div-mul-add}
use Rattle.dirac_obmc.specs.Weights.{ramp}

-- the quotient of what is left of 7 * m - 1
opposite : (a m : ℕ) → 0 < m → a < 7 * m → (7 * m - 1 - a) / m ≡ 6 - a / m
opposite a m some below =
    let few : a / m < 7 = div_below a m 7 some below in
    let rest : a % m < m = mod_below a m some in
    let whole : a / m * m + a % m ≡ a = div-add-mod' a m in
    let all : m * (a / m + (6 - a / m)) ≡ m * (a / m) + m * (6 - a / m) = mul-add m (a / m) (6 - a / m) in
    let six : a / m + (6 - a / m) ≡ 6 = omega arith in
    let seven : m * 6 ≡ m * (a / m) + m * (6 - a / m) = ap (λ k. m * k) (omega arith) ∙ all in
    let same : 7 * m - 1 - a ≡ (6 - a / m) * m + (m - 1 - a % m) = grind (arith, seven, whole) in
    ap (λ n. n / m) same ∙ div-mul-add (6 - a / m) m (m - 1 - a % m) (omega arith)

pub ramps : (margin t u : ℕ) → t < 2 * margin → u ≡ 2 * margin - 1 - t → ramp margin t + ramp margin u ≡ 8
ramps margin t u below e = elim (cases_eq margin 1) [
  | inl one ↦ rw (eq-eqb margin 1 one) (grind arith)
  | inr more ↦
      let a : 6 * u + margin - 1 ≡ 7 * (2 * margin - 1) - 1 - (6 * t + margin - 1) = omega arith in
      let q : (6 * u + margin - 1) / (2 * margin - 1) ≡ 6 - (6 * t + margin - 1) / (2 * margin - 1) =
      ap (λ n. n / (2 * margin - 1)) a ∙ opposite (6 * t + margin - 1) (2 * margin - 1) (omega arith) (omega arith) in
      let few : (6 * t + margin - 1) / (2 * margin - 1) < 7 = div_below (6 * t + margin - 1) (2 * margin - 1) 7 (omega arith) (omega arith) in
      rw (ne_eqb margin 1 more) (omega (arith, q, few))
]
