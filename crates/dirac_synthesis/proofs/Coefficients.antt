-- How large the coefficients are that coded numbers stand for.
use Rattle.std.proofs.Common.{◌≡◌, ℕ, zero, suc, ℤ, pos, negsuc, neg_ℤ, ◌+◌, ◌-◌, ◌*◌, ◌/◌, ◌%◌, ◌^◌, ◌<◌, ◌≤◌, unsigned_abs, arith, refl, inl, inr, eq-eqb}
use Rattle.std.proofs.Math.Pow.{pow_mono}
use Rattle.std.proofs.lemmas.Bool.{cases_eq, ne_eqb}
use Rattle.std.proofs.lemmas.Nat.{mul-le}
use Rattle.dirac_common.specs.declared.formats.Kind.{Kind}
use Rattle.dirac_common.specs.declared.formats.Kind.TheVariants.{Intra, Inter}
use Rattle.dirac_quant.specs.Quantiser.{factor_of, general_offset, offset_of, with_sign_of, restored_magnitude, restored}

factor_small : (index : ℕ) → index ≤ 99 → factor_of index < 2 ^ 27
factor_small index most =
    let quarter : index / 4 ≤ 24 = omega (arith, most) in
    let power : 2 ^ (index / 4) ≤ 2 ^ 24 = pow_mono {i = index / 4} {j = 24} quarter in
    elim (cases_eq (index % 4) 0) [
      | inl a ↦ rw (eq-eqb (index % 4) 0 a) (omega (arith, power))
      | inr na ↦ elim (cases_eq (index % 4) 1) [
        | inl b ↦ rw (ne_eqb (index % 4) 0 na, eq-eqb (index % 4) 1 b) (omega (arith, power))
        | inr nb ↦ elim (cases_eq (index % 4) 2) [
          | inl d ↦ rw (ne_eqb (index % 4) 0 na, ne_eqb (index % 4) 1 nb, eq-eqb (index % 4) 2 d) (omega (arith, power))
          | inr nd ↦ rw (ne_eqb (index % 4) 0 na, ne_eqb (index % 4) 1 nb, ne_eqb (index % 4) 2 nd) (omega (arith, power))
        ]
      ]
    ]

general_small : (factor : ℕ) (kind : Kind) → factor < 2 ^ 27 → general_offset factor kind < 2 ^ 27
general_small factor Intra l = omega (arith, l)
general_small factor Inter l = omega (arith, l)

offset_small : (index : ℕ) (kind : Kind) → index ≤ 99 → offset_of index kind < 2 ^ 27
offset_small index kind most = elim (cases_eq index 0) [
  | inl a ↦ rw (eq-eqb index 0 a) (omega arith)
  | inr na ↦ elim (cases_eq index 1) [
    | inl b ↦ rw (ne_eqb index 0 na, eq-eqb index 1 b) (omega arith)
    | inr nb ↦ rw (ne_eqb index 0 na, ne_eqb index 1 nb) (general_small (factor_of index) kind (factor_small index most))
  ]
]

-- a magnitude from a factor and an offset
scaled_small : (magnitude factor offset : ℕ) → magnitude < 2 ^ 39 - 1 → factor < 2 ^ 27 → offset < 2 ^ 27 → (magnitude * factor + offset + 2) / 4 < 2 ^ 64
scaled_small magnitude factor offset m f o =
    omega (arith, m, f, o, mul-le magnitude factor (2 ^ 39) (2 ^ 27 - 1) (omega (arith, m)) (omega (arith, f)))

magnitude_small : (magnitude index : ℕ) (kind : Kind) → magnitude < 2 ^ 39 - 1 → index ≤ 99 → restored_magnitude magnitude index kind < 2 ^ 64
magnitude_small magnitude index kind m most = elim (cases_eq magnitude 0) [
  | inl a ↦ rw (eq-eqb magnitude 0 a) (omega arith)
  | inr na ↦ rw (ne_eqb magnitude 0 na) (scaled_small magnitude (factor_of index) (offset_of index kind) m (factor_small index most) (offset_small index kind most))
]

negated_size : (n : ℕ) → unsigned_abs (neg_ℤ (pos n)) ≡ n
negated_size zero = refl
negated_size (suc n) = refl

signed_small : (v : ℤ) (magnitude b : ℕ) → magnitude < b → unsigned_abs (with_sign_of v magnitude) < b
signed_small (pos n) magnitude b l = l
signed_small (negsuc n) magnitude b l = omega (arith, l, negated_size magnitude)

pub restored_small : (v : ℤ) (index : ℕ) (kind : Kind) → unsigned_abs v < 2 ^ 39 - 1 → index ≤ 99 → unsigned_abs (restored v index kind) < 2 ^ 64
restored_small v index kind small most =
    signed_small v (restored_magnitude (unsigned_abs v) index kind) (2 ^ 64) (magnitude_small (unsigned_abs v) index kind small most)
