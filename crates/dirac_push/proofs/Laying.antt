-- A plane is laid row by row.
use Rattle.std.proofs.Common.{◌≡◌, ◌∙◌, ℕ, ℤ, pos, ◌+◌, ◌-◌, ◌*◌, ◌<◌, ◌≤◌, ◌⊎◌, inl, inr, Bool, true, false, nat_lt, List, slice_index_or, refl, sym, ap, subst, arith}
use Rattle.std.specs.Prelude.{slice_index}
use Rattle.std.proofs.lemmas.Bool.{ltb-false, ltb-true}
use Rattle.std.proofs.Math.Nat.{eq-or-lt_of_le, mul-le-mul_right}
use Rattle.dirac_common.specs.Table.{Table, table_at}
use Rattle.dirac_content.specs.Raw.{byte_of}
use Rattle.dirac_push.specs.Laid.{AreLaid, CopiesSamples}

-- a byte of an earlier row stands before a later one
row_before : (x v y width stride : ℕ) → x < width → v < y → width ≤ stride → v * stride + x < y * stride
row_before x v y width stride across down fits =
    let rows : (v + 1) * stride ≤ y * stride = mul-le-mul_right stride (omega arith) in
    let next : (v + 1) * stride ≡ v * stride + stride = omega arith in
    omega (arith, rows, next)

-- a place is before a part, in it, or behind it
where_of : (b c : Bool) (i from count : ℕ) → nat_lt i from ≡ b → nat_lt i (from + count) ≡ c → ((i < from) ⊎ (from + count ≤ i)) ⊎ ((from ≤ i) × (i < from + count))
where_of true c i from count p q = inl (inl (ltb-true i from p))
where_of false true i from count p q = inr (ltb-false i from p, ltb-true i (from + count) q)
where_of false false i from count p q = inl (inr (ltb-false i (from + count) q))

outside_row : (i y stride width : ℕ) → ((x v : ℕ) → x < width → v < y + 1 → i ≡ v * stride + x → ⊥) → (i < y * stride) ⊎ (y * stride + width ≤ i)
outside_row i y stride width out =
    elim (where_of (nat_lt i (y * stride)) (nat_lt i (y * stride + width)) i (y * stride) width refl refl) [
      | inl so ↦ so
      | inr in_row ↦ absurd (out (i - y * stride) y (omega (arith, in_row.0, in_row.1)) (omega arith) (omega (arith, in_row.0)))
    ]

-- one row more
pub rows_next : (t : Table) (samples : List ℤ) (y stride : ℕ) (old mid new : List ℕ) → samples ≡ t.values → t.width ≤ stride → AreLaid t y stride old mid → CopiesSamples samples (y * t.width) (y * stride) t.width mid new → AreLaid t (y + 1) stride old new
rows_next t samples y stride old mid new same fits rows row = record {
  long = row.long ∙ rows.long;
  samples = λ x v across down.
      elim (eq-or-lt_of_le {n = v} {m = y} (omega arith)) [
        | inl e ↦
            let P : ℕ → Type 0 = λ n. slice_index new (n * stride + x) ≡ byte_of (table_at t x n) in
            subst P (sym e) (row.copied x across ∙ ap (λ (l : List ℤ). byte_of (slice_index_or l (y * t.width + x) (pos 0))) same)
        | inr before ↦ row.others (v * stride + x) (inl (row_before x v y t.width stride across before fits)) ∙ rows.samples x v across before
      ];
  others = λ i out.
      row.others i (outside_row i y stride t.width out)
      ∙ rows.others i (λ x v across down e. out x v across (omega arith) e);
}
