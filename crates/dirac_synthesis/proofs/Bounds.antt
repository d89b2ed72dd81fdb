-- How large values become on the way from coefficients to samples.
use Rattle.std.proofs.Common.{ℕ, ℤ, ◌+◌, ◌*◌, ◌/◌, ◌%◌, ◌<◌, ◌≤◌, unsigned_abs, List, arith, inl, inr, eq-eqb}
use Rattle.std.specs.List.{All}
use Rattle.std.proofs.lemmas.Bool.{cases_eq, ne_eqb}
use Rattle.dirac_common.specs.Table.{Table, table_at, table_of}
use Rattle.dirac_common.proofs.Bounds.{values_bound, told_bound}
use Rattle.dirac_bands.specs.Interleaving.{joined_at, joined}

pub all_below : (a b : ℕ) (xs : List ℤ) → a ≤ b → All (λ v. unsigned_abs v < a) xs → All (λ v. unsigned_abs v ≤ b) xs
all_below a b xs l all k d i = omega (arith, l, all k d i)

pub joined_bound : (b : ℕ) (ll hl lh hh : Table) → All (λ v. unsigned_abs v ≤ b) ll.values → All (λ v. unsigned_abs v ≤ b) hl.values → All (λ v. unsigned_abs v ≤ b) lh.values → All (λ v. unsigned_abs v ≤ b) hh.values → All (λ v. unsigned_abs v ≤ b) (joined ll hl lh hh).values
joined_bound b ll hl lh hh bll bhl blh bhh =
    told_bound b (2 * ll.width) (2 * ll.height) (joined_at ll hl lh hh) (λ x y. elim (cases_eq (y % 2) 0) [
      | inl top ↦ elim (cases_eq (x % 2) 0) [
        | inl left ↦ rw (eq-eqb (y % 2) 0 top, eq-eqb (x % 2) 0 left) (values_bound b ll.values bll ((y / 2) * ll.width + x / 2))
        | inr right ↦ rw (eq-eqb (y % 2) 0 top, ne_eqb (x % 2) 0 right) (values_bound b hl.values bhl ((y / 2) * hl.width + x / 2))
      ]
      | inr low ↦ elim (cases_eq (x % 2) 0) [
        | inl left ↦ rw (ne_eqb (y % 2) 0 low, eq-eqb (x % 2) 0 left) (values_bound b lh.values blh ((y / 2) * lh.width + x / 2))
        | inr right ↦ rw (ne_eqb (y % 2) 0 low, ne_eqb (x % 2) 0 right) (values_bound b hh.values bhh ((y / 2) * hh.width + x / 2))
      ]
    ])

pub cut_bound : (b w h : ℕ) (t : Table) → All (λ v. unsigned_abs v ≤ b) t.values → All (λ v. unsigned_abs v ≤ b) (table_of w h (table_at t)).values
cut_bound b w h t all = told_bound b w h (table_at t) (λ x y. values_bound b t.values all (y * t.width + x))
