-- The next level of a plane, from rows of the plane.
use Rattle.std.proofs.Common.{◌≡◌, ℕ, zero, suc, ℤ, pos, ◌+◌, ◌-◌, ◌*◌, ◌/◌, ◌<◌, ◌≤◌, List, length, map, get_or, set, arith, refl, ap, sym, ◌∙◌, inl, inr, min, get_or-set_same, get_or-set_other}
use Rattle.std.specs.List.{range_with_len}
use Rattle.std.proofs.lemmas.Int.{ints}
use Rattle.std.proofs.lemmas.Bool.{cases_eq}
use Rattle.std.proofs.lemmas.List.FromFn.{get_or-map-range_with_len, length-map-range_with_len}
use Rattle.dirac_common.specs.Table.{Table, clamped_to, row_of}
use Rattle.dirac_common.proofs.Rows.{row_at, RowsFilled, rows_all}
use Rattle.dirac_pyramid.specs.Pyramid.{mean_at, half_row, shrunk_at, shrunk, pyramid_level}

-- one more place of a row is written
pub written_more : (f : ℕ → ℤ) (out : List ℤ) (n m : ℕ) (v : ℤ) → ((k : ℕ) → k < n → get_or out k (pos 0) ≡ f k) → n < length out → m ≡ n + 1 → v ≡ f n
    → (k : ℕ) → k < m → get_or (set out n v) k (pos 0) ≡ f k
written_more f out n m v h fits next e k l = elim (cases_eq k n) [
  | inl here ↦ ap (λ i. get_or (set out n v) i (pos 0)) here ∙ get_or-set_same out n v (pos 0) fits ∙ e ∙ ap f (sym here)
  | inr other ↦ get_or-set_other out n k v (pos 0) other ∙ h k (omega arith)
]

-- the last column of an odd number is taken twice
pub last_column : (above below : List ℤ) (n : ℕ) → length above ≡ 2 * n + 1
    → mean_at above below (2 * n) (2 * n) ≡ half_row above below n
last_column above below n odd =
    let same : min (2 * n + 1) (length above - 1) ≡ 2 * n = omega arith in
    ap (mean_at above below (2 * n)) (sym same)

-- a place of a table that isn't before its first
clamped_min : (n size : ℕ) → 1 ≤ size → clamped_to (pos n) size ≡ min n (size - 1)
clamped_min n size some = grind (arith, ints)

-- rows 2 y and 2 y + 1 give row y of the next level
pub row_shrunk : (t : Table) (x y down : ℕ) (above below : List ℤ) → above ≡ row_of t (2 * y) → below ≡ row_of t down → length above ≡ t.width
    → x < (t.width + 1) / 2 → y < (t.height + 1) / 2 → down ≡ min (2 * y + 1) (t.height - 1)
    → half_row above below x ≡ shrunk_at t x y
row_shrunk t x y down above below ea eu len l k e =
    let left : clamped_to (pos (2 * x)) t.width ≡ 2 * x = clamped_min (2 * x) t.width (omega arith) ∙ omega arith in
    let right : clamped_to (pos (2 * x + 1)) t.width ≡ min (2 * x + 1) (t.width - 1) = clamped_min (2 * x + 1) t.width (omega arith) in
    let upper : clamped_to (pos (2 * y)) t.height ≡ 2 * y = clamped_min (2 * y) t.height (omega arith) ∙ omega arith in
    let lower : clamped_to (pos (2 * y + 1)) t.height ≡ down = clamped_min (2 * y + 1) t.height (omega arith) ∙ sym e in
    let last : min (2 * x + 1) (length above - 1) ≡ min (2 * x + 1) (t.width - 1) = omega arith in
    rw (
      left,
      right,
      upper,
      lower,
      last,
      ea,
      eu,
      row_at t (2 * x) (2 * y) (omega arith),
      row_at t (min (2 * x + 1) (t.width - 1)) (2 * y) (omega arith),
      row_at t (2 * x) down (omega arith),
      row_at t (min (2 * x + 1) (t.width - 1)) down (omega arith),
    ) refl

-- all rows filled are the next level
pub shrunk_is : (t u : Table) (n : ℕ) → u.width ≡ (t.width + 1) / 2 → u.height ≡ (t.height + 1) / 2 → 1 ≤ u.width → u.height ≤ n → RowsFilled (shrunk_at t) u.width u.height u.values n → u ≡ shrunk t
unfolding shrunk
shrunk_is t u n ew eh some all r = rows_all (shrunk_at t) u ((t.width + 1) / 2) ((t.height + 1) / 2) n ew eh (omega arith) (omega arith) r

-- the last of so many levels, and one more
pub level_size : (t : Table) (l : ℕ) → t.width ≤ 8192 → t.height ≤ 8192 → ((pyramid_level t l).width ≤ 8192) × ((pyramid_level t l).height ≤ 8192)
unfolding shrunk
level_size t zero wide high = (wide, high)
level_size t (suc l) wide high = let below = level_size t l wide high in (omega (arith, below.0), omega (arith, below.1))

-- a level of those so far
pub level_is : (t p : Table) (items : List Table) (l n : ℕ) → items ≡ map (pyramid_level t) (range_with_len 0 n) → l < n → p ≡ get_or items l p → p ≡ pyramid_level t l
level_is t p items l n all inside e = e ∙ ap (λ xs. get_or xs l p) all ∙ get_or-map-range_with_len (pyramid_level t) 0 n l l p inside (omega arith)

pub levels_len : (t : Table) (items : List Table) (n : ℕ) → items ≡ map (pyramid_level t) (range_with_len 0 n) → length items ≡ n
levels_len t items n all = ap length all ∙ length-map-range_with_len (pyramid_level t) 0 n
