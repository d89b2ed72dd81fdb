-- Joining and splitting undo each other.
use Rattle.std.proofs.Common.{◌≡◌, ℕ, ℤ, ◌+◌, ◌*◌, ◌/◌, ◌%◌, ◌<◌, ◌≤◌, ◌==◌, if◌then◌else◌, length, arith, refl, inl, inr, sym, ◌∙◌, eq-eqb}
use Rattle.std.proofs.lemmas.Bool.{cases_eq, ne_eqb}
use Rattle.dirac_common.specs.Table.{Table, table_at, table_of}
use Rattle.dirac_bands.specs.Interleaving.{joined_at, joined, band_of}
use Rattle.dirac_common.proofs.Rows.{rows_all, filled_at}

-- a table is the one that its values tell
pub table_is : (f : ℕ → ℕ → ℤ) (t : Table) (w h : ℕ) → t.width ≡ w → t.height ≡ h → 0 < w → length t.values ≡ t.width * t.height → ((x y : ℕ) → x < t.width → y < t.height → table_at t x y ≡ f x y) → t ≡ table_of w h f
table_is f t w h ew eh some len each =
    rows_all f t w h t.height ew eh some (omega arith) (record { len = len; done = each })

-- a value of the plane is that of its band
pub joined_reads : (ll hl lh hh : Table) (right below x y : ℕ) → right ≤ 1 → below ≤ 1 → x < ll.width → y < ll.height → table_at (joined ll hl lh hh) (2 * x + right) (2 * y + below) ≡ table_at (if below == 0 then (if right == 0 then ll else hl) else (if right == 0 then lh else hh)) x y
joined_reads ll hl lh hh right below x y r b p q =
    let column : (2 * x + right) % 2 ≡ right = omega arith in
    let half : (2 * x + right) / 2 ≡ x = omega arith in
    let row : (2 * y + below) % 2 ≡ below = omega arith in
    let half_down : (2 * y + below) / 2 ≡ y = omega arith in
    filled_at (joined_at ll hl lh hh) (2 * ll.width) (2 * ll.height) (2 * x + right) (2 * y + below) (omega arith) (omega arith)
    ∙ rw (column, half, row, half_down) refl

pub record Whole (t : Table) (w h : ℕ) : Type 0 where
  pub some : 0 < w
  pub across : t.width ≡ w
  pub down : t.height ≡ h
  pub len : length t.values ≡ t.width * t.height

pub ll_again : (ll hl lh hh : Table) → Whole ll ll.width ll.height → band_of (joined ll hl lh hh) 0 0 ≡ ll
ll_again ll hl lh hh o =
    sym (table_is (λ x y. table_at (joined ll hl lh hh) (2 * x + 0) (2 * y + 0)) ll (2 * ll.width / 2) (2 * ll.height / 2) (omega (arith, o.across)) (omega (arith, o.down)) (omega (arith, o.some)) o.len
    (λ x y p q. sym (joined_reads ll hl lh hh 0 0 x y (omega arith) (omega arith) p q)))

pub hl_again : (ll hl lh hh : Table) → Whole hl ll.width ll.height → band_of (joined ll hl lh hh) 1 0 ≡ hl
hl_again ll hl lh hh o =
    sym (table_is (λ x y. table_at (joined ll hl lh hh) (2 * x + 1) (2 * y + 0)) hl (2 * ll.width / 2) (2 * ll.height / 2) (omega (arith, o.across)) (omega (arith, o.down)) (omega (arith, o.some)) o.len
    (λ x y p q. sym (joined_reads ll hl lh hh 1 0 x y (omega arith) (omega arith) (omega (arith, o.across)) (omega (arith, o.down)))))

pub lh_again : (ll hl lh hh : Table) → Whole lh ll.width ll.height → band_of (joined ll hl lh hh) 0 1 ≡ lh
lh_again ll hl lh hh o =
    sym (table_is (λ x y. table_at (joined ll hl lh hh) (2 * x + 0) (2 * y + 1)) lh (2 * ll.width / 2) (2 * ll.height / 2) (omega (arith, o.across)) (omega (arith, o.down)) (omega (arith, o.some)) o.len
    (λ x y p q. sym (joined_reads ll hl lh hh 0 1 x y (omega arith) (omega arith) (omega (arith, o.across)) (omega (arith, o.down)))))

pub hh_again : (ll hl lh hh : Table) → Whole hh ll.width ll.height → band_of (joined ll hl lh hh) 1 1 ≡ hh
hh_again ll hl lh hh o =
    sym (table_is (λ x y. table_at (joined ll hl lh hh) (2 * x + 1) (2 * y + 1)) hh (2 * ll.width / 2) (2 * ll.height / 2) (omega (arith, o.across)) (omega (arith, o.down)) (omega (arith, o.some)) o.len
    (λ x y p q. sym (joined_reads ll hl lh hh 1 1 x y (omega arith) (omega arith) (omega (arith, o.across)) (omega (arith, o.down)))))

-- a value of a band
band_reads : (t : Table) (right below x y : ℕ) → x < t.width → y < t.height → t.width % 2 ≡ 0 → t.height % 2 ≡ 0 → x % 2 ≡ right → y % 2 ≡ below → table_at (band_of t right below) (x / 2) (y / 2) ≡ table_at t x y
band_reads t right below x y p q ew eh r b =
    let column : 2 * (x / 2) + right ≡ x = omega arith in
    let row : 2 * (y / 2) + below ≡ y = omega arith in
    filled_at (λ i j. table_at t (2 * i + right) (2 * j + below)) (t.width / 2) (t.height / 2) (x / 2) (y / 2) (omega arith) (omega arith)
    ∙ rw (column, row) refl

joined_of_bands : (t : Table) (x y : ℕ) → x < t.width → y < t.height → t.width % 2 ≡ 0 → t.height % 2 ≡ 0 → joined_at (band_of t 0 0) (band_of t 1 0) (band_of t 0 1) (band_of t 1 1) x y ≡ table_at t x y
joined_of_bands t x y p q ew eh = elim (cases_eq (y % 2) 0) [
  | inl top ↦ elim (cases_eq (x % 2) 0) [
    | inl left ↦ rw (eq-eqb (y % 2) 0 top, eq-eqb (x % 2) 0 left) (band_reads t 0 0 x y p q ew eh left top)
    | inr right ↦ rw (eq-eqb (y % 2) 0 top, ne_eqb (x % 2) 0 right) (band_reads t 1 0 x y p q ew eh (omega arith) top)
  ]
  | inr low ↦ elim (cases_eq (x % 2) 0) [
    | inl left ↦ rw (ne_eqb (y % 2) 0 low, eq-eqb (x % 2) 0 left) (band_reads t 0 1 x y p q ew eh left (omega arith))
    | inr right ↦ rw (ne_eqb (y % 2) 0 low, ne_eqb (x % 2) 0 right) (band_reads t 1 1 x y p q ew eh (omega arith) (omega arith))
  ]
]

pub plane_again : (t : Table) → 0 < t.width → length t.values ≡ t.width * t.height → t.width % 2 ≡ 0 → t.height % 2 ≡ 0 → joined (band_of t 0 0) (band_of t 1 0) (band_of t 0 1) (band_of t 1 1) ≡ t
plane_again t some len ew eh =
    sym (table_is (joined_at (band_of t 0 0) (band_of t 1 0) (band_of t 0 1) (band_of t 1 1)) t (2 * (t.width / 2)) (2 * (t.height / 2)) (omega arith) (omega arith) (omega arith) len
    (λ x y p q. sym (joined_of_bands t x y p q ew eh)))

pub plane_again_from : (t ll hl lh hh : Table) → ll ≡ band_of t 0 0 → hl ≡ band_of t 1 0 → lh ≡ band_of t 0 1 → hh ≡ band_of t 1 1 → 0 < t.width → length t.values ≡ t.width * t.height → t.width % 2 ≡ 0 → t.height % 2 ≡ 0 → joined ll hl lh hh ≡ t
plane_again_from t ll hl lh hh a b c d some len ew eh = rw (a, b, c, d) (plane_again t some len ew eh)
