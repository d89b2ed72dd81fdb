-- Rows of two tables beside each other, and the plane that they make.
use Rattle.std.proofs.Common.{◌≡◌, ℕ, ℤ, pos, ◌+◌, ◌-◌, ◌*◌, ◌/◌, ◌%◌, ◌<◌, ◌≤◌, ◌==◌, if◌then◌else◌, unsigned_abs, List, length, drop, get_or, set, arith, refl, inl, inr, ap, sym, ◌∙◌, eq-eqb}
use Rattle.std.specs.List.{All}
use Rattle.std.proofs.lemmas.Bool.{cases_eq, cases_lt, ne_eqb, lt-ltb, le-ltb}
use Rattle.std.proofs.lemmas.List.{ext_get_or, get_or-set_same, get_or-set_other, get_or-map}
use Rattle.std.proofs.lemmas.Nat.{mul-add-lt}
use Rattle.std.proofs.lemmas.List.Elements.{All-take, All-drop, All-map}
use Rattle.dirac_common.specs.declared.formats.Kind.{Kind}
use Rattle.dirac_common.specs.Table.{Table, row_of, table_at}
use Rattle.dirac_common.proofs.Bounds.{told_bound, values_bound}
use Rattle.dirac_common.proofs.Rows.{filled_at, row_at, rows_all}
use Rattle.dirac_quant.specs.Quantiser.{factor_of, offset_of, restored, scaled}
use Rattle.dirac_bands.specs.Interleaving.{joined, joined_at}
use Rattle.dirac_coeffs.specs.declared.layout.CodedBand.{CodedBand}
use Rattle.dirac_lift.specs.Halves.{from_halves, place_in_halves}
use Rattle.dirac_lift.proofs.RowLemmas.{length-row}
use Rattle.dirac_synthesis.specs.Halves.{IsNarrowBand, beside, beside_at}
use Rattle.dirac_synthesis.specs.Codeblocks.{restored_by_one}
use Rattle.dirac_synthesis.proofs.ZeroBands.{length-filled}

-- one more value is written behind a place
pub one_more_from : (f : ℤ → ℤ) (xs line : List ℤ) (from n : ℕ) (v : ℤ) → ((k : ℕ) → k < n → get_or line (from + k) (pos 0) ≡ f (get_or xs k (pos 0))) → from + n < length line → v ≡ f (get_or xs n (pos 0)) → (k : ℕ) → k < n + 1 → get_or (set line (from + n) v) (from + k) (pos 0) ≡ f (get_or xs k (pos 0))
one_more_from f xs line from n v before fits e k l = elim (cases_eq k n) [
  | inl last ↦ rw last (get_or-set_same line (from + n) v (pos 0) fits ∙ e)
  | inr earlier ↦
      get_or-set_other line (from + n) (from + k) v (pos 0) (λ same. earlier (omega (arith, same))) ∙ before k (omega (arith, l, earlier))
]

pub before_stays : (line old : List ℤ) (from n : ℕ) (v : ℤ) → ((x : ℕ) → x < from → get_or line x (pos 0) ≡ get_or old x (pos 0)) → (x : ℕ) → x < from → get_or (set line (from + n) v) x (pos 0) ≡ get_or old x (pos 0)
before_stays line old from n v before x l =
    get_or-set_other line (from + n) x v (pos 0) (λ same. omega (arith, same, l)) ∙ before x l

-- a value of a row of two tables
beside_left : (a b : Table) (x y : ℕ) → x < a.width → beside_at a b x y ≡ table_at a x y
beside_left a b x y l = rw (lt-ltb x a.width l) refl

beside_right : (a b : Table) (n x y : ℕ) → x ≡ a.width + n → beside_at a b x y ≡ table_at b n y
beside_right a b n x y e =
    let past : a.width ≤ x = omega (arith, e) in
    let rest : x - a.width ≡ n = omega (arith, e) in
    rw (le-ltb x a.width past, rest) refl

pub beside_row : (a b : Table) (x y : ℕ) (line : List ℤ) → ((n : ℕ) → n < a.width → get_or line n (pos 0) ≡ table_at a n y) → ((n : ℕ) → n < a.width → get_or line (a.width + n) (pos 0) ≡ table_at b n y) → x < 2 * a.width → get_or line x (pos 0) ≡ beside_at a b x y
beside_row a b x y line left right l = elim (cases_lt x a.width) [
  | inl before ↦ left x before ∙ sym (beside_left a b x y before)
  | inr past ↦
      let place : x ≡ a.width + (x - a.width) = omega (arith, past) in
      ap (λ i. get_or line i (pos 0)) place ∙ right (x - a.width) (omega (arith, l, past)) ∙ sym (beside_right a b (x - a.width) x y place)
]

-- a line that is such a row
pub is_beside_row : (a b : Table) (y : ℕ) (line : List ℤ) → length line ≡ 2 * a.width → y < a.height → ((n : ℕ) → n < a.width → get_or line n (pos 0) ≡ table_at a n y) → ((n : ℕ) → n < a.width → get_or line (a.width + n) (pos 0) ≡ table_at b n y) → line ≡ row_of (beside a b) y
is_beside_row a b y line len inside left right =
    let row : length (row_of (beside a b) y) ≡ 2 * a.width = length-row (beside a b).values (2 * a.width) a.height y (length-filled (2 * a.width) a.height (beside_at a b)) inside in
    ext_get_or (pos 0) line (row_of (beside a b) y) (len ∙ sym row) (λ x l.
    let across : x < 2 * a.width = omega (arith, l, len) in
    beside_row a b x y line left right across
    ∙ sym (row_at (beside a b) x y across ∙ filled_at (beside_at a b) (2 * a.width) a.height x y across inside))

pub beside_len : (a b : Table) → length (beside a b).values ≡ 2 * a.width * a.height
beside_len a b = length-filled (2 * a.width) a.height (beside_at a b)

pub beside_bound : (most : ℕ) (a b : Table) → All (λ v. unsigned_abs v ≤ most) a.values → All (λ v. unsigned_abs v ≤ most) b.values → All (λ v. unsigned_abs v ≤ most) (beside a b).values
beside_bound most a b ha hb =
    told_bound most (2 * a.width) a.height (beside_at a b) (λ x y. elim (cases_lt x a.width) [
      | inl before ↦ rw (beside_left a b x y before) (values_bound most a.values ha (y * a.width + x))
      | inr past ↦
          rw (beside_right a b (x - a.width) x y (omega (arith, past))) (values_bound most b.values hb (y * b.width + (x - a.width)))
    ])

-- what a coded number stands for
pub restored_place : (kind : Kind) (b : CodedBand) (n y factor offset : ℕ) → factor ≡ factor_of b.index → offset ≡ offset_of b.index kind → n < b.table.width → y < b.table.height → length b.table.values ≡ b.table.width * b.table.height
    → scaled (table_at b.table n y) factor offset ≡ table_at (restored_by_one kind b) n y
restored_place kind b n y factor offset ef eo l k whole =
    ap (λ f. scaled (table_at b.table n y) f offset) ef
    ∙ ap (λ o. scaled (table_at b.table n y) (factor_of b.index) o) eo
    ∙ sym (get_or-map (λ v. restored v b.index kind) b.table.values (y * b.table.width + n) (pos 0) (pos 0) (omega (arith, whole, mul-add-lt y b.table.width n b.table.height k l)))

-- what holds of all values holds of a row's
pub row_all : (P : ℤ → Type 0) (t : Table) (y : ℕ) (row : List ℤ) → row ≡ row_of t y → All P t.values → All P row
row_all P t y row e all =
    rw e (All-take P (y * t.width + t.width - y * t.width) (drop (y * t.width) t.values) (All-drop P (y * t.width) t.values all))

-- two such tables are the halves of the plane that four bands interleave to
halves_at : (a b : Table) (w h n y x : ℕ) → w ≡ 2 * a.width → h ≡ a.height → x < w → y < h → get_or (beside a b).values (y * w + place_in_halves w x) (pos 0) ≡ table_at (if x % 2 == 0 then a else b) (x / 2) y
halves_at a b w h n y x ew eh l k = elim (cases_eq (x % 2) 0) [
  | inl even ↦
      rw (eq-eqb (x % 2) 0 even, ew)
      (filled_at (beside_at a b) (2 * a.width) a.height (x / 2) y (omega (arith, l, ew)) (omega (arith, k, eh))
      ∙ beside_left a b (x / 2) y (omega (arith, l, ew)))
  | inr odd ↦
      let half : 2 * a.width / 2 ≡ a.width = omega arith in
      rw (ne_eqb (x % 2) 0 odd, ew, half)
      (filled_at (beside_at a b) (2 * a.width) a.height (a.width + x / 2) y (omega (arith, l, ew)) (omega (arith, k, eh))
      ∙ beside_right a b (x / 2) (a.width + x / 2) y refl)
]

from_beside_at : (ll hl lh hh : Table) (w h x y : ℕ) → w ≡ 2 * ll.width → h ≡ ll.height → lh.width ≡ ll.width → lh.height ≡ ll.height → x < w → y < 2 * h → get_or (if y % 2 == 0 then (beside ll hl).values else (beside lh hh).values) (y / 2 * w + place_in_halves w x) (pos 0) ≡ joined_at ll hl lh hh x y
from_beside_at ll hl lh hh w h x y ew eh sw sh l k = elim (cases_eq (y % 2) 0) [
  | inl even ↦ rw (eq-eqb (y % 2) 0 even) (halves_at ll hl w h 0 (y / 2) x ew eh l (omega (arith, k)))
  | inr odd ↦ rw (ne_eqb (y % 2) 0 odd) (halves_at lh hh w h 0 (y / 2) x (omega (arith, ew, sw)) (omega (arith, eh, sh)) l (omega (arith, k)))
]

pub from_beside : (ll hl lh hh : Table) (w h : ℕ) (es os : List ℤ) → es ≡ (beside ll hl).values → os ≡ (beside lh hh).values → w ≡ 2 * ll.width → h ≡ ll.height → lh.width ≡ ll.width → lh.height ≡ ll.height → 0 < w → from_halves w h es os ≡ joined ll hl lh hh
from_beside ll hl lh hh w h es os ee eo ew eh sw sh some =
    ap (λ zs. from_halves w h zs os) ee ∙ ap (from_halves w h (beside ll hl).values) eo
    ∙ rows_all (joined_at ll hl lh hh) (from_halves w h (beside ll hl).values (beside lh hh).values) (2 * ll.width) (2 * ll.height) (2 * h) ew (ap (λ k. 2 * k) eh) (omega (arith, some, ew)) (omega (arith, eh))
    (record {
      len = length-filled w (2 * h) (λ x y. get_or (if y % 2 == 0 then (beside ll hl).values else (beside lh hh).values) (y / 2 * w + place_in_halves w x) (pos 0));
      done = λ x y l k.
          filled_at (λ x y. get_or (if y % 2 == 0 then (beside ll hl).values else (beside lh hh).values) (y / 2 * w + place_in_halves w x) (pos 0)) w (2 * h) x y l k
          ∙ from_beside_at ll hl lh hh w h x y ew eh sw sh l k;
    })

-- the coefficients of a narrow band
pub narrow_values : (kind : Kind) (b : CodedBand) → IsNarrowBand kind b → All (λ v. unsigned_abs v ≤ 4095) (restored_by_one kind b).values
narrow_values kind b narrow =
    All-map (λ v. unsigned_abs v ≤ 4095) (λ v. restored v b.index kind) b.table.values narrow.small
