-- Rows of samples that are compared in bytes.
use Rattle.std.proofs.Common.{◌≡◌, ℕ, zero, suc, ℤ, pos, negsuc, ◌+◌, ◌-◌, ◌*◌, ◌/◌, ◌%◌, ◌^◌, ◌<◌, ◌≤◌, ◌+ℤ◌, ◌-ℤ◌, ◌*ℤ◌, List, get_or, refl, ap, ap₂, sym, ◌∙◌, arith, subst}
use Rattle.std.proofs.lemmas.Int.{ints}
use Rattle.std.proofs.lemmas.Nat.{row_fits}
use Rattle.dirac_common.specs.Table.{Table, clamped_at, clamped_to, table_at}
use Rattle.dirac_common.specs.declared.formats.Vector.{Vector}
use Rattle.dirac_upconvert.specs.Phases.{AreLines}
use Rattle.dirac_upconvert.specs.SubSamples.{IsUp, Up, bilinear, sum_of_four, place_at, rest_at, rounded, sub_sample}
use Rattle.dirac_upconvert.proofs.PartRows.{four_at_place}
use Rattle.dirac_upconvert.proofs.SampleRows.{sample_of_part}
use Rattle.dirac_costs.specs.Sums.{sum_below}
use Rattle.dirac_costs.specs.Windows.{row_from, values_from}
use Rattle.dirac_costs.proofs.Sums.{sum_same}
use Rattle.dirac_pyramid.specs.Pyramid.{mean_of_four}
use Rattle.dirac_search.specs.declared.byte_sums.Corners.{Corners}
use Rattle.dirac_search.specs.declared.byte_sums.Strided.{Strided}
use Rattle.dirac_search.specs.declared.bytes.Bytes.{Bytes}
use Rattle.dirac_search.specs.declared.sub_bytes.Spot.{Spot}
use Rattle.dirac_search.specs.declared.tried.Tried.{Tried}
use Rattle.dirac_search.specs.InBytes.{AreBytes, HasSpot, HasAllSamplesOfWindow, IsSpot, apart_from_mean, corners_at, mean_behind, row_at, start_of, strided_means, strided_rows}
use Rattle.dirac_search.specs.Rows.{apart_at, sub_row_apart, sub_row_from}
use Rattle.dirac_search.specs.Tried.{sub_sum}
use Rattle.dirac_search.proofs.Differences.{apart_same, inside_place}

-- a position of whole places
place_zero : (x : ℤ) → place_at x 0 ≡ x
place_zero (pos n) = omega (arith, ints)
place_zero (negsuc n) = omega (arith, ints)

rest_zero : (x : ℤ) → rest_at x 0 ≡ pos 0
rest_zero x = apart x (place_at x 0) (place_zero x) where
  apart : (x p : ℤ) → p ≡ x → x -ℤ p *ℤ pos 1 ≡ pos 0
  apart x p e = omega (arith, ints, e)

-- the spot of a position in halves of a sample, and in quarters
pub spot_one : (q n : ℕ) → q ≡ 1 → HasSpot q (pos n) (record { place = n; rest = 0 })
spot_one q n e = rw e (record { place = place_zero (pos n); rest = rest_zero (pos n); near = omega arith })

pub spot_two : (q n : ℕ) → q ≡ 2 → HasSpot q (pos n) (record { place = n / 2; rest = n % 2 })
spot_two q n e = rw e (record { place = refl; rest = omega (arith, ints); near = omega arith })

-- a position inside is itself
clamped_inside : (t : Table) (x y : ℤ) (i j : ℕ) → x ≡ pos i → y ≡ pos j → i < t.width → j < t.height → clamped_at t x y ≡ table_at t i j
clamped_inside t x y i j ex ey l k = ap₂ (λ (a b : ℕ). table_at t a b) (inside_place x i t.width ex l) (inside_place y j t.height ey k)

-- a sample of a row that a table has
source_place : (t : Table) (values : List ℤ) (x y first k : ℕ) → values ≡ t.values → first ≡ y * t.width + x → y < t.height → x + 8 ≤ t.width → k < 8
    → values_from values first k ≡ row_from t x y k
source_place t values x y first k ev e inside fits l =
    let column : clamped_to (pos (x + k)) t.width ≡ x + k = inside_place (pos (x + k)) (x + k) t.width refl (omega arith) in
    let row : clamped_to (pos y) t.height ≡ y = inside_place (pos y) y t.height refl inside in
    let at : first + k ≡ y * t.width + (x + k) = omega (arith, e) in
    ap₂ (λ (vs : List ℤ) (i : ℕ). get_or vs i (pos 0)) ev at ∙ ap₂ (λ (i j : ℕ). get_or t.values (j * t.width + i) (pos 0)) (sym column) (sym row)

-- a sample of a line, k places behind the start of row r
half_place : (u : Up) (values : List ℤ) (x y r k at : ℕ) → u.table.width ≡ 2 * u.width - 1 → u.table.height ≡ 2 * u.height - 1 → AreLines u.table u.width values → at ≡ start_of u.width x y + r * (4 * u.width)
    → x + 2 * k < 2 * u.width - 1 → (y + 2 * r) < 2 * u.height - 1 → values_from values at k ≡ table_at u.table (x + 2 * k) (y + 2 * r)
half_place u values x y r k at ew eh are e across down =
    let c = u.width in
    let n = 2 * (y + 2 * r) + x % 2 in
    let i = x / 2 + k in
    let rem : x % 2 < 2 = omega arith in
    let whole : 2 * (x / 2) + x % 2 ≡ x = omega arith in
    let place : at + k ≡ n * c + i = place_is c (x % 2) (x / 2) y r k at e in
    let column : 2 * i + n % 2 ≡ x + 2 * k = omega arith in
    let row : n / 2 ≡ y + 2 * r = omega arith in
    ap (λ j. get_or values j (pos 0)) place ∙ are.value i n (omega (arith, ew)) (omega (arith, eh)) ∙ ap₂ (λ (a b : ℕ). table_at u.table a b) column row
  where
    place_is : (c odd half y r k at : ℕ) → at ≡ ((2 * y + odd) * c + half) + r * (4 * c) → at + k ≡ (2 * (y + 2 * r) + odd) * c + (half + k)
    place_is c odd half y r k at e = omega (arith, e)

-- a sample to which a vector leads, from the places round it
sample_at_part : (u : Up) (q x y r k : ℕ) (v : Vector) (m n : Spot) → 1 ≤ q → q ≤ 2 → IsSpot q x v.x m → IsSpot q y v.y n
    → rounded (2 * (q - 1)) (bilinear u.table (2 ^ (q - 1)) (pos m.place +ℤ pos (2 * k)) (pos n.place +ℤ pos (2 * r)) (pos m.rest) (pos n.rest)) ≡ sub_row_from u q x (y + r) v k
sample_at_part u q x y r k v m n some few h o =
    let bits = q - 1 in
    let px = pos (2 ^ q * x) +ℤ v.x in
    let py = pos (2 ^ q * y) +ℤ v.y in
    let parts : 2 ^ q * (y + r) ≡ 2 ^ q * y + 2 ^ q * r = omega arith in
    let row : py +ℤ pos (2 ^ q * r) ≡ pos (2 ^ q * (y + r)) +ℤ v.y = omega (arith, ints) in
    sym
    (ap₂ (λ (a b : ℤ). rounded (2 * bits) (bilinear u.table (2 ^ bits) (a +ℤ pos (2 * k)) (b +ℤ pos (2 * r)) (rest_at px bits) (rest_at py bits))) h.place o.place
    ∙ ap₂ (λ (a b : ℤ). rounded (2 * bits) (bilinear u.table (2 ^ bits) (pos m.place +ℤ pos (2 * k)) (pos n.place +ℤ pos (2 * r)) a b)) h.rest o.rest)
    ∙ sample_of_part u q bits px py r k (omega arith) (omega arith)
    ∙ ap (λ b. sub_sample u q (px +ℤ pos (2 ^ q * k)) b) row

-- a row of eight samples that are places
row_of_places : (s : Table) (u : Up) (q x y r : ℕ) (v : Vector) (m n : Spot) (a b : List ℤ) (first at : ℕ) → 1 ≤ q → q ≤ 2 → IsSpot q x v.x m → IsSpot q y v.y n → m.rest ≡ 0 → n.rest ≡ 0
    → u.table.width ≡ 2 * u.width - 1 → u.table.height ≡ 2 * u.height - 1
    → a ≡ s.values → AreLines u.table u.width b → first ≡ (y + r) * s.width + x → y + r < s.height → x + 8 ≤ s.width
    → at ≡ start_of u.width m.place n.place + r * (4 * u.width) → m.place + 14 < 2 * u.width - 1 → n.place + 2 * r < 2 * u.height - 1
    → sum_below (apart_at a first b at) 8 ≡ sub_row_apart s u q x (y + r) v 8
unfolding apart_at sub_row_apart
row_of_places s u q x y r v m n a b first at some few h o none_right none_below ew eh es are ef inside fits eat fx fy =
    apart_same (values_from a first) (row_from s x (y + r)) (values_from b at) (sub_row_from u q x (y + r) v) 8
    (λ k l. source_place s a x (y + r) first k es ef inside fits l)
    (λ k l.
    let px = pos m.place +ℤ pos (2 * k) in
    let py = pos n.place +ℤ pos (2 * r) in
    half_place u b m.place n.place r k at ew eh are eat (omega (arith, fx, l)) fy
    ∙ sym (clamped_inside u.table px py (m.place + 2 * k) (n.place + 2 * r) refl refl (omega (arith, fx, l, ew)) (omega (arith, fy, eh)))
    ∙ sym (four_at_place (q - 1) (clamped_at u.table px py) (clamped_at u.table (px +ℤ pos 1) py) (clamped_at u.table px (py +ℤ pos 1)) (clamped_at u.table (px +ℤ pos 1) (py +ℤ pos 1)) (omega arith))
    ∙ ap₂ (λ (i j : ℕ). rounded (2 * (q - 1)) (bilinear u.table (2 ^ (q - 1)) px py (pos i) (pos j))) (sym none_right) (sym none_below)
    ∙ sample_at_part u q x y r k v m n some few h o)

-- the first of two values, or the second
abbrev pick : ℕ → ℤ → ℤ → ℤ
pick zero p q = p
pick (suc n) p q = q

-- a sample at a corner
beside : (t : Table) (x y : ℤ) (i j right : ℕ) → right ≤ 1 → x ≡ pos i → y ≡ pos j → i + right < t.width → j < t.height
    → table_at t (i + right) j ≡ pick right (clamped_at t x y) (clamped_at t (x +ℤ pos 1) y)
beside t x y i j zero few ex ey l k = sym (clamped_inside t x y (i + 0) j (omega (arith, ints, ex)) ey l k)
beside t x y i j (suc zero) few ex ey l k = sym (clamped_inside t (x +ℤ pos 1) y (i + 1) j (omega (arith, ints, ex)) ey l k)
beside t x y i j (suc (suc n)) few ex ey l k = absurd (omega arith)

corner : (t : Table) (x y : ℤ) (i j right below : ℕ) → right ≤ 1 → below ≤ 1 → x ≡ pos i → y ≡ pos j → i + right < t.width → j + below < t.height
    → table_at t (i + right) (j + below) ≡ pick below (pick right (clamped_at t x y) (clamped_at t (x +ℤ pos 1) y)) (pick right (clamped_at t x (y +ℤ pos 1)) (clamped_at t (x +ℤ pos 1) (y +ℤ pos 1)))
corner t x y i j right zero few near ex ey l k = beside t x y i (j + 0) right few ex (omega (arith, ints, ey)) l k
corner t x y i j right (suc zero) few near ex ey l k = beside t x (y +ℤ pos 1) i (j + 1) right few ex (omega (arith, ints, ey)) l k
corner t x y i j right (suc (suc n)) few near ex ey l k = absurd (omega arith)

-- the mean of four corners is the sample between them
corners_mixed : (right below : ℕ) (p q r s : ℤ) → right ≤ 1 → below ≤ 1
    → mean_of_four p (pick right p q) (pick below p r) (pick below (pick right p q) (pick right r s)) ≡ rounded 2 (sum_of_four 2 (pos right) (pos below) p q r s)
corners_mixed zero zero p q r s few near = ap (λ z. rounded 2 z) (sum p q r s) where
  sum : (p q r s : ℤ) → (p +ℤ p) +ℤ (p +ℤ p) ≡ sum_of_four 2 (pos 0) (pos 0) p q r s
  sum p q r s = omega (arith, ints)
corners_mixed (suc zero) zero p q r s few near = ap (λ z. rounded 2 z) (sum p q r s) where
  sum : (p q r s : ℤ) → (p +ℤ q) +ℤ (p +ℤ q) ≡ sum_of_four 2 (pos 1) (pos 0) p q r s
  sum p q r s = omega (arith, ints)
corners_mixed zero (suc zero) p q r s few near = ap (λ z. rounded 2 z) (sum p q r s) where
  sum : (p q r s : ℤ) → (p +ℤ p) +ℤ (r +ℤ r) ≡ sum_of_four 2 (pos 0) (pos 1) p q r s
  sum p q r s = omega (arith, ints)
corners_mixed (suc zero) (suc zero) p q r s few near = ap (λ z. rounded 2 z) (sum p q r s) where
  sum : (p q r s : ℤ) → (p +ℤ q) +ℤ (r +ℤ s) ≡ sum_of_four 2 (pos 1) (pos 1) p q r s
  sum p q r s = omega (arith, ints)
corners_mixed (suc (suc n)) below p q r s few near = absurd (omega arith)
corners_mixed zero (suc (suc n)) p q r s few near = absurd (omega arith)
corners_mixed (suc zero) (suc (suc n)) p q r s few near = absurd (omega arith)

-- a row of eight samples in quarters
row_of_quarters : (s : Table) (u : Up) (x y r : ℕ) (v : Vector) (m n : Spot) (a b : List ℤ) (c : Corners) (first : ℕ) → IsSpot 2 x v.x m → IsSpot 2 y v.y n
    → u.table.width ≡ 2 * u.width - 1 → u.table.height ≡ 2 * u.height - 1
    → a ≡ s.values → AreLines u.table u.width b → first ≡ (y + r) * s.width + x → y + r < s.height → x + 8 ≤ s.width
    → c.left ≡ start_of u.width m.place n.place + r * (4 * u.width) → c.right ≡ start_of u.width (m.place + m.rest) n.place + r * (4 * u.width)
    → c.under ≡ n.rest * (2 * u.width) → m.place + 14 + m.rest < 2 * u.width - 1 → n.place + 2 * r + n.rest < 2 * u.height - 1
    → sum_below (apart_from_mean a first b c) 8 ≡ sub_row_apart s u 2 x (y + r) v 8
unfolding apart_from_mean sub_row_apart
row_of_quarters s u x y r v m n a b c first h o ew eh es are ef inside fits el en eu fx fy =
    let i = m.place in
    let j = n.place in
    let right = m.rest in
    let below = n.rest in
    let few = h.near in
    let near = o.near in
    apart_same (values_from a first) (row_from s x (y + r)) (mean_behind b c) (sub_row_from u 2 x (y + r) v) 8
    (λ k l. source_place s a x (y + r) first k es ef inside fits l)
    (λ k l.
    let t = u.table in
    let px = pos i +ℤ pos (2 * k) in
    let py = pos j +ℤ pos (2 * r) in
    let at = λ (m n : ℕ) (hm : m ≤ right) (hn : n ≤ below). corner t px py (i + 2 * k) (j + 2 * r) m n (omega (arith, hm, few)) (omega (arith, hn, near)) refl refl (omega (arith, fx, l, ew, hm)) (omega (arith, fy, eh, hn)) in
    let left_above : values_from b c.left k ≡ table_at t ((i + 2 * k) + 0) ((j + 2 * r) + 0) =
    half_place u b i j r k c.left ew eh are el (omega (arith, fx, l)) (omega (arith, fy)) ∙ ap₂ (λ (m n : ℕ). table_at t m n) (none (i + 2 * k)) (none (j + 2 * r)) in
    let right_above : values_from b c.right k ≡ table_at t ((i + 2 * k) + right) ((j + 2 * r) + 0) =
    half_place u b (i + right) j r k c.right ew eh are en (omega (arith, fx, l)) (omega (arith, fy)) ∙ ap₂ (λ (m n : ℕ). table_at t m n) (moved i right k) (none (j + 2 * r)) in
    let left_below : values_from b (c.left + c.under) k ≡ table_at t ((i + 2 * k) + 0) ((j + 2 * r) + below) =
    half_place u b i (j + below) r k (c.left + c.under) ew eh are (down_by u.width (i % 2) (i / 2) j below r c.left c.under el eu) (omega (arith, fx, l)) (omega (arith, fy)) ∙ ap₂ (λ (m n : ℕ). table_at t m n) (none (i + 2 * k)) (moved j below r) in
    let right_below : values_from b (c.right + c.under) k ≡ table_at t ((i + 2 * k) + right) ((j + 2 * r) + below) =
    half_place u b (i + right) (j + below) r k (c.right + c.under) ew eh are (down_by u.width ((i + right) % 2) ((i + right) / 2) j below r c.right c.under en eu) (omega (arith, fx, l)) (omega (arith, fy)) ∙ ap₂ (λ (m n : ℕ). table_at t m n) (moved i right k) (moved j below r) in
    ap₂ (λ (m n : ℤ). mean_of_four m n (values_from b (c.left + c.under) k) (values_from b (c.right + c.under) k)) (left_above ∙ at 0 0 (omega arith) (omega arith)) (right_above ∙ at right 0 (omega arith) (omega arith))
    ∙ ap₂ (λ (m n : ℤ). mean_of_four (clamped_at t px py) (pick right (clamped_at t px py) (clamped_at t (px +ℤ pos 1) py)) m n) (left_below ∙ at 0 below (omega arith) (omega arith)) (right_below ∙ at right below (omega arith) (omega arith))
    ∙ corners_mixed right below (clamped_at t px py) (clamped_at t (px +ℤ pos 1) py) (clamped_at t px (py +ℤ pos 1)) (clamped_at t (px +ℤ pos 1) (py +ℤ pos 1)) few near
    ∙ sample_at_part u 2 x y r k v m n (omega arith) (omega arith) h o)
  where
    none : (n : ℕ) → n ≡ n + 0
    none n = omega arith

    moved : (i right k : ℕ) → (i + right) + 2 * k ≡ (i + 2 * k) + right
    moved i right k = omega arith

    down_by : (c odd half j below r left under : ℕ) → left ≡ ((2 * j + odd) * c + half) + r * (4 * c) → under ≡ below * (2 * c) → left + under ≡ ((2 * (j + below) + odd) * c + half) + r * (4 * c)
    down_by c odd half j below r left under el eu = omega (arith, el, eu)

-- where row r begins
row_moved : (r first step start apart : ℕ) → first ≡ start → step ≡ apart → first + r * step ≡ start + r * apart
row_moved r first step start apart ef es = ap₂ (λ (a b : ℕ). a + r * b) ef es

source_row : (y w x r : ℕ) (left : Strided) → left.first ≡ y * w + x → left.step ≡ w → row_at left r ≡ (y + r) * w + x
source_row y w x r left ef el = row_moved r left.first left.step (y * w + x) w ef el ∙ omega arith

-- all rows of a window
pub places_are : (s : Table) (u : Up) (q : ℕ) (x y : Spot) (t : Tried) (b : Bytes) (lines : List ℤ) (left right : Strided) → 1 ≤ q → q ≤ 2 → HasAllSamplesOfWindow s u q x y t → IsUp u.width u.height u.table → AreBytes s b → AreLines u.table u.width lines
    → left.first ≡ t.window.y * s.width + t.window.x → left.step ≡ s.width → right.first ≡ start_of u.width x.place y.place → right.step ≡ 4 * u.width
    → x.rest ≡ 0 → y.rest ≡ 0 → t.first + sum_below (strided_rows b.source.items left lines right) t.window.rows ≡ sub_sum s u q t
places_are s u q x y t b lines left right some few held up bytes are ef el er et none_x none_y =
    let w = t.window in
    ap (λ n. t.first + n)
    (sum_same (strided_rows b.source.items left lines right) (λ r. sub_row_apart s u q w.x (w.y + r) t.v w.columns) w.rows
    (λ r l.
    row_of_places s u q w.x w.y r t.v x y b.source.items lines (row_at left r) (row_at right r) some few held.across.spot held.down.spot none_x none_y
    up.across up.down bytes are (source_row w.y s.width w.x r left ef el) (omega (arith, held.source_bottom, l)) held.source_right
    (row_moved r right.first right.step _ _ er et) (omega (arith, held.across.inside)) (omega (arith, held.down.inside, l))
    ∙ ap (sub_row_apart s u q w.x (w.y + r) t.v) (sym held.columns)))

quarters_are : (s : Table) (u : Up) (x y : Spot) (t : Tried) (b : Bytes) (lines : List ℤ) (left : Strided) (c : Corners) (step : ℕ) → HasAllSamplesOfWindow s u 2 x y t → IsUp u.width u.height u.table → AreBytes s b → AreLines u.table u.width lines
    → left.first ≡ t.window.y * s.width + t.window.x → left.step ≡ s.width → c.left ≡ start_of u.width x.place y.place → c.right ≡ start_of u.width (x.place + x.rest) y.place
    → c.under ≡ y.rest * (2 * u.width) → step ≡ 4 * u.width → t.first + sum_below (strided_means b.source.items left lines c step) t.window.rows ≡ sub_sum s u 2 t
quarters_are s u x y t b lines left c step held up bytes are ef el er en eu et =
    let w = t.window in
    ap (λ n. t.first + n)
    (sum_same (strided_means b.source.items left lines c step) (λ r. sub_row_apart s u 2 w.x (w.y + r) t.v w.columns) w.rows
    (λ r l.
    row_of_quarters s u w.x w.y r t.v x y b.source.items lines (corners_at c step r) (row_at left r) held.across.spot held.down.spot
    up.across up.down bytes are (source_row w.y s.width w.x r left ef el) (omega (arith, held.source_bottom, l)) held.source_right
    (row_moved r c.left step _ _ er et) (row_moved r c.right step _ _ en et) eu (omega (arith, held.across.inside)) (omega (arith, held.down.inside, l))
    ∙ ap (sub_row_apart s u 2 w.x (w.y + r) t.v) (sym held.columns)))

pub quarters_at : (s : Table) (u : Up) (q : ℕ) (x y : Spot) (t : Tried) (b : Bytes) (lines : List ℤ) (left : Strided) (c : Corners) (step : ℕ) → q ≡ 2 → HasAllSamplesOfWindow s u q x y t → IsUp u.width u.height u.table → AreBytes s b → AreLines u.table u.width lines
    → left.first ≡ t.window.y * s.width + t.window.x → left.step ≡ s.width → c.left ≡ start_of u.width x.place y.place → c.right ≡ start_of u.width (x.place + x.rest) y.place
    → c.under ≡ y.rest * (2 * u.width) → step ≡ 4 * u.width → t.first + sum_below (strided_means b.source.items left lines c step) t.window.rows ≡ sub_sum s u q t
quarters_at s u q x y t b lines left c step two held up bytes are ef el er en eu et =
    subst (λ (n : ℕ). t.first + sum_below (strided_means b.source.items left lines c step) t.window.rows ≡ sub_sum s u n t) (sym two)
    (quarters_are s u x y t b lines left c step (subst (λ (n : ℕ). HasAllSamplesOfWindow s u n x y t) two held) up bytes are ef el er en eu et)

-- rows that a list has
pub source_fits : (s : Table) (len x y rows : ℕ) (left : Strided) → len ≡ s.width * s.height → left.first ≡ y * s.width + x → left.step ≡ s.width → x + 8 ≤ s.width → y + rows ≤ s.height
    → (r : ℕ) → r < rows → row_at left r + 8 ≤ len
source_fits s len x y rows left len_is ef el right bottom r l =
    let whole : (y + r) * s.width + s.width ≤ s.height * s.width = row_fits (y + r) s.width s.height s.width (omega (arith, l, bottom)) (omega arith) in
    omega (arith, len_is, source_row y s.width x r left ef el, right, whole)

pub lines_fit : (u : Up) (len i j rows : ℕ) (right : Strided) → u.table.height ≡ 2 * u.height - 1 → len ≡ 2 * u.table.height * u.width → right.first ≡ start_of u.width i j → right.step ≡ 4 * u.width
    → i + 14 < 2 * u.width - 1 → j + 2 * rows ≤ 2 * u.height → (r : ℕ) → r < rows → row_at right r + 8 ≤ len
lines_fit u len i j rows right eh len_is ef es across down r l =
    let c = u.width in
    let n = 2 * (j + 2 * r) + i % 2 in
    let rem : i % 2 < 2 = omega arith in
    let whole : n * c + c ≤ 2 * u.table.height * c = row_fits n c (2 * u.table.height) c (omega (arith, eh, l, down)) (omega arith) in
    let half : i / 2 + 8 ≤ c = omega (arith, across) in
    at_row c (i % 2) (i / 2) j r (row_at right r) len (2 * u.table.height * c) (row_moved r right.first right.step _ _ ef es) len_is half whole
  where
    at_row : (c odd half j r at len all : ℕ) → at ≡ ((2 * j + odd) * c + half) + r * (4 * c) → len ≡ all → half + 8 ≤ c → (2 * (j + 2 * r) + odd) * c + c ≤ all → at + 8 ≤ len
    at_row c odd half j r at len all e el fits whole = omega (arith, e, el, fits, whole)

-- a row further down
pub start_under : (i j below columns c start : ℕ) → columns ≡ c → start ≡ start_of columns i j → start + below * (2 * columns) ≡ start_of c i (j + below)
start_under i j below columns c start ec es =
    ap (λ a. a + below * (2 * columns)) es ∙ lower columns (i % 2) (i / 2) j below ∙ ap (λ n. start_of n i (j + below)) ec
  where
    lower : (c odd half j below : ℕ) → ((2 * j + odd) * c + half) + below * (2 * c) ≡ (2 * (j + below) + odd) * c + half
    lower c odd half j below = omega arith
