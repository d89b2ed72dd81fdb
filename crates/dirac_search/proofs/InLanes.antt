-- Sums of eight columns at a time, in lanes, and of four rows at a time.
use Rattle.std.proofs.Common.{◌≡◌, ◌≢◌, ℕ, suc, ℤ, pos, ◌+◌, ◌-◌, ◌*◌, ◌^◌, ◌<◌, ◌≤◌, ◌+ℤ◌, ◌-ℤ◌, unsigned_abs, List, length, get_or, set, refl, ap, ap₂, sym, ◌∙◌, arith, inl, inr, get_or-set_same, get_or-set_other, subst}
use Rattle.std.specs.List.{slice_range}
use Rattle.std.proofs.lemmas.Int.{ints}
use Rattle.std.proofs.lemmas.List.Edits.{get_or-between}
use Rattle.std.proofs.lemmas.Bool.{cases_eq}
use Rattle.dirac_common.specs.Table.{Table, clamped_to, table_at}
use Rattle.dirac_common.specs.declared.formats.Vector.{Vector}
use Rattle.dirac_upconvert.specs.SubSamples.{Up, sub_sample}
use Rattle.dirac_costs.specs.Sums.{sum_below}
use Rattle.dirac_costs.specs.Windows.{row_from, values_apart, values_from}
use Rattle.dirac_costs.specs.declared.window.Window.{Window}
use Rattle.dirac_costs.proofs.Sums.{sum_added, sum_same}
use Rattle.dirac_search.specs.Rows.{IsRowNearest, apart_at, clamped_row, four_rows_apart, four_rows_from, four_sub_rows_apart, row_apart, sub_row_apart, sub_row_from, sub_rows, whole_rows}
use Rattle.dirac_search.proofs.Differences.{apart_same, inside_place}

-- the lanes before place k have been added to, the others not yet
pub record LanesAt (lanes init : List ℕ) (f : ℕ → ℕ) (k : ℕ) : Type 0 where
  pub done : (j : ℕ) → j < k → get_or lanes j 0 ≡ get_or init j 0 + f j
  pub rest : (j : ℕ) → k ≤ j → get_or lanes j 0 ≡ get_or init j 0
  pub more : (j : ℕ) → j < k → get_or lanes j 0 ≤ get_or init j 0 + 65535

pub lanes_more : (lanes init : List ℕ) (f : ℕ → ℕ) (k n v : ℕ) → k < length lanes → n ≡ k + 1 → v ≡ get_or lanes k 0 + f k → f k ≤ 65535 → LanesAt lanes init f k → LanesAt (set lanes k v) init f n
lanes_more lanes init f k n v fits en ev small at =
    let here : get_or (set lanes k v) k 0 ≡ get_or init k 0 + f k = get_or-set_same lanes k v 0 fits ∙ ev ∙ ap (λ a. a + f k) (at.rest k (omega arith)) in
    record {
      done = λ j l. elim (cases_eq j k) [
        | inl same ↦ ap (λ i. get_or (set lanes k v) i 0) same ∙ here ∙ ap (λ i. get_or init i 0 + f i) (sym same)
        | inr other ↦ get_or-set_other lanes k j v 0 other ∙ at.done j (omega arith)
      ];
      rest = λ j l. let other : j ≢ k = omega arith in get_or-set_other lanes k j v 0 other ∙ at.rest j (omega arith);
      more = λ j l. elim (cases_eq j k) [
        | inl same ↦ let e : get_or (set lanes k v) j 0 ≡ get_or init j 0 + f k = ap (λ i. get_or (set lanes k v) i 0) same ∙ here ∙ ap (λ i. get_or init i 0 + f k) (sym same) in omega (arith, e, small)
        | inr other ↦ omega (arith, get_or-set_other lanes k j v 0 other, at.more j (omega arith))
      ];
    }

-- how far samples of parts of two lists are apart
pub apart_of_parts : (a : List ℤ) (first : ℕ) (b : List ℤ) (second k : ℕ) → k < 8 → apart_at (slice_range a first (first + 8)) 0 (slice_range b second (second + 8)) 0 k ≡ apart_at a first b second k
unfolding apart_at
apart_of_parts a first b second k l = ap₂ (λ (p q : ℤ). unsigned_abs (p -ℤ q)) (read a first k l) (read b second k l) where
  read : (xs : List ℤ) (i n : ℕ) → n < 8 → get_or (slice_range xs i (i + 8)) (0 + n) (pos 0) ≡ get_or xs (i + n) (pos 0)
  read xs i n l = let same : i + (0 + n) ≡ i + n = omega arith in get_or-between xs i (i + 8) (0 + n) (pos 0) (omega arith) ∙ ap (λ m. get_or xs m (pos 0)) same

-- four rows of eight, lane by lane and row by row
pub four_lanes : (l0 l1 l2 l3 l4 : List ℕ) (a b c d : ℕ → ℕ) → ((k : ℕ) → k < 8 → get_or l0 k 0 ≡ 0)
    → ((k : ℕ) → k < 8 → get_or l1 k 0 ≡ get_or l0 k 0 + a k) → ((k : ℕ) → k < 8 → get_or l2 k 0 ≡ get_or l1 k 0 + b k)
    → ((k : ℕ) → k < 8 → get_or l3 k 0 ≡ get_or l2 k 0 + c k) → ((k : ℕ) → k < 8 → get_or l4 k 0 ≡ get_or l3 k 0 + d k)
    → sum_below (λ k. get_or l4 k 0) 8 ≡ ((sum_below a 8 + sum_below b 8) + sum_below c 8) + sum_below d 8
four_lanes l0 l1 l2 l3 l4 a b c d none ha hb hc hd =
    sum_same (λ k. get_or l4 k 0) (λ k. ((a k + b k) + c k) + d k) 8 (λ k l. omega (arith, none k l, ha k l, hb k l, hc k l, hd k l))
    ∙ sum_added (λ k. (a k + b k) + c k) d 8
    ∙ ap (λ n. n + sum_below d 8) (sum_added (λ k. a k + b k) c 8 ∙ ap (λ n. n + sum_below c 8) (sum_added a b 8))

-- four rows of eight samples that a table has stand among its values
fitting : (w y d x : ℕ) → x + 8 ≤ w → ((y * w + x) + 3 * w) + 8 ≤ w * ((y + 4) + d)
fitting w y d x l = omega (arith, l)

pub four_rows_fit : (w h y x n : ℕ) → y + 4 ≤ h → x + 8 ≤ w → n ≡ w * h → ((y * w + x) + 3 * w) + 8 ≤ n
four_rows_fit w h y x n inside l e =
    let rows : (y + 4) + (h - (y + 4)) ≡ h = omega arith in
    let whole : w * ((y + 4) + (h - (y + 4))) ≡ n = ap (λ k. w * k) rows ∙ sym e in
    subst (λ m. ((y * w + x) + 3 * w) + 8 ≤ m) whole (fitting w y (h - (y + 4)) x l)

-- a sample of a row that a table has, among its values
inner_place : (t : Table) (values : List ℤ) (x y first k : ℕ) → values ≡ t.values → first ≡ y * t.width + x → y < t.height → x + 8 ≤ t.width → k < 8
    → values_from values first k ≡ clamped_row t (pos x) (pos y) k
inner_place t values x y first k ev e inside fits l =
    let column : clamped_to (pos x +ℤ pos k) t.width ≡ x + k = inside_place (pos x +ℤ pos k) (x + k) t.width (omega (arith, ints)) (omega arith) in
    let row : clamped_to (pos y) t.height ≡ y = inside_place (pos y) y t.height refl inside in
    let at : first + k ≡ y * t.width + (x + k) = omega (arith, e) in
    ap₂ (λ (vs : List ℤ) (i : ℕ). get_or vs i (pos 0)) ev at ∙ ap₂ (λ (i j : ℕ). get_or t.values (j * t.width + i) (pos 0)) (sym column) (sym row)

-- eight samples of rows that two tables have
eight_apart : (s r : Table) (a b : List ℤ) (x y across down first second : ℕ) (place : ℤ) → a ≡ s.values → b ≡ r.values → first ≡ y * s.width + x → second ≡ down * r.width + across
    → place ≡ pos down → y < s.height → down < r.height → x + 8 ≤ s.width → across + 8 ≤ r.width
    → sum_below (apart_at a first b second) 8 ≡ row_apart s r (pos x) (pos y) (pos across) place 8
unfolding apart_at row_apart
eight_apart s r a b x y across down first second place ea eb ef es ep sy ry fx fa =
    apart_same (values_from a first) (clamped_row s (pos x) (pos y)) (values_from b second) (clamped_row r (pos across) (pos down)) 8
    (λ k l. inner_place s a x y first k ea ef sy fx l) (λ k l. inner_place r b across down second k eb es ry fa l)
    ∙ ap (λ z. values_apart (clamped_row s (pos x) (pos y)) (clamped_row r (pos across) z) 8) (sym ep)

-- four rows of eight samples, added in lanes
pub four_rows_are : (s r : Table) (a b : List ℤ) (x across y down first second w u sum : ℕ) (l0 l1 l2 l3 l4 : List ℕ)
    → sum ≡ sum_below (λ k. get_or l4 k 0) 8 → ((k : ℕ) → k < 8 → get_or l0 k 0 ≡ 0)
    → ((k : ℕ) → k < 8 → get_or l1 k 0 ≡ get_or l0 k 0 + apart_at a first b second k)
    → ((k : ℕ) → k < 8 → get_or l2 k 0 ≡ get_or l1 k 0 + apart_at a (first + w) b (second + u) k)
    → ((k : ℕ) → k < 8 → get_or l3 k 0 ≡ get_or l2 k 0 + apart_at a (first + 2 * w) b (second + 2 * u) k)
    → ((k : ℕ) → k < 8 → get_or l4 k 0 ≡ get_or l3 k 0 + apart_at a (first + 3 * w) b (second + 3 * u) k)
    → a ≡ s.values → b ≡ r.values → w ≡ s.width → u ≡ r.width → first ≡ y * s.width + x → second ≡ down * r.width + across
    → y + 4 ≤ s.height → down + 4 ≤ r.height → x + 8 ≤ s.width → across + 8 ≤ r.width → sum ≡ four_rows_apart s r x across y (pos down -ℤ pos y) 8
four_rows_are s r a b x across y down first second w u sum l0 l1 l2 l3 l4 e none h0 h1 h2 h3 ea eb ew eu ef es sy ry fx fa =
    let p : ℤ = pos down -ℤ pos y in
    e ∙ four_lanes l0 l1 l2 l3 l4 (apart_at a first b second) (apart_at a (first + w) b (second + u)) (apart_at a (first + 2 * w) b (second + 2 * u)) (apart_at a (first + 3 * w) b (second + 3 * u)) none h0 h1 h2 h3
    ∙ ap₂ (λ (m n : ℕ). m + n) (ap₂ (λ (m n : ℕ). m + n) (ap₂ (λ (m n : ℕ). m + n)
    (eight_apart s r a b x (y + 0) across (down + 0) first second (pos (y + 0) +ℤ p) ea eb (omega (arith, ef)) (omega (arith, es)) (omega (arith, ints)) (omega arith) (omega arith) fx fa)
    (eight_apart s r a b x (y + 1) across (down + 1) (first + w) (second + u) (pos (y + 1) +ℤ p) ea eb (omega (arith, ef, ew)) (omega (arith, es, eu)) (omega (arith, ints)) (omega arith) (omega arith) fx fa))
    (eight_apart s r a b x (y + 2) across (down + 2) (first + 2 * w) (second + 2 * u) (pos (y + 2) +ℤ p) ea eb (omega (arith, ef, ew)) (omega (arith, es, eu)) (omega (arith, ints)) (omega arith) (omega arith) fx fa))
    (eight_apart s r a b x (y + 3) across (down + 3) (first + 3 * w) (second + 3 * u) (pos (y + 3) +ℤ p) ea eb (omega (arith, ef, ew)) (omega (arith, es, eu)) (omega (arith, ints)) (omega arith) (omega arith) fx fa)

-- eight samples of a row, beside eight of a list
eight_beside : (s : Table) (x y from : ℕ) (a b : List ℤ) → IsRowNearest s (pos y) a → x + 8 ≤ s.width → sum_below (apart_at a x b from) 8 ≡ values_apart (row_from s x y) (values_from b from) 8
unfolding apart_at
eight_beside s x y from a b h fits =
    apart_same (values_from a x) (row_from s x y) (values_from b from) (values_from b from) 8
    (λ k l. h (x + k) (omega arith) ∙ ap (λ j. table_at s j (clamped_to (pos y) s.height)) (sym (inside_place (pos (x + k)) (x + k) s.width refl (omega arith))))
    (λ k l. refl)

-- four rows of eight samples beside a list of them, added in lanes
pub four_rows_beside_are : (s : Table) (x y sum : ℕ) (l0 l1 l2 l3 l4 : List ℕ) (a0 a1 a2 a3 b : List ℤ)
    → sum ≡ sum_below (λ k. get_or l4 k 0) 8 → ((k : ℕ) → k < 8 → get_or l0 k 0 ≡ 0)
    → ((k : ℕ) → k < 8 → get_or l1 k 0 ≡ get_or l0 k 0 + apart_at a0 x b 0 k) → ((k : ℕ) → k < 8 → get_or l2 k 0 ≡ get_or l1 k 0 + apart_at a1 x b 8 k)
    → ((k : ℕ) → k < 8 → get_or l3 k 0 ≡ get_or l2 k 0 + apart_at a2 x b 16 k) → ((k : ℕ) → k < 8 → get_or l4 k 0 ≡ get_or l3 k 0 + apart_at a3 x b 24 k)
    → IsRowNearest s (pos y) a0 → IsRowNearest s (pos (y + 1)) a1 → IsRowNearest s (pos (y + 2)) a2 → IsRowNearest s (pos (y + 3)) a3 → x + 8 ≤ s.width
    → sum ≡ four_rows_from s x y b
four_rows_beside_are s x y sum l0 l1 l2 l3 l4 a0 a1 a2 a3 b e none h0 h1 h2 h3 r0 r1 r2 r3 fits =
    let first : y ≡ y + 0 = omega arith in
    e ∙ four_lanes l0 l1 l2 l3 l4 (apart_at a0 x b 0) (apart_at a1 x b 8) (apart_at a2 x b 16) (apart_at a3 x b 24) none h0 h1 h2 h3
    ∙ ap₂ (λ (a b : ℕ). a + b) (ap₂ (λ (a b : ℕ). a + b) (ap₂ (λ (a b : ℕ). a + b)
    (eight_beside s x y 0 a0 b r0 fits ∙ ap (λ n. values_apart (row_from s x n) (values_from b 0) 8) first)
    (eight_beside s x (y + 1) 8 a1 b r1 fits))
    (eight_beside s x (y + 2) 16 a2 b r2 fits))
    (eight_beside s x (y + 3) 24 a3 b r3 fits)

-- a row of a list of samples to which a vector leads
sub_row_beside : (s : Table) (u : Up) (q x y r : ℕ) (v : Vector) (across down : ℤ) (samples : List ℤ) → r < 4
    → ((j k : ℕ) → j < 4 → k < 8 → get_or samples (8 * j + k) (pos 0) ≡ sub_sample u q (across +ℤ pos (2 ^ q * k)) (down +ℤ pos (2 ^ q * j)))
    → across ≡ pos (2 ^ q * x) +ℤ v.x → down ≡ pos (2 ^ q * y) +ℤ v.y → values_apart (row_from s x (y + r)) (values_from samples (8 * r)) 8 ≡ sub_row_apart s u q x (y + r) v 8
unfolding sub_row_apart
sub_row_beside s u q x y r v across down samples few h ea ed =
    let parts : 2 ^ q * (y + r) ≡ 2 ^ q * y + 2 ^ q * r = omega arith in
    let row : down +ℤ pos (2 ^ q * r) ≡ pos (2 ^ q * (y + r)) +ℤ v.y = omega (arith, ints) in
    apart_same (row_from s x (y + r)) (row_from s x (y + r)) (values_from samples (8 * r)) (sub_row_from u q x (y + r) v) 8 (λ k l. refl)
    (λ k l. h r k few l ∙ ap₂ (λ (a b : ℤ). sub_sample u q (a +ℤ pos (2 ^ q * k)) b) ea row)

pub four_sub_rows_told : (s : Table) (u : Up) (q x y sum : ℕ) (v : Vector) (across down : ℤ) (samples : List ℤ) → sum ≡ four_rows_from s x y samples
    → ((j k : ℕ) → j < 4 → k < 8 → get_or samples (8 * j + k) (pos 0) ≡ sub_sample u q (across +ℤ pos (2 ^ q * k)) (down +ℤ pos (2 ^ q * j)))
    → across ≡ pos (2 ^ q * x) +ℤ v.x → down ≡ pos (2 ^ q * y) +ℤ v.y → sum ≡ four_sub_rows_apart s u q x y v
four_sub_rows_told s u q x y sum v across down samples e h ea ed =
    e ∙ ap₂ (λ (a b : ℕ). a + b) (ap₂ (λ (a b : ℕ). a + b) (ap₂ (λ (a b : ℕ). a + b)
    (sub_row_beside s u q x y 0 v across down samples (omega arith) h ea ed)
    (sub_row_beside s u q x y 1 v across down samples (omega arith) h ea ed))
    (sub_row_beside s u q x y 2 v across down samples (omega arith) h ea ed))
    (sub_row_beside s u q x y 3 v across down samples (omega arith) h ea ed)

-- four more numbers
four_more : (f : ℕ → ℕ) (k n : ℕ) → n ≡ k + 1 → sum_below f (4 * n) ≡ (((sum_below f (4 * k) + f (4 * k)) + f (4 * k + 1)) + f (4 * k + 2)) + f (4 * k + 3)
four_more f k n e =
    let m = 4 * k in
    let whole : 4 * n ≡ suc (suc (suc (suc (4 * k)))) = omega arith in
    let one : suc (4 * k) ≡ 4 * k + 1 = omega arith in
    let two : suc (suc (4 * k)) ≡ 4 * k + 2 = omega arith in
    let three : suc (suc (suc (4 * k))) ≡ 4 * k + 3 = omega arith in
    ap (sum_below f) whole
    ∙ ap₂ (λ (a b : ℕ). a + b) (ap₂ (λ (a b : ℕ). a + b) (ap (λ a. (sum_below f m + f m) + a) (ap f one)) (ap f two)) (ap f three)

-- a row of a window of eight columns
row_is : (s r : Table) (w : Window) (v : Vector) (y y' : ℕ) (across p : ℤ) → y ≡ y' → across ≡ pos w.x +ℤ v.x → p ≡ v.y → w.columns ≡ 8
    → row_apart s r (pos w.x) (pos y) across (pos y +ℤ p) 8 ≡ row_apart s r (pos w.x) (pos y') (pos w.x +ℤ v.x) (pos y' +ℤ v.y) w.columns
row_is s r w v y y' across p ey ea ep ec =
    ap (λ n. row_apart s r (pos w.x) (pos n) across (pos n +ℤ p) 8) ey
    ∙ ap₂ (λ (a q : ℤ). row_apart s r (pos w.x) (pos y') a (pos y' +ℤ q) 8) ea ep
    ∙ ap (row_apart s r (pos w.x) (pos y') (pos w.x +ℤ v.x) (pos y' +ℤ v.y)) (sym ec)

-- four more rows of a window
pub four_more_rows : (s r : Table) (w : Window) (v : Vector) (across : ℕ) (p : ℤ) (k n sum y : ℕ) → y ≡ w.y + 4 * k → pos across ≡ pos w.x +ℤ v.x → p ≡ v.y → w.columns ≡ 8 → n ≡ k + 1
    → sum ≡ four_rows_apart s r w.x across y p 8 → whole_rows s r w v (4 * k) + sum ≡ whole_rows s r w v (4 * n)
four_more_rows s r w v across p k n sum y ey ea ep ec en e =
    let f : ℕ → ℕ = λ i. row_apart s r (pos w.x) (pos (w.y + i)) (pos w.x +ℤ v.x) (pos (w.y + i) +ℤ v.y) w.columns in
    let e0 = row_is s r w v (y + 0) (w.y + 4 * k) (pos across) p (omega arith) ea ep ec in
    let e1 = row_is s r w v (y + 1) (w.y + (4 * k + 1)) (pos across) p (omega arith) ea ep ec in
    let e2 = row_is s r w v (y + 2) (w.y + (4 * k + 2)) (pos across) p (omega arith) ea ep ec in
    let e3 = row_is s r w v (y + 3) (w.y + (4 * k + 3)) (pos across) p (omega arith) ea ep ec in
    let rows : sum ≡ ((f (4 * k) + f (4 * k + 1)) + f (4 * k + 2)) + f (4 * k + 3) = e ∙ ap₂ (λ (a b : ℕ). a + b) (ap₂ (λ (a b : ℕ). a + b) (ap₂ (λ (a b : ℕ). a + b) e0 e1) e2) e3 in
    sum_up (sum_below f (4 * k)) (f (4 * k)) (f (4 * k + 1)) (f (4 * k + 2)) (f (4 * k + 3)) sum rows ∙ sym (four_more f k n en)
  where
    sum_up : (t a b c d m : ℕ) → m ≡ ((a + b) + c) + d → t + m ≡ (((t + a) + b) + c) + d
    sum_up t a b c d m e = omega arith

-- the same in parts of a sample
sub_row_at : (s : Table) (u : Up) (q : ℕ) (w : Window) (v : Vector) (y y' : ℕ) → y ≡ y' → w.columns ≡ 8 → sub_row_apart s u q w.x y v 8 ≡ sub_row_apart s u q w.x y' v w.columns
sub_row_at s u q w v y y' ey ec = ap (λ n. sub_row_apart s u q w.x n v 8) ey ∙ ap (sub_row_apart s u q w.x y' v) (sym ec)

pub four_more_sub_rows : (s : Table) (u : Up) (q : ℕ) (w : Window) (v : Vector) (k n sum y : ℕ) → y ≡ w.y + 4 * k → w.columns ≡ 8 → n ≡ k + 1
    → sum ≡ four_sub_rows_apart s u q w.x y v → sub_rows s u q w v (4 * k) + sum ≡ sub_rows s u q w v (4 * n)
four_more_sub_rows s u q w v k n sum y ey ec en e =
    let f : ℕ → ℕ = λ i. sub_row_apart s u q w.x (w.y + i) v w.columns in
    let e0 = sub_row_at s u q w v (y + 0) (w.y + 4 * k) (omega arith) ec in
    let e1 = sub_row_at s u q w v (y + 1) (w.y + (4 * k + 1)) (omega arith) ec in
    let e2 = sub_row_at s u q w v (y + 2) (w.y + (4 * k + 2)) (omega arith) ec in
    let e3 = sub_row_at s u q w v (y + 3) (w.y + (4 * k + 3)) (omega arith) ec in
    let rows : sum ≡ ((f (4 * k) + f (4 * k + 1)) + f (4 * k + 2)) + f (4 * k + 3) = e ∙ ap₂ (λ (a b : ℕ). a + b) (ap₂ (λ (a b : ℕ). a + b) (ap₂ (λ (a b : ℕ). a + b) e0 e1) e2) e3 in
    sum_up (sum_below f (4 * k)) (f (4 * k)) (f (4 * k + 1)) (f (4 * k + 2)) (f (4 * k + 3)) sum rows ∙ sym (four_more f k n en)
  where
    sum_up : (t a b c d m : ℕ) → m ≡ ((a + b) + c) + d → t + m ≡ (((t + a) + b) + c) + d
    sum_up t a b c d m e = omega arith
