-- Sums of absolute differences: rows of windows, and windows of a search.
use Rattle.std.proofs.Common.{◌≡◌, ℕ, ℤ, pos, negsuc, to_z, of_z, ◌+◌, ◌*◌, ◌^◌, ◌<◌, ◌≤◌, ◌+ℤ◌, ◌-ℤ◌, ◌≤ℤ◌, unsigned_abs, List, length, get_or, refl, ap, ap₂, sym, ◌∙◌, arith}
use Rattle.std.specs.Int.{w32}
use Rattle.std.proofs.lemmas.Int.{ints, to_z-of_z}
use Rattle.dirac_common.specs.Table.{Table, table_at, clamped_to, clamped_at}
use Rattle.dirac_common.specs.declared.formats.Vector.{Vector}
use Rattle.dirac_upconvert.specs.SubSamples.{Up, sub_sample}
use Rattle.dirac_costs.specs.Bits.{bits_of_vector}
use Rattle.dirac_costs.specs.Sums.{sum_below}
use Rattle.dirac_costs.specs.Windows.{row_from, values_apart, values_from}
use Rattle.dirac_costs.specs.declared.window.Window.{Window}
use Rattle.dirac_costs.proofs.Sums.{sum_same}
use Rattle.dirac_pyramid.specs.Pyramid.{no_plane}
use Rattle.dirac_search.specs.declared.stage.Stage.{Stage}
use Rattle.dirac_search.specs.declared.stage.Stage.TheVariants as stage
use Rattle.dirac_search.specs.Costs.{difference, distortion, window_cost}
use Rattle.dirac_search.specs.Given.{Searched}
use Rattle.dirac_search.specs.Rows.{IsRowNearest, clamped_row, row_apart, sub_row_apart, sub_row_from, sub_rows, whole_row_apart, whole_rows}

-- rows of equal values are equally far apart
pub apart_same : (f f' g g' : ℕ → ℤ) (count : ℕ) → ((k : ℕ) → k < count → f k ≡ f' k) → ((k : ℕ) → k < count → g k ≡ g' k) → values_apart f g count ≡ values_apart f' g' count
apart_same f f' g g' count hf hg =
    sum_same (λ k. unsigned_abs (f k -ℤ g k)) (λ k. unsigned_abs (f' k -ℤ g' k)) count (λ k l. ap₂ (λ (p q : ℤ). unsigned_abs (p -ℤ q)) (hf k l) (hg k l))

pub inside_place : (x : ℤ) (i size : ℕ) → x ≡ pos i → i < size → clamped_to x size ≡ i
inside_place x i size e l = rw e (grind (arith, ints))

-- a sample of a row of a table
row_place : (t : Table) (row : List ℤ) (x y : ℤ) (first k count : ℕ) → IsRowNearest t y row
    → x ≡ pos first → (x +ℤ pos count) ≤ℤ pos t.width → k < count → values_from row first k ≡ clamped_row t x y k
row_place t row x y first k count h e fits l =
    let inside : first + k < t.width = omega (arith, ints) in
    let place : x +ℤ pos k ≡ pos (first + k) = omega (arith, ints) in
    h (first + k) inside ∙ ap (λ j. table_at t j (clamped_to y t.height)) (sym (inside_place (x +ℤ pos k) (first + k) t.width place inside))

-- rows of two tables that have all these samples
pub rows_inside : (s r : Table) (x y across down : ℤ) (a b : List ℤ) (first second count : ℕ) → IsRowNearest s y a → IsRowNearest r down b
    → x ≡ pos first → across ≡ pos second → (x +ℤ pos count) ≤ℤ pos s.width → (across +ℤ pos count) ≤ℤ pos r.width
    → values_apart (values_from a first) (values_from b second) count ≡ row_apart s r x y across down count
unfolding row_apart
rows_inside s r x y across down a b first second count ha hb ex ea fx fa =
    apart_same (values_from a first) (clamped_row s x y) (values_from b second) (clamped_row r across down) count
    (λ k l. row_place s a x y first k count ha ex fx l) (λ k l. row_place r b across down second k count hb ea fa l)

-- a row of the source and samples that were written to a list
pub sub_row_told : (s : Table) (u : Up) (q x y sum : ℕ) (v : Vector) (across down across' down' : ℤ) (samples : List ℤ) (n : ℕ)
    → sum ≡ values_apart (row_from s x y) (values_from samples 0) (length samples) → length samples ≡ n
    → ((k : ℕ) → k < n → get_or samples k (pos 0) ≡ sub_sample u q (across' +ℤ pos (2 ^ q * k)) down')
    → across' ≡ across → down' ≡ down → across ≡ pos (2 ^ q * x) +ℤ v.x → down ≡ pos (2 ^ q * y) +ℤ v.y
    → sum ≡ sub_row_apart s u q x y v n
unfolding sub_row_apart
sub_row_told s u q x y sum v across down across' down' samples n e len h ea ed eva evd =
    e ∙ ap (values_apart (row_from s x y) (values_from samples 0)) len
    ∙ apart_same (row_from s x y) (row_from s x y) (values_from samples 0) (sub_row_from u q x y v) n (λ k l. refl)
    (λ k l. ap (λ j. get_or samples j (pos 0)) (from_first k) ∙ h k l ∙ ap₂ (λ (a b : ℤ). sub_sample u q (a +ℤ pos (2 ^ q * k)) b) (ea ∙ eva) (ed ∙ evd))
  where
    from_first : (k : ℕ) → 0 + k ≡ k
    from_first k = omega arith

-- a component of a vector, through its bits
pub plain_component : (v : ℤ) → unsigned_abs v ≤ 2 ^ 24 → to_z w32 (of_z w32 v) ≡ v
plain_component (pos n) h = to_z-of_z w32 (pos n) (record { sfits = omega arith })
plain_component (negsuc n) h = to_z-of_z w32 (negsuc n) (record { sfits = omega arith })

-- a row of whole samples
whole_row_is : (g : Searched) (l : ℕ) (v : Vector) (x y count : ℕ) (s r : Table) → s ≡ get_or g.source l no_plane → r ≡ get_or g.reference l no_plane
    → whole_row_apart s r x y v count ≡ sum_below (λ k. difference g (stage.Coarse l) v (x + k) y) count
unfolding row_apart difference
whole_row_is g l v x y count s r es er =
    ap₂ (λ (a b : Table). values_apart (clamped_row a (pos x) (pos y)) (clamped_row b (pos x +ℤ v.x) (pos y +ℤ v.y)) count) es er
    ∙ apart_same
    (clamped_row (get_or g.source l no_plane) (pos x) (pos y)) (row_from (get_or g.source l no_plane) x y)
    (clamped_row (get_or g.reference l no_plane) (pos x +ℤ v.x) (pos y +ℤ v.y)) (λ k. clamped_at (get_or g.reference l no_plane) (pos (x + k) +ℤ v.x) (pos y +ℤ v.y)) count
    (λ k _. let place : pos x +ℤ pos k ≡ pos (x + k) = omega (arith, ints) in ap (λ a. clamped_at (get_or g.source l no_plane) a (pos y)) place)
    (λ k _. let place : (pos x +ℤ v.x) +ℤ pos k ≡ pos (x + k) +ℤ v.x = omega (arith, ints) in ap (λ a. clamped_at (get_or g.reference l no_plane) a (pos y +ℤ v.y)) place)

-- a row of samples in parts
sub_row_is : (g : Searched) (q : ℕ) (v : Vector) (x y count : ℕ) (s : Table) → s ≡ get_or g.source 0 no_plane
    → sub_row_apart s g.up q x y v count ≡ sum_below (λ k. difference g (stage.Sub q) v (x + k) y) count
unfolding sub_row_apart difference
sub_row_is g q v x y count s es =
    ap (λ (a : Table). values_apart (row_from a x y) (sub_row_from g.up q x y v) count) es
    ∙ apart_same (row_from (get_or g.source 0 no_plane) x y) (row_from (get_or g.source 0 no_plane) x y)
    (sub_row_from g.up q x y v) (λ k. sub_sample g.up q (pos (2 ^ q * (x + k)) +ℤ v.x) (pos (2 ^ q * y) +ℤ v.y)) count (λ k _. refl)
    (λ k _. let parts : 2 ^ q * (x + k) ≡ 2 ^ q * x + 2 ^ q * k = omega arith in
    let place : (pos (2 ^ q * x) +ℤ v.x) +ℤ pos (2 ^ q * k) ≡ pos (2 ^ q * (x + k)) +ℤ v.x = omega (arith, ints) in
    ap (λ a. sub_sample g.up q a (pos (2 ^ q * y) +ℤ v.y)) place)

-- the rows of a window in whole samples
pub rows_whole : (g : Searched) (l : ℕ) (w : Window) (v : Vector) (s r : Table) → s ≡ get_or g.source l no_plane → r ≡ get_or g.reference l no_plane
    → whole_rows s r w v w.rows ≡ distortion g (stage.Coarse l) w v
rows_whole g l w v s r es er =
    sum_same (λ k. whole_row_apart s r w.x (w.y + k) v w.columns) (λ k. sum_below (λ x. difference g (stage.Coarse l) v (w.x + x) (w.y + k)) w.columns) w.rows
    (λ k _. whole_row_is g l v w.x (w.y + k) w.columns s r es er)

-- and in parts of a sample
pub rows_sub : (g : Searched) (q : ℕ) (w : Window) (v : Vector) (s : Table) → s ≡ get_or g.source 0 no_plane → sub_rows s g.up q w v w.rows ≡ distortion g (stage.Sub q) w v
rows_sub g q w v s es =
    sum_same (λ r. sub_row_apart s g.up q w.x (w.y + r) v w.columns) (λ r. sum_below (λ x. difference g (stage.Sub q) v (w.x + x) (w.y + r)) w.columns) w.rows
    (λ r _. sub_row_is g q v w.x (w.y + r) w.columns s es)

-- what the bits cost and the differences are the cost
pub cost_is : (g : Searched) (bias : ℕ) (st : Stage) (w : Window) (v : Vector) (bits : ℕ) → bits ≡ bias * bits_of_vector v → bits + distortion g st w v ≡ window_cost g bias st w v
unfolding window_cost
cost_is g bias st w v bits e = ap (λ b. b + distortion g st w v) e

-- a finer level costs as a coarse one
pub finer_cost : (g : Searched) (bias l : ℕ) (w : Window) (v : Vector) → window_cost g bias (stage.Coarse l) w v ≡ window_cost g bias (stage.Finer l) w v
unfolding window_cost difference
finer_cost g bias l w v = refl
