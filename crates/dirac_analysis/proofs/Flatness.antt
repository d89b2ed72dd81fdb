-- Which codeblocks are flat, and which are skipped: the greatest magnitude of a codeblock tells both.
use Rattle.std.proofs.Common.{◌≡◌, ℕ, zero, suc, ℤ, pos, negsuc, ◌+◌, ◌-◌, ◌*◌, ◌/◌, ◌%◌, ◌^◌, ◌==◌, ◌<◌, ◌≤◌, ◌&&◌, if◌then◌else◌, nat_lt, unsigned_abs, Bool, true, false, Decides, List, length, set, get_or, refl, sym, ap, ◌∙◌, subst, arith, inl, inr}
use Rattle.std.proofs.lemmas.Bool.{cases_lt, false≢true}
use Rattle.std.proofs.lemmas.Bool.Decides.{Decides-below_and, Decides-ltb, same_from_decides}
use Rattle.std.proofs.lemmas.List.{get_or-set_other, get_or-set_same}
use Rattle.std.proofs.lemmas.Nat.{div-add-mod', div_below, mod_below, pow_pos}
use Rattle.dirac_common.specs.Table.{Table, row_of, table_at}
use Rattle.dirac_common.proofs.Rows.{filled_at, row_at}
use Rattle.dirac_quant.specs.Quantiser.{factor_of, reduced, with_sign_of}
use Rattle.dirac_bands.specs.Geometry.{edge_of}
use Rattle.dirac_coeffs.specs.Contexts.{is_zero}
use Rattle.dirac_coeffs.specs.Written.{all_below}
use Rattle.dirac_coeffs.proofs.Edges.{edge_most}
use Rattle.dirac_synthesis.specs.Codeblocks.{codeblock_of}
use Rattle.dirac_synthesis.proofs.ByCodeblock.{only}
use Rattle.dirac_coeffs.specs.Layouts.{is_parted}
use Rattle.dirac_analysis.specs.Coded.{chosen_at, chosen_index, each_passes, index_behind, is_flat, is_skipped, is_small, reduced_at, reduced_table}

-- ---- tests of all values of a codeblock

all_decides : (p : ℕ → Bool) (P : ℕ → Type 0) → ((k : ℕ) → Decides (p k) (P k)) → (n : ℕ) → Decides (all_below p n) ((k : ℕ) → k < n → P k)
unfolding all_below
all_decides p P each n = Decides-below_and p P (all_below p) each refl (λ m. refl) n

-- places by how far they are from an edge
from_edges : (P : ℕ → ℕ → Type 0) (left right top bottom : ℕ) → ((i : ℕ) → i < right - left → (j : ℕ) → j < bottom - top → P (left + i) (top + j))
    → (x y : ℕ) → left ≤ x → x < right → top ≤ y → y < bottom → P x y
from_edges P left right top bottom each x y l r u d =
    let column : left + (x - left) ≡ x = omega arith in
    let row : top + (y - top) ≡ y = omega arith in
    subst (λ z. P z y) column (subst (P (left + (x - left))) row (each (x - left) (omega arith) (y - top) (omega arith)))

between_edges : (P : ℕ → ℕ → Type 0) (left right top bottom : ℕ) → ((x y : ℕ) → left ≤ x → x < right → top ≤ y → y < bottom → P x y)
    → (i : ℕ) → i < right - left → (j : ℕ) → j < bottom - top → P (left + i) (top + j)
between_edges P left right top bottom each i l j k = each (left + i) (top + j) (omega arith) (omega arith) (omega arith) (omega arith)

-- the values of codeblock cx of row cy have a property
abbrev pub InBlock : (ℤ → Type 0) → ℕ × ℕ → Table → ℕ → ℕ → Type 0
InBlock P counts t cy cx =
    (x y : ℕ) → edge_of t.width counts.0 cx ≤ x → x < edge_of t.width counts.0 (cx + 1) → edge_of t.height counts.1 cy ≤ y → y < edge_of t.height counts.1 (cy + 1) → P (table_at t x y)

pub each_decides : (p : ℤ → Bool) (P : ℤ → Type 0) → ((v : ℤ) → Decides (p v) (P v)) → (counts : ℕ × ℕ) (t : Table) (cy cx : ℕ) → Decides (each_passes p counts t cy cx) (InBlock P counts t cy cx)
each_decides p P each counts t cy cx =
    let left : ℕ = edge_of t.width counts.0 cx in
    let right : ℕ = edge_of t.width counts.0 (cx + 1) in
    let top : ℕ = edge_of t.height counts.1 cy in
    let bottom : ℕ = edge_of t.height counts.1 (cy + 1) in
    let at : ℕ → ℕ → ℤ = λ i j. table_at t (left + i) (top + j) in
    let d =
    all_decides (λ i. all_below (λ j. p (at i j)) (bottom - top)) (λ i. (j : ℕ) → j < bottom - top → P (at i j))
    (λ i. all_decides (λ j. p (at i j)) (λ j. P (at i j)) (λ j. each (at i j)) (bottom - top)) (right - left) in
    (λ e. from_edges (λ x y. P (table_at t x y)) left right top bottom (d.0 e), λ h. d.1 (between_edges (λ x y. P (table_at t x y)) left right top bottom h))

-- ---- which coefficients become 0

-- a step is at least 1
least_factor : (a b c : Bool) (p : ℕ) → 0 < p → 4 ≤ (if a then 4 * p else if b then (503829 * p + 52958) / 105917 else if c then (665857 * p + 58854) / 117708 else (440253 * p + 32722) / 65444)
least_factor true b c p some = omega arith
least_factor false true c p some = omega arith
least_factor false false true p some = omega arith
least_factor false false false p some = omega arith

pub factor_least : (index : ℕ) → 4 ≤ factor_of index
factor_least index = least_factor (index % 4 == 0) (index % 4 == 1) (index % 4 == 2) (2 ^ (index / 4)) (pow_pos (index / 4))

quotient_none : (a d : ℕ) → 0 < d → a / d ≡ 0 → a < d
quotient_none a d some none =
    let parts : a / d * d + a % d ≡ a = div-add-mod' a d in
    let nothing : a / d * d ≡ 0 * d = ap (λ q. q * d) none in
    omega (arith, parts, nothing, mod_below a d some)

none_quotient : (a d : ℕ) → 0 < d → a < d → a / d ≡ 0
none_quotient a d some l =
    let least : a / d < 1 = div_below a d 1 some (omega (arith, l)) in
    omega (arith, least)

signed_zero : (v : ℤ) (q : ℕ) → Decides (is_zero (with_sign_of v q)) (q ≡ 0)
signed_zero (pos n) zero = (λ e. refl, λ e. refl)
signed_zero (pos n) (suc q) = (λ e. absurd (false≢true e), λ e. absurd (omega arith))
signed_zero (negsuc n) zero = (λ e. refl, λ e. refl)
signed_zero (negsuc n) (suc q) = (λ e. absurd (false≢true e), λ e. absurd (omega arith))

pub zero_decides : (index : ℕ) (v : ℤ) → Decides (is_zero (reduced v index)) (4 * unsigned_abs v < factor_of index)
zero_decides index v =
    let some : 0 < factor_of index = omega (arith, factor_least index) in
    let d = signed_zero v (4 * unsigned_abs v / factor_of index) in
    (λ e. quotient_none (4 * unsigned_abs v) (factor_of index) some (d.0 e), λ l. d.1 (none_quotient (4 * unsigned_abs v) (factor_of index) some l))

-- ---- the numbers of a codeblock

-- its coefficients are quantised with its index
pub number_in : (counts : ℕ × ℕ) (finer index : ℕ) (t : Table) (cy cx x y : ℕ) → cx < counts.0 → cy < counts.1
    → edge_of t.width counts.0 cx ≤ x → x < edge_of t.width counts.0 (cx + 1) → edge_of t.height counts.1 cy ≤ y → y < edge_of t.height counts.1 (cy + 1)
    → table_at (reduced_table counts finer index t) x y ≡ reduced (table_at t x y) (chosen_index counts finer index t cy cx)
number_in counts finer index t cy cx x y la lb l r u d =
    let inside : x < t.width = omega (arith, r, edge_most t.width counts.0 (cx + 1) (omega (arith, la)) (omega (arith, la))) in
    let under : y < t.height = omega (arith, d, edge_most t.height counts.1 (cy + 1) (omega (arith, lb)) (omega (arith, lb))) in
    let column : cx ≡ codeblock_of t.width counts.0 x = only t.width counts.0 x cx (omega (arith, la)) inside (record { among = la; from = l; to = r }) in
    let row : cy ≡ codeblock_of t.height counts.1 y = only t.height counts.1 y cy (omega (arith, lb)) under (record { among = lb; from = u; to = d }) in
    filled_at (reduced_at counts finer index t) t.width t.height x y inside under
    ∙ ap (λ c. reduced (table_at t x y) (chosen_index counts finer index t c (codeblock_of t.width counts.0 x))) (sym row)
    ∙ ap (λ c. reduced (table_at t x y) (chosen_index counts finer index t cy c)) (sym column)

-- they are zeros where none of its coefficients reaches the first step
zeros_decide : (counts : ℕ × ℕ) (finer index : ℕ) (t : Table) (cy cx : ℕ) → cx < counts.0 → cy < counts.1
    → Decides (each_passes is_zero counts (reduced_table counts finer index t) cy cx) (InBlock (λ v. 4 * unsigned_abs v < factor_of (chosen_index counts finer index t cy cx)) counts t cy cx)
zeros_decide counts finer index t cy cx la lb =
    let numbers : Table = reduced_table counts finer index t in
    let chosen : ℕ = chosen_index counts finer index t cy cx in
    let d = each_decides is_zero (λ v. is_zero v ≡ true) (λ v. (λ e. e, λ e. e)) counts numbers cy cx in (
      λ e x y l r u b.
          (zero_decides chosen (table_at t x y)).0 (ap is_zero (sym (number_in counts finer index t cy cx x y la lb l r u b)) ∙ d.0 e x y l r u b),
      λ h. d.1 (λ x y l r u b. ap is_zero (number_in counts finer index t cy cx x y la lb l r u b) ∙ (zero_decides chosen (table_at t x y)).1 (h x y l r u b)),
    )

-- ---- the greatest magnitude of a codeblock

pub record IsPeak (counts : ℕ × ℕ) (t : Table) (cy cx m : ℕ) : Type 0 where
  pub bounds : InBlock (λ v. unsigned_abs v ≤ m) counts t cy cx
  pub least : (limit : ℕ) → InBlock (λ v. unsigned_abs v ≤ limit) counts t cy cx → m ≤ limit

-- whether a codeblock is flat
pub flat_is : (counts : ℕ × ℕ) (t : Table) (cy cx m : ℕ) → IsPeak counts t cy cx m → nat_lt m 64 ≡ is_flat counts t cy cx
flat_is counts t cy cx m peak =
    let d = Decides-ltb m 64 in
    same_from_decides (nat_lt m 64) (is_flat counts t cy cx) (
      λ e x y l r u b. omega (arith, peak.bounds x y l r u b, d.0 e),
      λ h. d.1 (let most : m ≤ 63 = peak.least 63 (λ x y l r u b. omega (arith, h x y l r u b)) in omega arith),
    )
    (each_decides is_small (λ v. unsigned_abs v < 64) (λ v. Decides-ltb (unsigned_abs v) 64) counts t cy cx)

-- and whether its numbers are zeros
pub zeros_are : (counts : ℕ × ℕ) (finer index : ℕ) (t : Table) (cy cx m f : ℕ) → cx < counts.0 → cy < counts.1 → f ≡ factor_of (chosen_index counts finer index t cy cx) → IsPeak counts t cy cx m
    → nat_lt (4 * m) f ≡ each_passes is_zero counts (reduced_table counts finer index t) cy cx
zeros_are counts finer index t cy cx m f la lb is peak =
    let factor : ℕ = factor_of (chosen_index counts finer index t cy cx) in
    let d = Decides-ltb (4 * m) factor in
    let some : 4 ≤ factor = factor_least (chosen_index counts finer index t cy cx) in
    ap (nat_lt (4 * m)) is
    ∙ same_from_decides (nat_lt (4 * m) factor) (each_passes is_zero counts (reduced_table counts finer index t) cy cx) (
      λ e x y l r u b. omega (arith, peak.bounds x y l r u b, d.0 e),
      λ h. d.1 (let most : m ≤ (factor - 1) / 4 = peak.least ((factor - 1) / 4) (λ x y l r u b. omega (arith, h x y l r u b)) in omega (arith, some)),
    )
    (zeros_decide counts finer index t cy cx la lb)

-- ---- a codeblock by its place

pub place_among : (counts : ℕ × ℕ) (c : ℕ) → 1 ≤ counts.0 → c < counts.0 * counts.1 → (c % counts.0 < counts.0) × (c / counts.0 < counts.1)
place_among counts c some l = (mod_below c counts.0 (omega (arith, some)), div_below c counts.0 counts.1 (omega (arith, some)) (omega (arith, l)))

-- the index that is chosen
pub chosen_is : (counts : ℕ × ℕ) (finer index : ℕ) (t : Table) (c m i : ℕ) → IsPeak counts t (c / counts.0) (c % counts.0) m → i ≡ (if nat_lt m 64 then index - finer else index) → i ≡ chosen_at counts finer index t c
chosen_is counts finer index t c m i peak is = is ∙ ap (λ b. if b then index - finer else index) (flat_is counts t (c / counts.0) (c % counts.0) m peak)

-- whether it is skipped
pub skipped_is : (counts : ℕ × ℕ) (finer index : ℕ) (t : Table) (c m i f : ℕ) (parted : Bool) → 1 ≤ counts.0 → c < counts.0 * counts.1 → IsPeak counts t (c / counts.0) (c % counts.0) m
    → i ≡ chosen_at counts finer index t c → f ≡ factor_of i → parted ≡ is_parted counts → (parted && nat_lt (4 * m) f) ≡ is_skipped counts (reduced_table counts finer index t) c
skipped_is counts finer index t c m i f parted some l peak is factor has =
    let among = place_among counts c some l in
    ap (λ b. b && nat_lt (4 * m) f) has
    ∙ ap (λ b. is_parted counts && b) (zeros_are counts finer index t (c / counts.0) (c % counts.0) m f among.0 among.1 (factor ∙ ap factor_of is) peak)

-- the index behind it
pub behind_more : (counts : ℕ × ℕ) (finer index : ℕ) (t : Table) (c before i n : ℕ) (skipped : Bool) → before ≡ index_behind counts finer index t c → i ≡ chosen_at counts finer index t c
    → skipped ≡ is_skipped counts (reduced_table counts finer index t) c → n ≡ (if skipped then before else i) → n ≡ index_behind counts finer index t (suc c)
unfolding index_behind
behind_more counts finer index t c before i n skipped eb ei es en =
    en
    ∙ ap (λ s. if s then before else i) es
    ∙ ap (λ b. if is_skipped counts (reduced_table counts finer index t) c then b else i) eb
    ∙ ap (λ j. if is_skipped counts (reduced_table counts finer index t) c then index_behind counts finer index t c else j) ei

-- ---- the greatest magnitude so far

pub bounds_more : (row : List ℤ) (left x old new : ℕ) → old ≤ new → unsigned_abs (get_or row x (pos 0)) ≤ new
    → ((k : ℕ) → left ≤ k → k < x → unsigned_abs (get_or row k (pos 0)) ≤ old) → (k : ℕ) → left ≤ k → k < x + 1 → unsigned_abs (get_or row k (pos 0)) ≤ new
bounds_more row left x old new grows here before k l u = elim (cases_lt k x) [
  | inl less ↦ omega (arith, before k l less)
  | inr next ↦ let same : x ≡ k = omega arith in subst (λ n. unsigned_abs (get_or row n (pos 0)) ≤ new) same here
]

row_value : (t : Table) (row : List ℤ) (x y : ℕ) → row ≡ row_of t y → x < t.width → get_or row x (pos 0) ≡ table_at t x y
row_value t row x y is l = ap (λ xs. get_or xs x (pos 0)) is ∙ row_at t x y l

pub rows_bounds : (t : Table) (row : List ℤ) (left right top y old new : ℕ) → row ≡ row_of t y → right ≤ t.width → old ≤ new
    → ((x k : ℕ) → left ≤ x → x < right → top ≤ k → k < y → unsigned_abs (table_at t x k) ≤ old)
    → ((x : ℕ) → left ≤ x → x < right → unsigned_abs (get_or row x (pos 0)) ≤ new)
    → (x k : ℕ) → left ≤ x → x < right → top ≤ k → k < y + 1 → unsigned_abs (table_at t x k) ≤ new
rows_bounds t row left right top y old new is inside grows before here x k l r u d = elim (cases_lt k y) [
  | inl less ↦ omega (arith, before x k l r u less)
  | inr next ↦
      let same : y ≡ k = omega arith in
      subst (λ n. unsigned_abs (table_at t x n) ≤ new) same (subst (λ v. unsigned_abs v ≤ new) (row_value t row x y is (omega arith)) (here x l r))
]

pub rows_least : (t : Table) (row : List ℤ) (left right top bottom y limit : ℕ) → row ≡ row_of t y → right ≤ t.width → top ≤ y → y < bottom
    → ((x k : ℕ) → left ≤ x → x < right → top ≤ k → k < bottom → unsigned_abs (table_at t x k) ≤ limit)
    → (x : ℕ) → left ≤ x → x < right → unsigned_abs (get_or row x (pos 0)) ≤ limit
rows_least t row left right top bottom y limit is inside u d all x l r = subst (λ v. unsigned_abs v ≤ limit) (sym (row_value t row x y is (omega arith))) (all x y l r u d)

-- ---- a list whose next element is written

pub set_more : (f : ℕ → ℕ) (old new : List ℕ) (c v : ℕ) → new ≡ set old c v → c < length old → v ≡ f c → ((k : ℕ) → k < c → get_or old k 0 ≡ f k) → (k : ℕ) → k < c + 1 → get_or new k 0 ≡ f k
set_more f old new c v e inside is before k l = elim (cases_lt k c) [
  | inl less ↦ ap (λ xs. get_or xs k 0) e ∙ get_or-set_other old c k v 0 (λ same. omega arith) ∙ before k less
  | inr next ↦ let same : c ≡ k = omega arith in subst (λ n. get_or new n 0 ≡ f n) same (ap (λ xs. get_or xs c 0) e ∙ get_or-set_same old c v 0 inside ∙ is)
]
