-- What holds of bands whose flat codeblocks are quantised finer.
use Rattle.std.proofs.Common.{◌≡◌, ℕ, zero, suc, ℤ, pos, negsuc, ◌+◌, ◌-◌, ◌*◌, ◌/◌, ◌%◌, ◌^◌, ◌<◌, ◌≤◌, ◌&&◌, if◌then◌else◌, unsigned_abs, Bool, true, false, List, length, map, replicate, get_or, refl, sym, ap, ◌∙◌, subst, arith, ne_eqb}
use Rattle.std.specs.List.{All}
use Rattle.std.proofs.lemmas.Bool.{false≢true}
use Rattle.std.proofs.lemmas.List.{get_or_default, get_or-map, get_or-replicate, length-map, length-replicate}
use Rattle.std.proofs.lemmas.List.FromFn.{fill_by_all, get_or-map-range_with_len, length-map-range_with_len}
use Rattle.std.proofs.lemmas.Nat.{div-add-mod', div-mul-add, div_below, mod-mul-add, mul-le}
use Rattle.dirac_common.specs.Limits.{IsIndex}
use Rattle.dirac_common.specs.declared.formats.Band.{Band}
use Rattle.dirac_common.specs.Table.{Table, filled, table_at}
use Rattle.dirac_common.proofs.Bounds.{told_bound}
use Rattle.dirac_quant.specs.Quantiser.{factor_of, reduced, with_sign_of}
use Rattle.dirac_coeffs.specs.declared.layout.BandLayout.{BandLayout}
use Rattle.dirac_coeffs.specs.declared.layout.CodedBand.{CodedBand}
use Rattle.dirac_coeffs.specs.Contexts.{is_zero}
use Rattle.dirac_coeffs.specs.Grammar.{IsCodedBand}
use Rattle.dirac_coeffs.specs.Indices.{all_equal, index_at, index_before, place_of}
use Rattle.dirac_coeffs.specs.Written.{AreIndicesOf, is_zero_band}
use Rattle.dirac_coeffs.proofs.Indexed.{equal_same, place_inside}
use Rattle.dirac_synthesis.specs.Codeblocks.{codeblock_of}
use Rattle.dirac_synthesis.proofs.ByCodeblock.{value_small}
use Rattle.dirac_coeffs.specs.Layouts.{is_parted}
use Rattle.dirac_analysis.specs.Coded.{chosen_at, chosen_index, coded, coded_as, coded_by_one, coded_indices, each_passes, index_behind, is_flat, is_skipped, reduced_at, reduced_table}
use Rattle.dirac_analysis.specs.Fits.{IsLaidOut, IsLevelBand}
use Rattle.dirac_analysis.proofs.Flatness.{factor_least}

-- ---- one index for all codeblocks

either_is : (b : Bool) (x y i : ℕ) → x ≡ i → y ≡ i → (if b then x else y) ≡ i
either_is true x y i ex ey = ex
either_is false x y i ex ey = ey

-- none is lower
pub chosen_plain : (counts : ℕ × ℕ) (index : ℕ) (t : Table) (cy cx : ℕ) → chosen_index counts 0 index t cy cx ≡ index
chosen_plain counts index t cy cx = either_is (is_flat counts t cy cx) (index - 0) index index (omega arith) refl

-- there is none below 0
pub chosen_zero : (counts : ℕ × ℕ) (finer : ℕ) (t : Table) (cy cx : ℕ) → chosen_index counts finer 0 t cy cx ≡ 0
chosen_zero counts finer t cy cx = either_is (is_flat counts t cy cx) (0 - finer) 0 0 (omega arith) refl

-- where all codeblocks are quantised with one index, so are all coefficients
pub numbers_by_one : (counts : ℕ × ℕ) (finer index i : ℕ) (t : Table) → length t.values ≡ t.width * t.height → ((cy cx : ℕ) → chosen_index counts finer index t cy cx ≡ i)
    → (reduced_table counts finer index t).values ≡ map (λ v. reduced v i) t.values
unfolding filled
numbers_by_one counts finer index i t len one =
    let w = t.width in
    let h = t.height in
    let g : ℤ → ℤ = λ v. reduced v i in
    let f : ℕ → ℕ → ℤ = reduced_at counts finer index t in
    sym
    (fill_by_all (λ p. f (p % w) (p / w)) (map g t.values) (w * h) (pos 0) (length-map t.values g ∙ len) (λ p l.
    get_or-map g t.values p (pos 0) (pos 0) (omega (arith, l, len))
    ∙ ap (λ k. reduced (get_or t.values k (pos 0)) i) (sym (div-add-mod' p w))
    ∙ ap (reduced (table_at t (p % w) (p / w))) (sym (one (codeblock_of h counts.1 (p / w)) (codeblock_of w counts.0 (p % w))))))

behind_by_one : (counts : ℕ × ℕ) (finer index : ℕ) (t : Table) (n : ℕ) → ((cy cx : ℕ) → chosen_index counts finer index t cy cx ≡ index) → index_behind counts finer index t n ≡ index
unfolding index_behind
behind_by_one counts finer index t zero one = refl
behind_by_one counts finer index t (suc c) one =
    either_is (is_skipped counts (reduced_table counts finer index t) c) (index_behind counts finer index t c) (chosen_at counts finer index t c) index (behind_by_one counts finer index t c one) (one (c / counts.0) (c % counts.0))

-- and each has the band's index
pub indices_by_one : (counts : ℕ × ℕ) (finer index : ℕ) (t : Table) → ((cy cx : ℕ) → chosen_index counts finer index t cy cx ≡ index) → coded_indices counts finer index t ≡ replicate (counts.0 * counts.1) index
indices_by_one counts finer index t one =
    let n = counts.0 * counts.1 in
    sym (fill_by_all (λ c. index_behind counts finer index t (suc c)) (replicate n index) n 0 (length-replicate n index) (λ k l. get_or-replicate n k index 0 l ∙ sym (behind_by_one counts finer index t (suc k) one)))

as_one : (b : Bool) (n index : ℕ) (t : Table)
    → (let x : CodedBand = record { index = 0; indices = replicate n 0; table = t } in let y : CodedBand = record { index = index; indices = replicate n index; table = t } in if b then x else y)
    ≡ record { index = if b then 0 else index; indices = replicate n (if b then 0 else index); table = t }
as_one true n index t = refl
as_one false n index t = refl

coded_with_one : (counts : ℕ × ℕ) (finer index : ℕ) (t : Table) → length t.values ≡ t.width * t.height → ((cy cx : ℕ) → chosen_index counts finer index t cy cx ≡ index) → coded counts finer index t ≡ coded_by_one counts index t
coded_with_one counts finer index t len one =
    let numbers : Table = record { width = t.width; height = t.height; values = map (λ v. reduced v index) t.values } in
    ap (λ is. coded_as counts index is (reduced_table counts finer index t)) (indices_by_one counts finer index t one)
    ∙ ap (λ (vs : List ℤ). let u : Table = record { width = t.width; height = t.height; values = vs } in coded_as counts index (replicate (counts.0 * counts.1) index) u) (numbers_by_one counts finer index index t len one)
    ∙ as_one (is_zero_band numbers.values) (counts.0 * counts.1) index numbers

-- in codeblock mode 0
pub coded_plain : (counts : ℕ × ℕ) (index : ℕ) (t : Table) → length t.values ≡ t.width * t.height → coded counts 0 index t ≡ coded_by_one counts index t
coded_plain counts index t len = coded_with_one counts 0 index t len (chosen_plain counts index t)

-- at index 0
pub coded_zero : (counts : ℕ × ℕ) (finer : ℕ) (t : Table) → length t.values ≡ t.width * t.height → coded counts finer 0 t ≡ coded_by_one counts 0 t
coded_zero counts finer t len = coded_with_one counts finer 0 t len (chosen_zero counts finer t)

-- ---- the indices

either_most : (b : Bool) (x y i : ℕ) → x ≤ i → y ≤ i → (if b then x else y) ≤ i
either_most true x y i lx ly = lx
either_most false x y i lx ly = ly

-- no codeblock's index is above the band's
pub chosen_most : (counts : ℕ × ℕ) (finer index : ℕ) (t : Table) (cy cx : ℕ) → chosen_index counts finer index t cy cx ≤ index
chosen_most counts finer index t cy cx = either_most (is_flat counts t cy cx) (index - finer) index index (omega arith) (omega arith)

pub behind_most : (counts : ℕ × ℕ) (finer index : ℕ) (t : Table) (n : ℕ) → index_behind counts finer index t n ≤ index
unfolding index_behind
behind_most counts finer index t zero = omega arith
behind_most counts finer index t (suc c) =
    either_most (is_skipped counts (reduced_table counts finer index t) c) (index_behind counts finer index t c) (chosen_at counts finer index t c) index (behind_most counts finer index t c) (chosen_most counts finer index t (c / counts.0) (c % counts.0))

pub length-coded_indices : (counts : ℕ × ℕ) (finer index : ℕ) (t : Table) → length (coded_indices counts finer index t) ≡ counts.0 * counts.1
length-coded_indices counts finer index t = length-map-range_with_len (λ c. index_behind counts finer index t (suc c)) 0 (counts.0 * counts.1)

-- the index of a codeblock, and that of the one before it
pub index_is : (counts : ℕ × ℕ) (finer index : ℕ) (t : Table) (c : ℕ) → c < counts.0 * counts.1 → index_at (coded_indices counts finer index t) c ≡ index_behind counts finer index t (suc c)
index_is counts finer index t c l = get_or-map-range_with_len (λ k. index_behind counts finer index t (suc k)) 0 (counts.0 * counts.1) c c 0 l (omega arith)

pub before_is : (counts : ℕ × ℕ) (finer index : ℕ) (t : Table) (c : ℕ) → c < counts.0 * counts.1 → index_before index (coded_indices counts finer index t) c ≡ index_behind counts finer index t c
unfolding index_behind
before_is counts finer index t zero l = refl
before_is counts finer index t (suc c) l =
    let less : suc c - 1 ≡ c = omega arith in
    rw (ne_eqb (suc c) 0 (λ e. omega arith)) (ap (index_at (coded_indices counts finer index t)) less ∙ index_is counts finer index t c (omega arith))

pub indices_lawful : (counts : ℕ × ℕ) (finer index : ℕ) (t : Table) → IsIndex index → All IsIndex (coded_indices counts finer index t)
indices_lawful counts finer index t few k d l =
    let inside : k < counts.0 * counts.1 = omega (arith, l, length-coded_indices counts finer index t) in
    rw (get_or_default (coded_indices counts finer index t) k d 0 l, index_is counts finer index t k inside) (omega (arith, few, behind_most counts finer index t (suc k)))

-- ---- as they are written

-- a band with this table and these counts
abbrev pub layout_for : Band → ℕ → ℕ × ℕ → Table → BandLayout
layout_for band mode counts t = record { band = band; width = t.width; height = t.height; across = counts.0; down = counts.1; mode = mode }

pub layout_is : (l : BandLayout) (counts : ℕ × ℕ) (t : Table) → l.width ≡ t.width → l.height ≡ t.height → l.across ≡ counts.0 → l.down ≡ counts.1 → l ≡ layout_for l.band l.mode counts t
layout_is l counts t ew eh ea ed =
    ap (λ n. let k : BandLayout = record { band = l.band; width = n; height = l.height; across = l.across; down = l.down; mode = l.mode } in k) ew
    ∙ ap (λ n. let k : BandLayout = record { band = l.band; width = t.width; height = n; across = l.across; down = l.down; mode = l.mode } in k) eh
    ∙ ap (λ n. let k : BandLayout = record { band = l.band; width = t.width; height = t.height; across = n; down = l.down; mode = l.mode } in k) ea
    ∙ ap (λ n. let k : BandLayout = record { band = l.band; width = t.width; height = t.height; across = counts.0; down = n; mode = l.mode } in k) ed

both_true : (a b : Bool) → a ≡ true → b ≡ true → (a && b) ≡ true
both_true a b ea eb = rw (ea, eb) refl

-- a skipped codeblock has the index of the one before it
skipped_keeps : (counts : ℕ × ℕ) (finer index : ℕ) (t : Table) (cy cx : ℕ) → cx < counts.0 → is_parted counts ≡ true → each_passes is_zero counts (reduced_table counts finer index t) cy cx ≡ true
    → index_behind counts finer index t (suc (cy * counts.0 + cx)) ≡ index_behind counts finer index t (cy * counts.0 + cx)
unfolding index_behind
skipped_keeps counts finer index t cy cx l parted zeros =
    let c : ℕ = cy * counts.0 + cx in
    let numbers : Table = reduced_table counts finer index t in
    let here : each_passes is_zero counts numbers (c / counts.0) (c % counts.0) ≡ true =
    ap (λ y. each_passes is_zero counts numbers y (c % counts.0)) (div-mul-add cy counts.0 cx l)
    ∙ ap (each_passes is_zero counts numbers cy) (mod-mul-add cy counts.0 cx l)
    ∙ zeros in
    ap (λ b. if b then index_behind counts finer index t c else chosen_at counts finer index t c) (both_true (is_parted counts) (each_passes is_zero counts numbers (c / counts.0) (c % counts.0)) parted here)

-- the coded indices are those of their numbers
indices_fit : (band : Band) (mode : ℕ) (counts : ℕ × ℕ) (finer index : ℕ) (t : Table) → (mode ≡ 0 → finer ≡ 0)
    → AreIndicesOf (layout_for band mode counts t) index (reduced_table counts finer index t).values (coded_indices counts finer index t)
indices_fit band mode counts finer index t plain =
    let layout : BandLayout = layout_for band mode counts t in
    record {
      skipped = λ cy cx h l flagged zeros.
          let inside : place_of layout cy cx < counts.0 * counts.1 = place_inside layout cy cx h l in
          index_is counts finer index t (place_of layout cy cx) inside
          ∙ skipped_keeps counts finer index t cy cx l flagged zeros
          ∙ sym (before_is counts finer index t (place_of layout cy cx) inside);
      plain = λ cy cx h l unmoded.
          let inside : place_of layout cy cx < counts.0 * counts.1 = place_inside layout cy cx h l in
          let one : (a b : ℕ) → chosen_index counts finer index t a b ≡ index = rw (plain unmoded) (chosen_plain counts index t) in
          index_is counts finer index t (place_of layout cy cx) inside
          ∙ behind_by_one counts finer index t (suc (place_of layout cy cx)) one
          ∙ sym (behind_by_one counts finer index t (place_of layout cy cx) one)
          ∙ sym (before_is counts finer index t (place_of layout cy cx) inside);
    }

-- ---- how large the numbers are

steps_within : (m f : ℕ) → 4 ≤ f → 4 * m / f ≤ m
steps_within m f least =
    let quotient : 4 * m / f < m + 1 = div_below (4 * m) f (m + 1) (omega arith) (omega (arith, mul-le (m + 1) 4 (m + 1) f (omega arith) least)) in
    omega (arith, quotient)

signed_within : (v : ℤ) (m : ℕ) → m ≤ unsigned_abs v → unsigned_abs (with_sign_of v m) ≤ unsigned_abs v
signed_within (pos n) m l = l
signed_within (negsuc n) zero l = omega arith
signed_within (negsuc n) (suc m) l = l

reduced_within : (v : ℤ) (index : ℕ) → unsigned_abs (reduced v index) ≤ unsigned_abs v
reduced_within v index = signed_within v (4 * unsigned_abs v / factor_of index) (steps_within (unsigned_abs v) (factor_of index) (factor_least index))

-- they are no larger than the coefficients
pub numbers_small : (counts : ℕ × ℕ) (finer index : ℕ) (t : Table) → All (λ v. unsigned_abs v < 2 ^ 38) t.values → All (λ v. unsigned_abs v < 2 ^ 38) (reduced_table counts finer index t).values
numbers_small counts finer index t small k d l =
    let most : All (λ v. unsigned_abs v ≤ 2 ^ 38 - 1) (reduced_table counts finer index t).values =
    told_bound (2 ^ 38 - 1) t.width t.height (reduced_at counts finer index t) (λ x y. omega (
      arith,
      reduced_within (table_at t x y) (chosen_index counts finer index t (codeblock_of t.height counts.1 y) (codeblock_of t.width counts.0 x)),
      value_small (2 ^ 38) t.values (y * t.width + x) (omega arith) small,
    )) in
    omega (arith, most k d l)

pub length-numbers : (counts : ℕ × ℕ) (finer index : ℕ) (t : Table) → length (reduced_table counts finer index t).values ≡ t.width * t.height
unfolding filled
length-numbers counts finer index t =
    let f : ℕ → ℕ → ℤ = reduced_at counts finer index t in
    length-map-range_with_len (λ p. f (p % t.width) (p / t.width)) 0 (t.width * t.height)

-- ---- a coded band

-- it is a band of zeros, or one with an index
band_cases : (b : Bool) (P : CodedBand → Type 0) (x y : CodedBand) → (b ≡ true → P x) → (b ≡ false → P y) → P (if b then x else y)
band_cases true P x y at_true at_false = at_true refl
band_cases false P x y at_true at_false = at_false refl

coded_cases : (counts : ℕ × ℕ) (finer index : ℕ) (t : Table) (P : CodedBand → Type 0)
    → (is_zero_band (reduced_table counts finer index t).values ≡ true → (let b : CodedBand = record { index = 0; indices = replicate (counts.0 * counts.1) 0; table = reduced_table counts finer index t } in P b))
    → (is_zero_band (reduced_table counts finer index t).values ≡ false → (let b : CodedBand = record { index = index; indices = coded_indices counts finer index t; table = reduced_table counts finer index t } in P b))
    → P (coded counts finer index t)
coded_cases counts finer index t P zeros others =
    let z : CodedBand = record { index = 0; indices = replicate (counts.0 * counts.1) 0; table = reduced_table counts finer index t } in
    let b : CodedBand = record { index = index; indices = coded_indices counts finer index t; table = reduced_table counts finer index t } in
    band_cases (is_zero_band (reduced_table counts finer index t).values) P z b zeros others

pub coded_table : (counts : ℕ × ℕ) (finer index : ℕ) (t : Table) → (coded counts finer index t).table ≡ reduced_table counts finer index t
coded_table counts finer index t = coded_cases counts finer index t (λ b. b.table ≡ reduced_table counts finer index t) (λ z. refl) (λ z. refl)

equal_few : (n i : ℕ) → IsIndex i → All IsIndex (replicate n i)
equal_few n i few k d l =
    let inside : k < n = omega (arith, l, length-replicate n i) in
    rw (get_or_default (replicate n i) k d 0 l, get_or-replicate n k i 0 inside) few

-- the indices of a band of zeros
zero_indices_fit : (band : Band) (mode : ℕ) (counts : ℕ × ℕ) (t : Table) (xs : List ℤ) → AreIndicesOf (layout_for band mode counts t) 0 xs (replicate (counts.0 * counts.1) 0)
zero_indices_fit band mode counts t xs =
    let layout : BandLayout = layout_for band mode counts t in
    record {
      skipped = λ cy cx h l flagged zeros. equal_same layout 0 (all_equal layout 0) cy cx refl h l;
      plain = λ cy cx h l e. equal_same layout 0 (all_equal layout 0) cy cx refl h l;
    }

-- it is one of its level
pub coded_fits : (counts : ℕ × ℕ) (finer index : ℕ) (t : Table) → index ≤ 99 → All (λ v. unsigned_abs v < 2 ^ 38) t.values → IsLevelBand counts finer t.width t.height (coded counts finer index t)
coded_fits counts finer index t few small =
    let n = counts.0 * counts.1 in
    let numbers : Table = reduced_table counts finer index t in
    coded_cases counts finer index t (IsLevelBand counts finer t.width t.height)
    (λ z. record {
      index = omega arith;
      count = length-replicate n 0;
      each = equal_few n 0 (omega arith);
      plain = λ e. refl;
      indices = λ l laid plain.
          subst (λ k. AreIndicesOf k 0 numbers.values (replicate n 0)) (sym (layout_is l counts t laid.width laid.height laid.across laid.down)) (zero_indices_fit l.band l.mode counts t numbers.values);
      across = refl;
      down = refl;
      len = length-numbers counts finer index t;
      small = numbers_small counts finer index t small;
      zeros = λ e. refl;
      zero_indices = λ e. refl;
    })
    (λ z. record {
      index = few;
      count = length-coded_indices counts finer index t;
      each = indices_lawful counts finer index t few;
      plain = λ e. indices_by_one counts finer index t (rw e (chosen_plain counts index t));
      indices = λ l laid plain.
          subst (λ k. AreIndicesOf k index numbers.values (coded_indices counts finer index t)) (sym (layout_is l counts t laid.width laid.height laid.across laid.down)) (indices_fit l.band l.mode counts finer index t plain);
      across = refl;
      down = refl;
      len = length-numbers counts finer index t;
      small = numbers_small counts finer index t small;
      zeros = λ e. absurd (false≢true (sym z ∙ e));
      zero_indices = λ e. absurd (false≢true (sym z ∙ e));
    })

-- and can be written
pub level_band_is_coded : (counts : ℕ × ℕ) (finer width height : ℕ) (layout : BandLayout) (b : CodedBand) → IsLaidOut counts width height layout → (layout.mode ≡ 0 → finer ≡ 0) → IsLevelBand counts finer width height b → IsCodedBand layout b
level_band_is_coded counts finer width height layout b laid plain fits =
    let values : width * height ≡ layout.width * layout.height = rw (laid.width, laid.height) refl in
    let codeblocks : counts.0 * counts.1 ≡ layout.across * layout.down = rw (laid.across, laid.down) refl in
    record {
      index = fits.index;
      width = fits.across ∙ sym laid.width;
      height = fits.down ∙ sym laid.height;
      len = fits.len ∙ values;
      small = λ k d l. omega (arith, fits.small k d l);
      count = fits.count ∙ codeblocks;
      each = fits.each;
      plain = λ e. fits.plain (plain e) ∙ ap (λ n. replicate n b.index) codeblocks;
    }
