-- Rows whose codeblocks are quantised one by one, and the band that they make.
use Rattle.std.proofs.Common.{◌≡◌, ℕ, ℤ, pos, ◌+◌, ◌*◌, ◌/◌, ◌%◌, ◌<◌, ◌≤◌, if◌then◌else◌, unsigned_abs, true, false, List, length, map, replicate, get_or, sym, ap, ◌∙◌, arith, inl, inr}
use Rattle.std.specs.List.{All, range_with_len}
use Rattle.std.proofs.lemmas.Bool.{cases_eq, cases_lt}
use Rattle.std.proofs.lemmas.List.{get_or_default}
use Rattle.std.proofs.lemmas.List.FromFn.{fill_by_all, get_or-map-range_with_len, length-map-range_with_len}
use Rattle.std.proofs.lemmas.Nat.{div-mul-add, div_below, mod-mul-add, mod_below, mul-add-lt}
use Rattle.dirac_common.specs.Table.{Table, filled, row_of, table_at, table_of}
use Rattle.dirac_common.proofs.Rows.{row_at}
use Rattle.dirac_quant.specs.Quantiser.{reduced}
use Rattle.dirac_bands.specs.Geometry.{edge_of}
use Rattle.dirac_coeffs.specs.declared.layout.CodedBand.{CodedBand}
use Rattle.dirac_coeffs.specs.Indices.{index_at}
use Rattle.dirac_coeffs.specs.Written.{is_zero_band}
use Rattle.dirac_coeffs.proofs.Edges.{edge_most}
use Rattle.dirac_synthesis.specs.Codeblocks.{codeblock_of}
use Rattle.dirac_synthesis.proofs.ByCodeblock.{holds, only, value_small}
use Rattle.dirac_analysis.specs.Coded.{chosen_at, chosen_index, coded, coded_as, coded_indices, reduced_at, reduced_table}

-- ---- rows

-- the values of a row are small where all are
pub row_small : (most : ℕ) (t : Table) (y : ℕ) (row : List ℤ) → 0 < most → row ≡ row_of t y → length row ≡ t.width → All (λ v. unsigned_abs v < most) t.values → All (λ v. unsigned_abs v < most) row
row_small most t y row some is len all k d l =
    let here : get_or row k d ≡ table_at t k y = get_or_default row k d (pos 0) l ∙ ap (λ xs. get_or xs k (pos 0)) is ∙ row_at t k y (omega (arith, l, len)) in
    rw here (value_small most t.values (y * t.width + k) some all)

-- the codeblocks up to one are written, then this one
pub one_more : (values old line : List ℤ) (indices : List ℕ) (width first across cx start end index : ℕ) → cx < across → start ≡ edge_of width across cx → end ≡ edge_of width across (cx + 1) → index ≡ index_at indices (first + cx)
    → ((x : ℕ) → x < edge_of width across cx → get_or old x (pos 0) ≡ reduced (get_or values x (pos 0)) (index_at indices (first + codeblock_of width across x)))
    → ((x : ℕ) → start ≤ x → x < end → get_or line x (pos 0) ≡ reduced (get_or values x (pos 0)) index)
    → ((x : ℕ) → x < start → get_or line x (pos 0) ≡ get_or old x (pos 0))
    → (x : ℕ) → x < edge_of width across (cx + 1) → get_or line x (pos 0) ≡ reduced (get_or values x (pos 0)) (index_at indices (first + codeblock_of width across x))
one_more values old line indices width first across cx start end index among es ee ei before written kept x l = elim (cases_lt x start) [
  | inl earlier ↦ kept x earlier ∙ before x (omega (arith, earlier, es))
  | inr here ↦
      let some : 0 < across = omega (arith, among) in
      let inside : x < width = omega (arith, l, edge_most width across (cx + 1) some (omega (arith, among))) in
      let same : cx ≡ codeblock_of width across x = only width across x cx some inside (record { among = among; from = omega (arith, here, es); to = l }) in
      written x here (omega (arith, l, ee))
      ∙ ap (reduced (get_or values x (pos 0))) ei
      ∙ ap (λ c. reduced (get_or values x (pos 0)) (index_at indices (first + c))) same
]

-- columns and rows of the places below a product
column_below : (p w h : ℕ) → p < w * h → p % w < w
column_below p w h l = elim (cases_eq w 0) [
  | inl none ↦ absurd (omega (arith, l, ap (λ n. n * h) none))
  | inr some ↦ mod_below p w (omega (arith, some))
]

row_below : (p w h : ℕ) → p < w * h → p / w < h
row_below p w h l = elim (cases_eq w 0) [
  | inl none ↦ absurd (omega (arith, l, ap (λ n. n * h) none))
  | inr some ↦ div_below p w h (omega (arith, some)) (omega (arith, l))
]

filled_same : (w h : ℕ) (f g : ℕ → ℕ → ℤ) → ((x y : ℕ) → x < w → y < h → f x y ≡ g x y) → filled w h f ≡ filled w h g
unfolding filled
filled_same w h f g each =
    fill_by_all (λ p. g (p % w) (p / w)) (filled w h f) (w * h) (pos 0) (length-map-range_with_len (λ p. f (p % w) (p / w)) 0 (w * h)) (λ p l.
    get_or-map-range_with_len (λ q. f (q % w) (q / w)) 0 (w * h) p p (pos 0) l (omega arith)
    ∙ each (p % w) (p / w) (column_below p w h l) (row_below p w h l))

-- ---- a band

-- the index of the codeblock that a place lies in
chosen_there : (counts : ℕ × ℕ) (finer index : ℕ) (t : Table) (chosen : List ℕ) (cy cx : ℕ) → cx < counts.0 → cy < counts.1
    → chosen ≡ map (chosen_at counts finer index t) (range_with_len 0 (counts.0 * counts.1)) → index_at chosen (cy * counts.0 + cx) ≡ chosen_index counts finer index t cy cx
chosen_there counts finer index t chosen cy cx la lb is =
    let c : ℕ = cy * counts.0 + cx in
    let inside : c < counts.0 * counts.1 = omega (arith, mul-add-lt cy counts.0 cx counts.1 lb la) in
    ap (λ xs. index_at xs c) is
    ∙ get_or-map-range_with_len (chosen_at counts finer index t) 0 (counts.0 * counts.1) c c 0 inside (omega arith)
    ∙ ap (λ y. chosen_index counts finer index t y (c % counts.0)) (div-mul-add cy counts.0 cx la)
    ∙ ap (chosen_index counts finer index t cy) (mod-mul-add cy counts.0 cx la)

-- the numbers are quantised with the chosen indices
pub numbers_are : (counts : ℕ × ℕ) (finer index : ℕ) (t : Table) (chosen : List ℕ) (numbers : Table) → 1 ≤ counts.0 → 1 ≤ counts.1
    → chosen ≡ map (chosen_at counts finer index t) (range_with_len 0 (counts.0 * counts.1))
    → numbers ≡ table_of t.width t.height (λ x y. reduced (table_at t x y) (index_at chosen (codeblock_of t.height counts.1 y * counts.0 + codeblock_of t.width counts.0 x)))
    → numbers ≡ reduced_table counts finer index t
numbers_are counts finer index t chosen numbers la lb is all =
    all
    ∙ ap (λ (vs : List ℤ). let u : Table = record { width = t.width; height = t.height; values = vs } in u)
    (filled_same t.width t.height (λ x y. reduced (table_at t x y) (index_at chosen (codeblock_of t.height counts.1 y * counts.0 + codeblock_of t.width counts.0 x))) (reduced_at counts finer index t) (λ x y l d.
    ap (reduced (table_at t x y))
    (chosen_there counts finer index t chosen (codeblock_of t.height counts.1 y) (codeblock_of t.width counts.0 x) (holds t.width counts.0 x la l).among (holds t.height counts.1 y lb d).among is)))

pub coded_other : (counts : ℕ × ℕ) (finer index : ℕ) (t : Table) (told : List ℕ) (numbers : Table) → told ≡ coded_indices counts finer index t → numbers ≡ reduced_table counts finer index t → is_zero_band numbers.values ≡ false
    → (let b : CodedBand = record { index = index; indices = told; table = numbers } in b ≡ coded counts finer index t)
coded_other counts finer index t told numbers ei en some =
    let none : CodedBand = record { index = 0; indices = replicate (counts.0 * counts.1) 0; table = numbers } in
    let other : CodedBand = record { index = index; indices = told; table = numbers } in
    ap (λ b. if b then none else other) (sym some)
    ∙ ap (λ is. coded_as counts index is numbers) ei
    ∙ ap (coded_as counts index (coded_indices counts finer index t)) en

pub coded_none : (counts : ℕ × ℕ) (finer index : ℕ) (t : Table) (zeros : List ℕ) (numbers : Table) → zeros ≡ replicate (counts.0 * counts.1) 0 → numbers ≡ reduced_table counts finer index t → is_zero_band numbers.values ≡ true
    → (let b : CodedBand = record { index = 0; indices = zeros; table = numbers } in b ≡ coded counts finer index t)
coded_none counts finer index t zeros numbers ez en some =
    let none : CodedBand = record { index = 0; indices = replicate (counts.0 * counts.1) 0; table = numbers } in
    let other : CodedBand = record { index = index; indices = coded_indices counts finer index t; table = numbers } in
    ap (λ is. let b : CodedBand = record { index = 0; indices = is; table = numbers } in b) ez
    ∙ ap (λ b. if b then none else other) (sym some)
    ∙ ap (coded_as counts index (coded_indices counts finer index t)) en
