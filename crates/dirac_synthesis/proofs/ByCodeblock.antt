-- Codeblocks part the columns and rows of a band, and where all have the band's index, this restores all values.
use Rattle.std.proofs.Common.{◌≡◌, ℕ, ℤ, pos, ◌+◌, ◌-◌, ◌*◌, ◌/◌, ◌%◌, ◌^◌, ◌<◌, ◌≤◌, unsigned_abs, List, length, map, get_or, arith, inl, inr, ap, sym, ◌∙◌}
use Rattle.std.specs.List.{All}
use Rattle.std.proofs.lemmas.Bool.{cases_eq, cases_lt}
use Rattle.std.proofs.lemmas.List.{get_or-map, get_or_past, length-map}
use Rattle.std.proofs.lemmas.List.FromFn.{fill_by_all}
use Rattle.std.proofs.lemmas.Nat.{div-add-mod', div_below, le-div, mod_below, mul-add-lt, mul-le}
use Rattle.dirac_common.specs.declared.formats.Kind.{Kind}
use Rattle.dirac_common.specs.Table.{Table, filled, row_of, table_at}
use Rattle.dirac_common.proofs.Bounds.{told_bound}
use Rattle.dirac_common.proofs.Rows.{row_at}
use Rattle.dirac_quant.specs.Quantiser.{factor_of, offset_of, restored, scaled}
use Rattle.dirac_bands.specs.Geometry.{edge_of}
use Rattle.dirac_coeffs.specs.declared.layout.CodedBand.{CodedBand}
use Rattle.dirac_coeffs.specs.Indices.{index_at}
use Rattle.dirac_coeffs.proofs.Edges.{edge_most}
use Rattle.dirac_coeffs.proofs.Indexed.{index_few}
use Rattle.dirac_synthesis.specs.Codeblocks.{EachPlaceHasACodeblock, HasIndices, HasOneIndex, HoldsPlace, OneIndexRestoresAll, codeblock_of, index_in, restored_band}
use Rattle.dirac_synthesis.proofs.Coefficients.{restored_small}

-- ---- columns or rows

-- a quotient that is at most x is one of less than the next multiple
under_next : (a d x : ℕ) → 0 < d → a / d ≤ x → a < (x + 1) * d
under_next a d x some l =
    let most : a / d * d ≤ x * d = mul-le (a / d) d x d l (omega arith) in
    let next : (x + 1) * d ≡ x * d + d = omega arith in
    omega (arith, div-add-mod' a d, mod_below a d some, most, next)

-- a quotient that is above x is one of the next multiple at least
over_next : (a d x : ℕ) → 0 < d → x < a / d → (x + 1) * d ≤ a
over_next a d x some l =
    let least : (x + 1) * d ≤ a / d * d = mul-le (x + 1) d (a / d) d (omega (arith, l)) (omega arith) in
    omega (arith, div-add-mod' a d, least)

-- the codeblock that a column or row lies in is one of the band's, and its edges hold it
pub holds : (size count x : ℕ) → 1 ≤ count → x < size → HoldsPlace size count (codeblock_of size count x) x
holds size count x some l =
    let q : ℕ = (count * (x + 1) - 1) / size in
    let inside : 0 < size = omega (arith, l) in
    let whole : q * size + (count * (x + 1) - 1) % size ≡ count * (x + 1) - 1 = div-add-mod' (count * (x + 1) - 1) size in
    let rest : (count * (x + 1) - 1) % size < size = mod_below (count * (x + 1) - 1) size inside in
    let least : count * 1 ≤ count * (x + 1) = mul-le count 1 count (x + 1) (omega arith) (omega arith) in
    let most : count * (x + 1) ≤ count * size = mul-le count (x + 1) count size (omega arith) (omega (arith, l)) in
    let next : (q + 1) * size ≡ q * size + size = omega arith in
    record {
      among = div_below (count * (x + 1) - 1) size count inside (omega (arith, least, most, some));
      from =
          let below : size * q / count < x + 1 = div_below (size * q) count (x + 1) (omega (arith, some)) (omega (arith, whole, least, some)) in
          omega (arith, below);
      to =
          let above : x + 1 ≤ size * (q + 1) / count = le-div (x + 1) (size * (q + 1)) count (omega (arith, some)) (omega (arith, whole, rest, next, least, some)) in
          omega (arith, above);
    }

-- and no other's do
pub only : (size count x c : ℕ) → 1 ≤ count → x < size → HoldsPlace size count c x → c ≡ codeblock_of size count x
only size count x c some l h =
    let inside : 0 < size = omega (arith, l) in
    let least : count * 1 ≤ count * (x + 1) = mul-le count 1 count (x + 1) (omega arith) (omega arith) in
    let begins : size * c < (x + 1) * count = under_next (size * c) count x (omega (arith, some)) h.from in
    let ends : (x + 1) * count ≤ size * (c + 1) = over_next (size * (c + 1)) count x (omega (arith, some)) h.to in
    let low : c ≤ (count * (x + 1) - 1) / size = le-div c (count * (x + 1) - 1) size inside (omega (arith, begins)) in
    let high : (count * (x + 1) - 1) / size < c + 1 = div_below (count * (x + 1) - 1) size (c + 1) inside (omega (arith, ends, least, some)) in
    omega (arith, low, high)

pub each_has_one : EachPlaceHasACodeblock
each_has_one size count x some l = (holds size count x some l, λ c. only size count x c some l)

-- ---- one index

-- a place of a band has an index
pub place_has_index : (counts : ℕ × ℕ) (b : CodedBand) (x y : ℕ) → HasIndices counts b → x < b.table.width → y < b.table.height
    → codeblock_of b.table.height counts.1 y * counts.0 + codeblock_of b.table.width counts.0 x < length b.indices
place_has_index counts b x y has l k =
    let cx = codeblock_of b.table.width counts.0 x in
    let cy = codeblock_of b.table.height counts.1 y in
    omega (arith, has.count, mul-add-lt cy counts.0 cx counts.1 (holds b.table.height counts.1 y has.down.0 k).among (holds b.table.width counts.0 x has.across.0 l).among)

index_is : (counts : ℕ × ℕ) (b : CodedBand) (x y : ℕ) → HasIndices counts b → HasOneIndex b → x < b.table.width → y < b.table.height → index_in counts b x y ≡ b.index
index_is counts b x y has one l k =
    one (codeblock_of b.table.height counts.1 y * counts.0 + codeblock_of b.table.width counts.0 x) 0 (place_has_index counts b x y has l k)

-- columns and rows of the places below a product
column_below : (p w h : ℕ) → p < w * h → p % w < w
column_below p w h l = elim (cases_eq w 0) [
  | inl none ↦ absurd (omega (arith, l, ap (λ n. n * h) none))
  | inr some ↦ mod_below p w (omega (arith, some))
]

row_below : (p w h : ℕ) → p < w * h → p / w < h
row_below p w h l = elim (cases_eq w 0) [
  | inl none ↦ absurd (omega (arith, l, ap (λ n. n * h) none))
  | inr some ↦ div_below p w h (omega (arith, some)) (omega (arith, l))
]

pub one_restores : OneIndexRestoresAll
unfolding filled
one_restores kind counts b len has one =
    let w = b.table.width in
    let h = b.table.height in
    let g : ℤ → ℤ = λ v. restored v b.index kind in
    let f : ℕ → ℕ → ℤ = λ x y. restored (table_at b.table x y) (index_in counts b x y) kind in
    let values : map g b.table.values ≡ filled w h f =
    fill_by_all (λ p. f (p % w) (p / w)) (map g b.table.values) (w * h) (pos 0) (length-map b.table.values g ∙ len) (λ p l.
    get_or-map g b.table.values p (pos 0) (pos 0) (omega (arith, l, len))
    ∙ ap (λ i. restored (get_or b.table.values i (pos 0)) b.index kind) (sym (div-add-mod' p w))
    ∙ ap (λ i. restored (table_at b.table (p % w) (p / w)) i kind) (sym (index_is counts b (p % w) (p / w) has one (column_below p w h l) (row_below p w h l)))) in
    ap (λ (vs : List ℤ). let t : Table = record { width = w; height = h; values = vs } in t) (sym values)

-- ---- how large the coefficients are

pub value_small : (most : ℕ) (xs : List ℤ) (q : ℕ) → 0 < most → All (λ v. unsigned_abs v < most) xs → unsigned_abs (get_or xs q (pos 0)) < most
value_small most xs q some all = elim (cases_lt q (length xs)) [
  | inl inside ↦ all q (pos 0) inside
  | inr past ↦ rw (get_or_past xs q (pos 0) past) (omega (arith, some))
]

pub band_at_most : (bound : ℕ) (kind : Kind) (counts : ℕ × ℕ) (b : CodedBand) → 2 ^ 64 - 1 ≤ bound → HasIndices counts b → All (λ v. unsigned_abs v < 2 ^ 39 - 1) b.table.values → All (λ v. unsigned_abs v ≤ bound) (restored_band kind counts b).values
band_at_most bound kind counts b least has small =
    told_bound bound b.table.width b.table.height (λ x y. restored (table_at b.table x y) (index_in counts b x y) kind)
    (λ x y. omega (
      arith,
      least,
      restored_small (table_at b.table x y) (index_in counts b x y) kind (value_small (2 ^ 39 - 1) b.table.values (y * b.table.width + x) (omega arith) small)
          (index_few b.indices (codeblock_of b.table.height counts.1 y * counts.0 + codeblock_of b.table.width counts.0 x) has.each),
    ))

pub band_small : (kind : Kind) (counts : ℕ × ℕ) (b : CodedBand) (t : Table) → t ≡ restored_band kind counts b → HasIndices counts b → All (λ v. unsigned_abs v < 2 ^ 39 - 1) b.table.values → All (λ v. unsigned_abs v < 2 ^ 64) t.values
band_small kind counts b t is has small =
    rw is (λ k d l. let most : unsigned_abs (get_or (restored_band kind counts b).values k d) ≤ 2 ^ 64 - 1 = band_at_most (2 ^ 64 - 1) kind counts b (omega arith) has small k d l in
    omega (arith, most))

-- ---- a row, codeblock by codeblock

-- the codeblocks up to one are written, then this one
pub one_more_codeblock : (kind : Kind) (coded old line : List ℤ) (indices : List ℕ) (width first across cx start end factor offset : ℕ) → cx < across
    → start ≡ edge_of width across cx → end ≡ edge_of width across (cx + 1) → factor ≡ factor_of (index_at indices (first + cx)) → offset ≡ offset_of (index_at indices (first + cx)) kind
    → ((x : ℕ) → x < edge_of width across cx → get_or old x (pos 0) ≡ restored (get_or coded x (pos 0)) (index_at indices (first + codeblock_of width across x)) kind)
    → ((x : ℕ) → start ≤ x → x < end → get_or line x (pos 0) ≡ scaled (get_or coded x (pos 0)) factor offset)
    → ((x : ℕ) → x < start → get_or line x (pos 0) ≡ get_or old x (pos 0))
    → (x : ℕ) → x < edge_of width across (cx + 1) → get_or line x (pos 0) ≡ restored (get_or coded x (pos 0)) (index_at indices (first + codeblock_of width across x)) kind
one_more_codeblock kind coded old line indices width first across cx start end factor offset among es ee ef eo before written kept x l = elim (cases_lt x start) [
  | inl earlier ↦ kept x earlier ∙ before x (omega (arith, earlier, es))
  | inr here ↦
      let some : 0 < across = omega (arith, among) in
      let inside : x < width = omega (arith, l, edge_most width across (cx + 1) some (omega (arith, among))) in
      let same : cx ≡ codeblock_of width across x = only width across x cx some inside (record { among = among; from = omega (arith, here, es); to = l }) in
      written x here (omega (arith, l, ee))
      ∙ ap (λ f. scaled (get_or coded x (pos 0)) f offset) ef
      ∙ ap (λ o. scaled (get_or coded x (pos 0)) (factor_of (index_at indices (first + cx))) o) eo
      ∙ ap (λ c. restored (get_or coded x (pos 0)) (index_at indices (first + c)) kind) same
]

-- a row that is written, codeblock by codeblock
pub by_place : (kind : Kind) (counts : ℕ × ℕ) (b : CodedBand) (x y first height : ℕ) (coded line : List ℤ) → coded ≡ row_of b.table y → length coded ≡ b.table.width → height ≡ b.table.height → first ≡ codeblock_of height counts.1 y * counts.0 → x < b.table.width
    → ((k : ℕ) → k < length coded → get_or line k (pos 0) ≡ restored (get_or coded k (pos 0)) (index_at b.indices (first + codeblock_of (length coded) counts.0 k)) kind)
    → get_or line x (pos 0) ≡ restored (table_at b.table x y) (index_in counts b x y) kind
by_place kind counts b x y first height coded line row len high begins l written =
    let value : get_or coded x (pos 0) ≡ table_at b.table x y = ap (λ zs. get_or zs x (pos 0)) row ∙ row_at b.table x y l in
    written x (omega (arith, l, len))
    ∙ ap (λ v. restored v (index_at b.indices (first + codeblock_of (length coded) counts.0 x)) kind) value
    ∙ ap (λ n. restored (table_at b.table x y) (index_at b.indices (first + codeblock_of n counts.0 x)) kind) len
    ∙ ap (λ n. restored (table_at b.table x y) (index_at b.indices (n + codeblock_of b.table.width counts.0 x)) kind) (begins ∙ ap (λ h. codeblock_of h counts.1 y * counts.0) high)
