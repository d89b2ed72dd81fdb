-- Rows that are written a few samples at a time.
use Rattle.std.proofs.Common.{◌≡◌, ◌≢◌, ℕ, ℤ, pos, negsuc, suc, ◌+◌, ◌-◌, ◌*◌, ◌/◌, ◌%◌, ◌^◌, ◌<◌, ◌≤◌, ◌+ℤ◌, ◌≤ℤ◌, List, length, get_or, set, take, to_z, of_z, arith, refl, inl, inr, ap, ap₂, sym, unsigned_abs, ◌∙◌}
use Rattle.std.specs.Int.{w16, w64}
use Rattle.std.specs.List.{slice_range}
use Rattle.std.proofs.lemmas.Bool.{cases_eq, cases_lt}
use Rattle.std.proofs.lemmas.Int.{ints, to_z-of_z, fits_signed_from_abs}
use Rattle.std.proofs.lemmas.List.{get_or-set_same, get_or-set_other, get_or-take, get_or-append_right, length-take-le}
use Rattle.std.proofs.lemmas.List.Edits.{get_or-between, length-between}
use Rattle.std.proofs.lemmas.Nat.{div-add-mod', div-mul-add, mod-mul-add, mul-le, row_fits}
use Rattle.std.proofs.lemmas.Slice.{take-put_mid, take-put_mid_below}
use Rattle.std.proofs.Math.Nat.{suc-mul}
use Rattle.std.proofs.Math.Pow.{pow_mono}
use borrow.Rule.Slice.PartMut.{put_mid}
use Rattle.dirac_common.specs.Table.{Table}
use Rattle.dirac_upconvert.specs.declared.rows.Position.{Position}
use Rattle.dirac_upconvert.specs.declared.rows.Rests.{Rests}
use Rattle.dirac_upconvert.specs.Positions.{AreSamplesFrom, sample_from}
use Rattle.dirac_upconvert.specs.SubSamples.{IsRest, PutFrom, bilinear, rounded}

-- a rest, through its bits
pub plain_rest : (bits : ℕ) (r : ℤ) → bits ≤ 2 → IsRest bits r → to_z w16 (of_z w16 r) ≡ r
plain_rest bits r few h =
    let small : 2 ^ bits ≤ 2 ^ 2 = pow_mono {i = bits} {j = 2} few in
    to_z-of_z w16 r (fits_signed_from_abs w16 r (omega (arith, ints, small, h.least, h.most)))

-- one more value is put
pub put_none : (first : ℕ) (f : ℕ → ℤ) (xs : List ℤ) → PutFrom first 0 f xs xs
put_none first f xs = record { value = λ k l. absurd (omega arith); kept = λ k l. refl }

pub put_more : (first n m place : ℕ) (f : ℕ → ℤ) (before out : List ℤ) (v : ℤ) → PutFrom first n f before out → place ≡ first + n → place < length out → m ≡ n + 1 → v ≡ f n → PutFrom first m f before (set out place v)
put_more first n m place f before out v h e fits next ev = record {
  value = λ k l. elim (cases_eq k n) [
    | inl here ↦
        let at : first + k ≡ place = omega arith in
        ap (λ i. get_or (set out place v) i (pos 0)) at ∙ get_or-set_same out place v (pos 0) fits ∙ ev ∙ ap f (sym here)
    | inr other ↦
        let apart : first + k ≢ place = omega arith in
        get_or-set_other out place (first + k) v (pos 0) apart ∙ h.value k (omega arith)
  ];
  kept = λ k l. let apart : k ≢ place = omega arith in get_or-set_other out place k v (pos 0) apart ∙ h.kept k l;
}

-- the same values, told by another function
pub put_told : (first n m : ℕ) (f g : ℕ → ℤ) (before after : List ℤ) → PutFrom first n f before after → m ≤ n → ((k : ℕ) → k < m → f k ≡ g k) → PutFrom first m g before after
put_told first n m f g before after h l e = record { value = λ k i. h.value k (omega arith) ∙ e k i; kept = h.kept }

-- behind values that are told, or over some of them, more are put
pub joined : (last count : ℕ) (g f : ℕ → ℤ) (mid after : List ℤ) → ((k : ℕ) → k < last → get_or mid k (pos 0) ≡ g k) → PutFrom last count f mid after → ((k : ℕ) → k < count → f k ≡ g (last + k))
    → (k : ℕ) → k < last + count → get_or after k (pos 0) ≡ g k
joined last count g f mid after h p e k l = elim (cases_lt k last) [
  | inl before ↦ p.kept k before ∙ h k before
  | inr past ↦
      let same : last + (k - last) ≡ k = omega arith in
      ap (λ i. get_or after i (pos 0)) (sym same) ∙ p.value (k - last) (omega arith) ∙ e (k - last) (omega arith) ∙ ap g same
]

-- a part of two rows
pub part_read : (xs : List ℤ) (i j k p : ℕ) → i + k < j → p ≡ i + k → get_or (slice_range xs i j) k (pos 0) ≡ get_or xs p (pos 0)
part_read xs i j k p inside e = get_or-between xs i j k (pos 0) inside ∙ ap (λ n. get_or xs n (pos 0)) (sym e)

pub part_length : (xs : List ℤ) (i j : ℕ) → j ≤ length xs → length (slice_range xs i j) ≡ j - i
part_length xs i j fits = length-between xs i j fits

-- a list of which a part is written over: before that part, and in it
pub part_before : (a k n : ℕ) (xs ws : List ℤ) → n < a → a ≤ length xs → get_or (put_mid a k xs ws) n (pos 0) ≡ get_or xs n (pos 0)
part_before a k n xs ws l fits =
    sym (get_or-take a (put_mid a k xs ws) n (pos 0) l) ∙ ap (λ ys. get_or ys n (pos 0)) (take-put_mid_below a k xs ws a (omega arith) fits)
    ∙ get_or-take a xs n (pos 0) l

pub part_inside : (a k n : ℕ) (xs ws : List ℤ) → n < length ws → a ≤ length xs → get_or (put_mid a k xs ws) (a + n) (pos 0) ≡ get_or ws n (pos 0)
part_inside a k n xs ws l fits =
    let same : a + n - a ≡ n = omega arith in
    sym (get_or-take (a + length ws) (put_mid a k xs ws) (a + n) (pos 0) (omega arith))
    ∙ ap (λ ys. get_or ys (a + n) (pos 0)) (take-put_mid a k xs ws (a + length ws) refl fits)
    ∙ get_or-append_right (take a xs) ws a (a + n) (pos 0) (length-take-le a xs fits) (omega arith)
    ∙ ap (λ i. get_or ws i (pos 0)) same

-- rows of so many samples, one behind another
abbrev pub by_rows : Table → Position → ℕ → ℕ → ℤ
by_rows t p width n = sample_from t p (n % width) (n / width)

pub by_rows_at : (t : Table) (p : Position) (width j k : ℕ) → k < width → by_rows t p width (j * width + k) ≡ sample_from t p k j
by_rows_at t p width j k l =
    ap (λ a. sample_from t p a ((j * width + k) / width)) (mod-mul-add j width k l) ∙ ap (sample_from t p k) (div-mul-add j width k l)

-- the samples of a row below
pub row_below : (t : Table) (p q : Position) (j : ℕ) (out : List ℤ) → q.rests ≡ p.rests → q.across ≡ p.across → q.down ≡ p.down +ℤ pos (2 * j) → AreSamplesFrom t q out
    → (k : ℕ) → k < length out → get_or out k (pos 0) ≡ sample_from t p k j
row_below t p q j out er ea ed h k l =
    h k l
    ∙ ap (λ (r : Rests). rounded (2 * r.bits) (bilinear t (2 ^ r.bits) (q.across +ℤ pos (2 * k)) q.down r.right r.below)) er
    ∙ ap₂ (λ (a b : ℤ). rounded (2 * p.rests.bits) (bilinear t (2 ^ p.rests.bits) (a +ℤ pos (2 * k)) b p.rests.right p.rests.below)) ea ed

-- a place, through its bits
pub plain_place : (z : ℤ) → unsigned_abs z ≤ 2 ^ 35 → to_z w64 (of_z w64 z) ≡ z
plain_place z h = to_z-of_z w64 z (fits_signed_from_abs w64 z (omega (arith, h)))

-- a place that isn't left of the first one
pub whole_place : (z : ℤ) → pos 0 ≤ℤ z → z ≡ pos (unsigned_abs z)
whole_place (pos n) h = refl
whole_place (negsuc n) h = absurd (omega (arith, ints))

-- one more row is written
pub rows_joined : (width j m a k : ℕ) (g : ℕ → ℤ) (xs ws : List ℤ) → ((n : ℕ) → n < j * width → get_or xs n (pos 0) ≡ g n) → a ≡ j * width → length ws ≡ width → a + width ≤ length xs → m ≡ suc j
    → ((i : ℕ) → i < width → get_or ws i (pos 0) ≡ g (j * width + i)) → (n : ℕ) → n < m * width → get_or (put_mid a k xs ws) n (pos 0) ≡ g n
rows_joined width j m a k g xs ws h start len fits next row n l = elim (cases_lt n (j * width)) [
  | inl before ↦ part_before a k n xs ws (omega (arith, before, start)) (omega (arith, fits)) ∙ h n before
  | inr past ↦
      let end : m * width ≡ suc j * width = ap (λ i. i * width) next in
      let inside : n - j * width < width = omega (arith, l, past, end, suc-mul j width) in
      let here : a + (n - j * width) ≡ n = omega (arith, start, past) in
      let there : j * width + (n - j * width) ≡ n = omega (arith, past) in
      ap (λ i. get_or (put_mid a k xs ws) i (pos 0)) (sym here) ∙ part_inside a k (n - j * width) xs ws (omega (arith, inside, len)) (omega (arith, fits))
      ∙ row (n - j * width) inside ∙ ap g there
]

-- places of whole rows
pub row_inside : (len width j : ℕ) → j < len / width → j * width + width ≤ len
row_inside len width j l = omega (arith, row_fits j width (len / width) width l (omega arith), div-add-mod' len width)

pub in_whole_rows : (len width j n : ℕ) → len % width ≡ 0 → len / width ≤ j → n < len → n < j * width
in_whole_rows len width j n whole all l = omega (arith, l, whole, div-add-mod' len width, mul-le (len / width) width j width all (omega arith))
