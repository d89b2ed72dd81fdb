-- The largest of some magnitudes, and bands whose largest magnitude is 0.
use Rattle.std.proofs.Common.{◌≡◌, ℕ, zero, suc, ℤ, pos, negsuc, ◌+◌, ◌*◌, ◌<◌, ◌≤◌, true, false, List, [], ◌∷◌, ◌++◌, drop, take, length, replicate, slice_index_or, slice_set, unsigned_abs, nat_eq, max, arith, refl, ap, sym, ◌∙◌, inl, inr, subst, eq-eqb}
use Rattle.std.specs.List.{All}
use Rattle.std.proofs.lemmas.Bool.{and_parts, cases_Bool, cases_eq, ne_eqb}
use Rattle.std.proofs.lemmas.List.{get_or-set_other, get_or-set_same, take-append-le, take_all}
use Rattle.dirac_common.specs.Table.{Table}
use Rattle.dirac_coeffs.specs.Contexts.{is_zero}
use Rattle.dirac_coeffs.specs.Held.{IsLargest, zeros_of}
use Rattle.dirac_coeffs.specs.Written.{is_zero_band}
use Rattle.dirac_coeffs.proofs.Edges.{rows_inside}
use Rattle.std.proofs.lemmas.Nat.{mul-le}

-- one more number is at most the largest so far, or is the largest itself
pub bound_more : (f : ℕ → ℕ) (n old one new : ℕ) → ((k : ℕ) → k < n → f k ≤ old) → one ≡ f n → new ≡ max old one → (k : ℕ) → k < n + 1 → f k ≤ new
bound_more f n old one new before e m k l = elim (cases_eq k n) [
  | inl last ↦ rw last (omega (arith, e, m))
  | inr other ↦ omega (arith, m, before k (omega (arith, l, other)))
]

-- and no smaller number bounds them
pub least_more : (f : ℕ → ℕ) (n old one new : ℕ) → ((m : ℕ) → ((k : ℕ) → k < n → f k ≤ m) → old ≤ m) → one ≡ f n → new ≡ max old one → (m : ℕ) → ((k : ℕ) → k < n + 1 → f k ≤ m) → new ≤ m
least_more f n old one new before e new_is m all =
    omega (arith, e, new_is, before m (λ k l. all k (omega (arith, l))), all n (omega arith))

-- a bound on all numbers of a list, told by their places
pub all_bounded : (xs : List ℤ) (n m : ℕ) → length xs ≤ n → ((k : ℕ) → k < n → unsigned_abs (slice_index_or xs k (pos 0)) ≤ m) → All (λ v. unsigned_abs v ≤ m) xs
all_bounded xs n m all each k d l =
    let same : slice_index_or xs k d ≡ slice_index_or xs k (pos 0) = other_default xs k d (pos 0) l in
    rw same (each k (omega (arith, l, all)))
  where
    other_default : (xs : List ℤ) (k : ℕ) (d e : ℤ) → k < length xs → slice_index_or xs k d ≡ slice_index_or xs k e
    other_default [] k d e l = absurd (omega arith)
    other_default (x ∷ xs) zero d e l = refl
    other_default (x ∷ xs) (suc k) d e l = other_default xs k d e (omega arith)

no_magnitude : (v : ℤ) → unsigned_abs v ≤ 0 → v ≡ pos 0
no_magnitude (pos zero) l = refl
no_magnitude (pos (suc n)) l = absurd (omega arith)
no_magnitude (negsuc n) l = absurd (omega arith)

-- where the largest magnitude is 0, all numbers are
pub all_zeros : (xs : List ℤ) → All (λ v. unsigned_abs v ≤ 0) xs → All (λ v. v ≡ pos 0) xs
all_zeros xs all k d l = no_magnitude (slice_index_or xs k d) (all k d l)

-- zeros are a band of zeros, and the other way round
zero_is : (x : ℤ) → is_zero x ≡ true → x ≡ pos 0
zero_is (pos zero) e = refl
zero_is (pos (suc n)) e = absurd cc
zero_is (negsuc n) e = absurd cc

zeros_of_band : (xs : List ℤ) → is_zero_band xs ≡ true → All (λ v. unsigned_abs v ≤ 0) xs
zeros_of_band [] e k d l = absurd (omega arith)
zeros_of_band (x ∷ xs) e zero d l = rw (zero_is x (and_parts (is_zero x) (is_zero_band xs) e).0) (omega arith)
zeros_of_band (x ∷ xs) e (suc k) d l = zeros_of_band xs (and_parts (is_zero x) (is_zero_band xs) e).1 k d (omega arith)

pub band_of_zeros : (xs : List ℤ) → All (λ v. v ≡ pos 0) xs → is_zero_band xs ≡ true
band_of_zeros [] all = refl
band_of_zeros (x ∷ xs) all =
    rw (all zero (pos 0) (omega arith)) (band_of_zeros xs (λ k d l. all (suc k) d (omega (arith, l))))

-- so the largest magnitude tells whether a band has zeros alone
pub zeros_told : (largest : ℕ) (xs : List ℤ) → IsLargest largest xs → nat_eq largest 0 ≡ is_zero_band xs
zeros_told largest xs is = elim (cases_Bool (is_zero_band xs)) [
  | inl zeros ↦
      let none : largest ≡ 0 = omega (arith, is.least 0 (zeros_of_band xs zeros)) in
      eq-eqb largest 0 none ∙ sym zeros
  | inr some ↦ ne_eqb largest 0 (λ none. clash xs largest is none some) ∙ sym some
] where
  clash : (xs : List ℤ) (largest : ℕ) → IsLargest largest xs → largest ≡ 0 → is_zero_band xs ≡ false → ⊥
  clash xs largest is none some =
      let zeros : is_zero_band xs ≡ true = band_of_zeros xs (all_zeros xs (rw none at is.bound)) in
      let e : true ≡ false = sym zeros ∙ some in absurd cc

-- a list of zeros is told by its length
pub zeros_replicated : (xs : List ℤ) (n : ℕ) → length xs ≡ n → All (λ v. v ≡ pos 0) xs → xs ≡ replicate n (pos 0)
zeros_replicated [] zero e all = refl
zeros_replicated [] (suc n) e all = absurd (omega arith)
zeros_replicated (x ∷ xs) zero e all = absurd (omega arith)
zeros_replicated (x ∷ xs) (suc n) e all =
    rw (all zero (pos 0) (omega arith)) (ap (λ ys. pos 0 ∷ ys) (zeros_replicated xs n (omega arith) (λ k d l. all (suc k) d (omega (arith, l)))))

-- one more number is copied
pub copied_more : (xs ys : List ℤ) (n : ℕ) → n < length ys → ((k : ℕ) → k < n → slice_index_or ys k (pos 0) ≡ slice_index_or xs k (pos 0)) → (k : ℕ) → k < n + 1 → slice_index_or (slice_set ys n (slice_index_or xs n (pos 0))) k (pos 0) ≡ slice_index_or xs k (pos 0)
copied_more xs ys n fits before k l = elim (cases_eq k n) [
  | inl last ↦ rw last (get_or-set_same ys n (slice_index_or xs n (pos 0)) (pos 0) fits)
  | inr other ↦ get_or-set_other ys n k (slice_index_or xs n (pos 0)) (pos 0) other ∙ before k (omega (arith, l, other))
]

-- a table of zeros
pub zeros_table : (t : Table) (width height largest : ℕ) → width ≡ t.width → height ≡ t.height → length t.values ≡ t.width * t.height → IsLargest largest t.values → largest ≡ 0
    → zeros_of width height ≡ t
zeros_table t width height largest across down whole is none =
    let values : t.values ≡ replicate (t.width * t.height) (pos 0) = zeros_replicated t.values (t.width * t.height) whole (all_zeros t.values (rw none at is.bound)) in
    rw (across, down) (ap (λ (xs : List ℤ). record t { values = xs }) (sym values))

-- a list that is written all over
pub filled : (len : ℕ) (new old : List ℤ) → length new ≡ len → take len (new ++ drop (length new) old) ≡ new
filled len new old e = take-append-le len new (drop (length new) old) (omega (arith, e)) ∙ take_all len new (omega (arith, e))

-- a place of values that are held is inside their list, and small
pub held_inside : (w h : ℕ) (xs : List ℤ) (t : Table) (x y : ℕ) → record { width = w; height = h; values = xs } ≡ t → w ≤ 8192 → h ≤ 8192 → length xs ≡ w * h → x < t.width → y < t.height
    → (y * w + x < length xs) × (y * w ≤ 8192 * 8192) × (x < 8192)
held_inside w h xs t x y same across down whole column row =
    let left : x < w = subst (λ (u : Table). x < u.width) (sym same) column in
    let above : y < h = subst (λ (u : Table). y < u.height) (sym same) row in
    let inside = rows_inside (y + 1) w h (length xs) (omega (arith, above)) whole in
    (omega (arith, inside, left), mul-le y w 8192 8192 (omega (arith, above, down)) across, omega (arith, left, across))

-- and so is a row of them
pub held_row : (w h : ℕ) (xs : List ℤ) (t : Table) (y : ℕ) → record { width = w; height = h; values = xs } ≡ t → w ≤ 8192 → h ≤ 8192 → length xs ≡ w * h → y < t.height
    → (y * w + w ≤ length xs) × (y * w ≤ 8192 * 8192) × (w ≤ 8192)
held_row w h xs t y same across down whole row =
    let above : y < h = subst (λ (u : Table). y < u.height) (sym same) row in
    let inside = rows_inside (y + 1) w h (length xs) (omega (arith, above)) whole in
    (omega (arith, inside), mul-le y w 8192 8192 (omega (arith, above, down)) across, across)
