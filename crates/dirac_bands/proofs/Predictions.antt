-- Sums and differences of the LL band, place by place.
use Rattle.std.proofs.Common.{◌≡◌, ◌≢◌, ℕ, ℤ, pos, negsuc, zero, suc, ◌+◌, ◌-◌, ◌*◌, ◌/◌, ◌%◌, ◌<◌, ◌≤◌, ◌+ℤ◌, ◌-ℤ◌, unsigned_abs, List, [], ◌∷◌, length, get_or, set, drop, arith, refl, inl, inr, ap, sym, ◌∙◌, subst, eq-eqb}
use Rattle.std.specs.Int.{int_div_euclid}
use Rattle.std.specs.List.{All}
use Rattle.std.proofs.lemmas.Int.{ints}
use Rattle.std.proofs.lemmas.Nat.{mul-add-lt, mod-mul-add, div-mul-add, mul-le, div-add-mod', div_below, mod_below, same_from_place}
use Rattle.std.proofs.lemmas.List.{get_or-set_same, get_or-set_other, length-set, get_or_default, get_or_push, get_or_append_left, length_push, ext_get_or, take_at}
use Rattle.std.proofs.lemmas.Bool.{cases_eq, cases_lt, ne_eqb}
use Rattle.std.proofs.Math.Nat.{suc-mul}
use Rattle.dirac_common.specs.Table.{Table, with_values}
use Rattle.dirac_common.specs.Samples.{mean_of_three}
use Rattle.dirac_common.proofs.Bounds.{values_bound}
use Rattle.dirac_bands.specs.DcSum.{value_at, by_rows, prediction_in, IsDcSum, sums_up_to, dc_sum}

-- the row above ends a width earlier
row_above : (y w : ℕ) → y ≢ 0 → y * w ≡ (y - 1) * w + w
row_above zero w h = elim (h refl) [ ]
row_above (suc n) w h = let e : suc n - 1 ≡ n = omega arith in rw e (suc-mul n w)

-- the three neighbours of a place stand before it, and one step nearer to the corner
pub prediction_same : (w : ℕ) (xs ys : List ℤ) (x y : ℕ) → x < w → ((q : ℕ) → q < y * w + x → get_or xs q (pos 0) ≡ get_or ys q (pos 0)) → prediction_in xs w x y ≡ prediction_in ys w x y
unfolding prediction_in
prediction_same w xs ys x y p e = elim (cases_eq y 0) [
  | inl top ↦ elim (cases_eq x 0) [
    | inl left ↦ rw (eq-eqb y 0 top, eq-eqb x 0 left) refl
    | inr right ↦ rw (eq-eqb y 0 top, ne_eqb x 0 right) (e (0 * w + (x - 1)) (omega arith))
  ]
  | inr low ↦ elim (cases_eq x 0) [
    | inl left ↦ rw (ne_eqb y 0 low, eq-eqb x 0 left) (e ((y - 1) * w + 0) (omega (arith, row_above y w low)))
    | inr right ↦ rw (ne_eqb y 0 low, ne_eqb x 0 right)
        (ap (λ a. mean_of_three a (get_or xs ((y - 1) * w + x) (pos 0)) (get_or xs ((y - 1) * w + (x - 1)) (pos 0))) (e (y * w + (x - 1)) (omega arith))
        ∙ ap (λ b. mean_of_three (get_or ys (y * w + (x - 1)) (pos 0)) b (get_or xs ((y - 1) * w + (x - 1)) (pos 0))) (e ((y - 1) * w + x) (omega (arith, row_above y w low)))
        ∙ ap (λ d. mean_of_three (get_or ys (y * w + (x - 1)) (pos 0)) (get_or ys ((y - 1) * w + x) (pos 0)) d) (e ((y - 1) * w + (x - 1)) (omega (arith, row_above y w low))))
  ]
]

-- a mean is no larger than what it is of
third_bound : (m : ℕ) (a b c z : ℤ) → z ≡ ((a +ℤ b) +ℤ c) +ℤ pos 1 → unsigned_abs a ≤ m → unsigned_abs b ≤ m → unsigned_abs c ≤ m → unsigned_abs (int_div_euclid z (pos 3)) ≤ m
third_bound m a b c (pos n) e ha hb hc =
    let top : n ≤ 3 * m + 1 = omega (arith, ints, e) in omega arith
third_bound m a b c (negsuc n) e ha hb hc =
    let low : n + 2 ≤ 3 * m = omega (arith, ints, e) in omega arith

pub mean_bound : (m : ℕ) (a b c : ℤ) → unsigned_abs a ≤ m → unsigned_abs b ≤ m → unsigned_abs c ≤ m → unsigned_abs (mean_of_three a b c) ≤ m
mean_bound m a b c = third_bound m a b c (((a +ℤ b) +ℤ c) +ℤ pos 1) refl

pub prediction_bound : (m w : ℕ) (xs : List ℤ) (x y : ℕ) → x < w → ((i j : ℕ) → i < w → j * w + i < y * w + x → i + j + 1 ≤ x + y → unsigned_abs (value_at xs w i j) ≤ m) → unsigned_abs (prediction_in xs w x y) ≤ m
unfolding prediction_in
prediction_bound m w xs x y p h = elim (cases_eq y 0) [
  | inl top ↦ elim (cases_eq x 0) [
    | inl left ↦ rw (eq-eqb y 0 top, eq-eqb x 0 left) (omega arith)
    | inr right ↦ rw (eq-eqb y 0 top, ne_eqb x 0 right) (h (x - 1) 0 (omega arith) (omega arith) (omega arith))
  ]
  | inr low ↦ elim (cases_eq x 0) [
    | inl left ↦ rw (ne_eqb y 0 low, eq-eqb x 0 left) (h 0 (y - 1) (omega arith) (omega (arith, row_above y w low)) (omega arith))
    | inr right ↦ rw (ne_eqb y 0 low, ne_eqb x 0 right)
        (mean_bound m (value_at xs w (x - 1) y) (value_at xs w x (y - 1)) (value_at xs w (x - 1) (y - 1)) (h (x - 1) y (omega arith) (omega arith) (omega arith))
        (h x (y - 1) p (omega (arith, row_above y w low)) (omega arith))
        (h (x - 1) (y - 1) (omega arith) (omega (arith, row_above y w low)) (omega arith)))
  ]
]

-- the sums stand below place p, the differences from there on
pub record SumsBelow (w : ℕ) (xs ys : List ℤ) (p : ℕ) : Type 0 where
  pub len : length ys ≡ length xs
  pub done : (x y : ℕ) → x < w → y * w + x < p → value_at ys w x y ≡ value_at xs w x y +ℤ prediction_in ys w x y
  pub rest : (q : ℕ) → p ≤ q → get_or ys q (pos 0) ≡ get_or xs q (pos 0)

pub sums_none : (w : ℕ) (xs : List ℤ) → SumsBelow w xs xs 0
sums_none w xs = record { len = refl; done = λ x y l h. absurd (omega (arith, h)); rest = λ q l. refl }

pub sums_more : (w : ℕ) (xs ys : List ℤ) (p n x y : ℕ) (v : ℤ) → SumsBelow w xs ys p → n ≡ p + 1 → x < w → p ≡ y * w + x → p < length ys → v ≡ get_or ys p (pos 0) +ℤ prediction_in ys w x y → SumsBelow w xs (set ys p v) n
sums_more w xs ys p n x y v s next l place fits e = record {
  len = length-set ys p v ∙ s.len;
  done = λ i j k below.
      let same : prediction_in ys w i j ≡ prediction_in (set ys p v) w i j =
      prediction_same w ys (set ys p v) i j k (λ q h. sym (get_or-set_other ys p q v (pos 0) (λ f. omega (arith, f, h, below)))) in
      elim (cases_eq (j * w + i) p) [
        | inl here ↦
            let both : (j ≡ y) × (i ≡ x) = same_from_place j i y x w k l (omega arith) in
            ap (λ n. get_or (set ys p v) n (pos 0)) here
            ∙ get_or-set_same ys p v (pos 0) fits ∙ e
            ∙ ap (λ a. a +ℤ prediction_in ys w x y) (s.rest p (omega arith) ∙ ap (λ n. get_or xs n (pos 0)) (sym here))
            ∙ ap (λ b. value_at xs w i j +ℤ b) (ap (λ n. prediction_in ys w n y) (sym both.1) ∙ ap (prediction_in ys w i) (sym both.0) ∙ same)
        | inr other ↦
            get_or-set_other ys p (j * w + i) v (pos 0) other ∙ s.done i j k (omega arith)
            ∙ ap (λ b. value_at xs w i j +ℤ b) same
      ];
  rest = λ q h. get_or-set_other ys p q v (pos 0) (λ f. omega (arith, f, h)) ∙ s.rest q (omega arith);
}

-- how large the sums are: a step more for each column and row
sums_slope : (b w : ℕ) (xs ys : List ℤ) (p n x y : ℕ) → SumsBelow w xs ys p → ((q : ℕ) → unsigned_abs (get_or xs q (pos 0)) ≤ b) → n ≤ p → x < w → y * w + x < n → unsigned_abs (value_at ys w x y) ≤ (x + y + 1) * b
sums_slope b w xs ys p zero x y s h l k below = absurd (omega (arith, below))
sums_slope b w xs ys p (suc n) x y s h l k below =
    let predicted : unsigned_abs (prediction_in ys w x y) ≤ (x + y) * b =
    prediction_bound ((x + y) * b) w ys x y k (λ i j c before nearer.
    let slope : unsigned_abs (value_at ys w i j) ≤ (i + j + 1) * b = sums_slope b w xs ys p n i j s h (omega arith) c (omega arith) in
    omega (arith, slope, mul-le (i + j + 1) b (x + y) b nearer (omega arith))) in
    let own : unsigned_abs (value_at xs w x y) ≤ b = h (y * w + x) in
    rw (s.done x y k (omega arith)) (omega (arith, ints, predicted, own))

pub sums_bound : (b w h : ℕ) (xs ys : List ℤ) (p : ℕ) → SumsBelow w xs ys p → 1 ≤ w → length xs ≡ w * h → p ≤ w * h → All (λ v. unsigned_abs v ≤ b) xs → All (λ v. unsigned_abs v ≤ (w + h) * b) ys
sums_bound b w h xs ys p s one len most all k d inside =
    let some : 0 < w = omega arith in
    let place : (k / w) * w + k % w ≡ k = div-add-mod' k w in
    let column : k % w < w = mod_below k w some in
    let row : k / w < h = div_below k w h some (omega (arith, s.len, len)) in
    rw (get_or_default ys k d (pos 0) inside) (elim (cases_lt k p) [
      | inl below ↦
          let slope : unsigned_abs (value_at ys w (k % w) (k / w)) ≤ (k % w + k / w + 1) * b = sums_slope b w xs ys p p (k % w) (k / w) s (values_bound b xs all) (omega arith) column (omega arith) in
          let here : unsigned_abs (get_or ys k (pos 0)) ≤ (k % w + k / w + 1) * b = rw place at slope in
          omega (arith, here, mul-le (k % w + k / w + 1) b (w + h) b (omega arith) (omega arith))
      | inr above ↦ rw (s.rest k above) (omega (arith, values_bound b xs all k, mul-le 1 b (w + h) b (omega arith) (omega arith)))
    ])

pub sums_all : (w h : ℕ) (xs ys : List ℤ) (p : ℕ) → SumsBelow w xs ys p → w * h ≤ p → IsDcSum (by_rows w h xs) (by_rows w h ys)
sums_all w h xs ys p s all = record {
  width = refl;
  height = refl;
  len = s.len;
  each = λ x y l k. s.done x y l (omega (arith, mul-add-lt y w x h k l));
}

-- the differences stand from place p on, the sums below it
pub record DifferencesFrom (w : ℕ) (xs ys : List ℤ) (p : ℕ) : Type 0 where
  pub len : length ys ≡ length xs
  pub done : (x y : ℕ) → x < w → p ≤ y * w + x → y * w + x < length xs → value_at xs w x y ≡ value_at ys w x y +ℤ prediction_in xs w x y
  pub rest : (q : ℕ) → q < p → get_or ys q (pos 0) ≡ get_or xs q (pos 0)

pub differences_none : (w p : ℕ) (xs : List ℤ) → length xs ≤ p → DifferencesFrom w xs xs p
differences_none w p xs h = record { len = refl; done = λ x y l k m. absurd (omega (arith, h, k, m)); rest = λ q l. refl }

sum_again : (v a b : ℤ) → v ≡ a -ℤ b → a ≡ v +ℤ b
sum_again v a b e = omega (arith, ints, e)

pub differences_more : (w : ℕ) (xs ys : List ℤ) (p n x y : ℕ) (v : ℤ) → DifferencesFrom w xs ys n → n ≡ p + 1 → x < w → p ≡ y * w + x → p < length ys → v ≡ get_or ys p (pos 0) -ℤ prediction_in ys w x y → DifferencesFrom w xs (set ys p v) p
differences_more w xs ys p n x y v s next l place fits e = record {
  len = length-set ys p v ∙ s.len;
  done = λ i j k from inside. elim (cases_eq (j * w + i) p) [
    | inl here ↦
        let both : (j ≡ y) × (i ≡ x) = same_from_place j i y x w k l (omega arith) in
        let old : get_or xs p (pos 0) ≡ v +ℤ prediction_in ys w x y =
        sym (s.rest p (omega arith)) ∙ sum_again v (get_or ys p (pos 0)) (prediction_in ys w x y) e in
        let same : prediction_in ys w x y ≡ prediction_in xs w x y =
        prediction_same w ys xs x y l (λ q h. s.rest q (omega arith)) in
        ap (λ m. get_or xs m (pos 0)) here ∙ old
        ∙ ap (λ a. a +ℤ prediction_in ys w x y) (sym (ap (λ m. get_or (set ys p v) m (pos 0)) here ∙ get_or-set_same ys p v (pos 0) fits))
        ∙ ap (λ b. value_at (set ys p v) w i j +ℤ b) (same ∙ ap (λ m. prediction_in xs w m y) (sym both.1) ∙ ap (prediction_in xs w i) (sym both.0))
    | inr other ↦
        s.done i j k (omega arith) inside
        ∙ ap (λ a. a +ℤ prediction_in xs w i j) (sym (get_or-set_other ys p (j * w + i) v (pos 0) other))
  ];
  rest = λ q h. get_or-set_other ys p q v (pos 0) (λ f. omega (arith, f, h)) ∙ s.rest q (omega arith);
}

pub differences_all : (w h : ℕ) (xs ys : List ℤ) (p : ℕ) → DifferencesFrom w xs ys p → p ≡ 0 → length xs ≡ w * h → IsDcSum (by_rows w h ys) (by_rows w h xs)
differences_all w h xs ys p s none len = record {
  width = refl;
  height = refl;
  len = sym s.len;
  each = λ x y l k. s.done x y l (omega arith) (omega (arith, len, mul-add-lt y w x h k l));
}

-- a difference is at most twice as large as the sums
difference_bound : (b : ℕ) (sum difference predicted : ℤ) → sum ≡ difference +ℤ predicted → unsigned_abs sum ≤ b → unsigned_abs predicted ≤ b → unsigned_abs difference ≤ 2 * b
difference_bound b sum difference predicted e hs hp = omega (arith, ints, e)

pub differences_bound : (b w : ℕ) (xs ys : List ℤ) (p : ℕ) → DifferencesFrom w xs ys p → 1 ≤ w → All (λ v. unsigned_abs v ≤ b) xs → All (λ v. unsigned_abs v ≤ 2 * b) ys
differences_bound b w xs ys p s one all k d inside =
    let some : 0 < w = omega arith in
    let place : (k / w) * w + k % w ≡ k = div-add-mod' k w in
    let column : k % w < w = mod_below k w some in
    rw (get_or_default ys k d (pos 0) inside) (elim (cases_lt k p) [
      | inl below ↦ rw (s.rest k below) (omega (arith, values_bound b xs all k))
      | inr above ↦
          let here : unsigned_abs (value_at ys w (k % w) (k / w)) ≤ 2 * b =
          difference_bound b (value_at xs w (k % w) (k / w)) (value_at ys w (k % w) (k / w)) (prediction_in xs w (k % w) (k / w))
          (s.done (k % w) (k / w) column (omega (arith, place)) (omega (arith, place, s.len, inside)))
          (values_bound b xs all ((k / w) * w + k % w))
          (prediction_bound b w xs (k % w) (k / w) column (λ i j l before nearer. values_bound b xs all (j * w + i))) in
          rw place at here
    ])

-- sums that give the same differences are the same
sums_agree : (w h : ℕ) (ds xs ys : List ℤ) → length xs ≡ w * h → IsDcSum (by_rows w h ds) (by_rows w h xs) → IsDcSum (by_rows w h ds) (by_rows w h ys) → 0 < w → (n q : ℕ) → q < n → n ≤ w * h → get_or xs q (pos 0) ≡ get_or ys q (pos 0)
sums_agree w h ds xs ys len a b some zero q l most = absurd (omega arith)
sums_agree w h ds xs ys len a b some (suc n) q l most =
    let place : (q / w) * w + q % w ≡ q = div-add-mod' q w in
    let column : q % w < w = mod_below q w some in
    let row : q / w < h = div_below q w h some (omega arith) in
    let same : prediction_in xs w (q % w) (q / w) ≡ prediction_in ys w (q % w) (q / w) =
    prediction_same w xs ys (q % w) (q / w) column (λ r k. sums_agree w h ds xs ys len a b some n r (omega (arith, place, k)) (omega arith)) in
    let here : value_at xs w (q % w) (q / w) ≡ value_at ys w (q % w) (q / w) =
    a.each (q % w) (q / w) column row
    ∙ ap (λ p. value_at ds w (q % w) (q / w) +ℤ p) same
    ∙ sym (b.each (q % w) (q / w) column row) in
    rw place at here

pub sums_determined : (differences s t : Table) → 1 ≤ s.width → length s.values ≡ s.width * s.height → IsDcSum differences s → IsDcSum differences t → t ≡ s
sums_determined differences s t one len a b =
    let across : t.width ≡ s.width = b.width ∙ sym a.width in
    let down : t.height ≡ s.height = b.height ∙ sym a.height in
    let other : t ≡ by_rows s.width s.height t.values =
    ap (λ v. by_rows v t.height t.values) across ∙ ap (λ v. by_rows s.width v t.values) down in
    let before : differences ≡ by_rows s.width s.height differences.values =
    ap (λ v. by_rows v differences.height differences.values) (sym a.width) ∙ ap (λ v. by_rows s.width v differences.values) (sym a.height) in
    let first : IsDcSum (by_rows s.width s.height differences.values) s = subst (λ (d : Table). IsDcSum d s) before a in
    let second : IsDcSum (by_rows s.width s.height differences.values) (by_rows s.width s.height t.values) =
    subst (λ (d : Table). IsDcSum d (by_rows s.width s.height t.values)) before (subst (λ (u : Table). IsDcSum differences u) other b) in
    let values : t.values ≡ s.values =
    ext_get_or (pos 0) t.values s.values (b.len ∙ sym a.len)
    (λ q l. sym (sums_agree s.width s.height differences.values s.values t.values len first second (omega arith) (s.width * s.height) q (omega (arith, l, len, a.len, b.len)) (omega arith))) in
    other ∙ ap (by_rows s.width s.height) values

-- the four cases of a prediction, by the place
pub first_prediction : (xs : List ℤ) (w x y : ℕ) → y ≡ 0 → x ≡ 0 → pos 0 ≡ prediction_in xs w x y
unfolding prediction_in
first_prediction xs w x y top left = rw (eq-eqb y 0 top, eq-eqb x 0 left) refl

pub left_prediction : (xs : List ℤ) (w x y : ℕ) → y ≡ 0 → x ≢ 0 → get_or xs (y * w + x - 1) (pos 0) ≡ prediction_in xs w x y
unfolding prediction_in
left_prediction xs w x y top right =
    let place : y * w + x - 1 ≡ 0 * w + (x - 1) = rw top (omega arith) in
    rw (eq-eqb y 0 top, ne_eqb x 0 right) (ap (λ i. get_or xs i (pos 0)) place)

pub above_prediction : (xs : List ℤ) (w x y : ℕ) → y ≢ 0 → x ≡ 0 → get_or xs (y * w + x - w) (pos 0) ≡ prediction_in xs w x y
unfolding prediction_in
above_prediction xs w x y low left =
    let place : y * w + x - w ≡ (y - 1) * w + 0 = omega (arith, row_above y w low) in
    rw (ne_eqb y 0 low, eq-eqb x 0 left) (ap (λ i. get_or xs i (pos 0)) place)

pub mean_prediction : (xs : List ℤ) (w x y : ℕ) (v : ℤ) → y ≢ 0 → x ≢ 0 → v ≡ mean_of_three (get_or xs (y * w + x - 1) (pos 0)) (get_or xs (y * w + x - w) (pos 0)) (get_or xs (y * w + x - w - 1) (pos 0)) → v ≡ prediction_in xs w x y
unfolding prediction_in
mean_prediction xs w x y v low right e =
    let left : y * w + x - 1 ≡ y * w + (x - 1) = omega arith in
    let above : y * w + x - w ≡ (y - 1) * w + x = omega (arith, row_above y w low) in
    let corner : y * w + x - w - 1 ≡ (y - 1) * w + (x - 1) = omega (arith, row_above y w low) in
    rw (ne_eqb y 0 low, ne_eqb x 0 right)
    (e ∙ ap (λ i. mean_of_three (get_or xs i (pos 0)) (get_or xs (y * w + x - w) (pos 0)) (get_or xs (y * w + x - w - 1) (pos 0))) left
    ∙ ap (λ i. mean_of_three (get_or xs (y * w + (x - 1)) (pos 0)) (get_or xs i (pos 0)) (get_or xs (y * w + x - w - 1) (pos 0))) above
    ∙ ap (λ i. mean_of_three (get_or xs (y * w + (x - 1)) (pos 0)) (get_or xs ((y - 1) * w + x) (pos 0)) (get_or xs i (pos 0))) corner)

-- a table whose values were lent
pub lent_is : (t : Table) (ws : List ℤ) → length ws ≡ length t.values → with_values t ws ≡ by_rows t.width t.height ws
lent_is t ws e = ap (by_rows t.width t.height) (take_at ws (drop (length ws) t.values) (length t.values) e)

pub only_sums : (t : Table) (ws : List ℤ) → 1 ≤ t.width → length ws ≡ length t.values → length t.values ≡ t.width * t.height → IsDcSum (by_rows t.width t.height t.values) (by_rows t.width t.height ws) → (sums : Table) → IsDcSum t sums → sums ≡ with_values t ws
only_sums t ws one e len first sums second =
    sums_determined t (by_rows t.width t.height ws) sums one (e ∙ len) first second ∙ sym (lent_is t ws e)

length-sums : (ds : List ℤ) (w n : ℕ) → length (sums_up_to ds w n) ≡ n
unfolding sums_up_to
length-sums ds w zero = refl
length-sums ds w (suc n) =
    let before : List ℤ = sums_up_to ds w n in
    omega (arith, length_push before (get_or ds n (pos 0) +ℤ prediction_in before w (n % w) (n / w)), length-sums ds w n)

sums_front : (ds : List ℤ) (w n q : ℕ) → q < n → get_or (sums_up_to ds w n) q (pos 0) ≡ get_or ds q (pos 0) +ℤ prediction_in (sums_up_to ds w q) w (q % w) (q / w)
unfolding sums_up_to
sums_front ds w zero q l = absurd (omega arith)
sums_front ds w (suc n) q l =
    let before : List ℤ = sums_up_to ds w n in
    let last : ℤ = get_or ds n (pos 0) +ℤ prediction_in before w (n % w) (n / w) in
    elim (cases_eq q n) [
      | inl here ↦
          get_or_push before last (pos 0) q (length-sums ds w n ∙ sym here)
          ∙ ap (λ i. get_or ds i (pos 0) +ℤ prediction_in (sums_up_to ds w i) w (i % w) (i / w)) (sym here)
      | inr other ↦
          get_or_append_left before (last ∷ []) (pos 0) q (omega (arith, other, length-sums ds w n))
          ∙ sums_front ds w n q (omega (arith, other))
    ]

-- the sums of a table are its sums
pub is_sums : (t : Table) → length t.values ≡ t.width * t.height → IsDcSum t (dc_sum t)
is_sums t len = record {
  width = refl;
  height = refl;
  len = length-sums t.values t.width (length t.values);
  each = λ x y l k.
      let inside : y * t.width + x < length t.values = omega (arith, len, mul-add-lt y t.width x t.height k l) in
      let column : (y * t.width + x) % t.width ≡ x = mod-mul-add y t.width x l in
      let row : (y * t.width + x) / t.width ≡ y = div-mul-add y t.width x l in
      let here : get_or (sums_up_to t.values t.width (length t.values)) (y * t.width + x) (pos 0)
      ≡ get_or t.values (y * t.width + x) (pos 0) +ℤ prediction_in (sums_up_to t.values t.width (y * t.width + x)) t.width ((y * t.width + x) % t.width) ((y * t.width + x) / t.width) =
      sums_front t.values t.width (length t.values) (y * t.width + x) inside in
      here
      ∙ ap (λ i. get_or t.values (y * t.width + x) (pos 0) +ℤ prediction_in (sums_up_to t.values t.width (y * t.width + x)) t.width i ((y * t.width + x) / t.width)) column
      ∙ ap (λ j. get_or t.values (y * t.width + x) (pos 0) +ℤ prediction_in (sums_up_to t.values t.width (y * t.width + x)) t.width x j) row
      ∙ ap (λ p. get_or t.values (y * t.width + x) (pos 0) +ℤ p)
      (prediction_same t.width (sums_up_to t.values t.width (y * t.width + x)) (sums_up_to t.values t.width (length t.values)) x y l
      (λ r h. sums_front t.values t.width (y * t.width + x) r h ∙ sym (sums_front t.values t.width (length t.values) r (omega (arith, h, inside)))));
}

-- what is lent comes back as the sums
pub sums_lent : (t : Table) (ws : List ℤ) → 1 ≤ t.width → length ws ≡ length t.values → length t.values ≡ t.width * t.height → IsDcSum (by_rows t.width t.height t.values) (by_rows t.width t.height ws) → with_values t ws ≡ dc_sum t
sums_lent t ws one e len first = sym (only_sums t ws one e len first (dc_sum t) (is_sums t len))
