-- Halves of lines that are changed pair by pair, in 32 bits.
use Rattle.std.proofs.Common.{◌≡◌, ℕ, ℤ, pos, ◌+◌, ◌-◌, ◌*◌, ◌/◌, ◌%◌, ◌^◌, ◌<◌, ◌≤◌, ◌+ℤ◌, ◌*ℤ◌, unsigned_abs, to_z, of_z, List, length, get_or, set, arith, inl, inr, ap, sym, ◌∙◌, subst}
use Rattle.std.specs.Int.{w32}
use Rattle.std.specs.List.{All, sum_by}
use Rattle.std.proofs.lemmas.Int.{ints, to_z-of_z, fits_signed_from_abs, unsigned_abs-mul}
use Rattle.std.proofs.lemmas.Nat.{mul-le, same_from_place, mul-add-lt, one_shl}
use Rattle.std.proofs.lemmas.List.{get_or-set_same, get_or-set_other, length-set}
use Rattle.std.proofs.lemmas.Bool.{cases_eq}
use Rattle.std.proofs.Math.Nat.{div-le_self}
use Rattle.std.proofs.Math.Pow.{pow_mono}
use lib.Signed.{shr_z}
use mir.Val.{SFits}
use Rattle.dirac_common.proofs.Bounds.{values_bound}
use Rattle.dirac_common.proofs.Shifts.{shr_sum_is}
use Rattle.dirac_lift.specs.Lifting.{Step, moved, rounded, weighted}
use Rattle.dirac_lift.specs.Halves.{HalfLifted, half_read, half_value}
use Rattle.dirac_lift.proofs.Signed.{half_is, abs-rounded}
use Rattle.dirac_lift.proofs.Weighted.{one_more_fits, abs-weighted, weighted_more}

-- a product that is added, and the sum
pub product_fits : (sum tap value : ℤ) → unsigned_abs sum + unsigned_abs tap * unsigned_abs value ≤ 2 ^ 31 - 2 ^ 22 → SFits w32 (tap *ℤ value)
product_fits sum tap value l = fits_signed_from_abs w32 (tap *ℤ value) (omega (arith, l, unsigned_abs-mul tap value))

pub product_is : (sum tap value : ℤ) → unsigned_abs sum + unsigned_abs tap * unsigned_abs value ≤ 2 ^ 31 - 2 ^ 22 → to_z w32 (of_z w32 (tap *ℤ value)) ≡ tap *ℤ value
product_is sum tap value l = to_z-of_z w32 (tap *ℤ value) (product_fits sum tap value l)

pub added_fits : (sum tap value : ℤ) → unsigned_abs sum + unsigned_abs tap * unsigned_abs value ≤ 2 ^ 31 - 2 ^ 22 → SFits w32 (sum +ℤ tap *ℤ value)
added_fits sum tap value l = fits_signed_from_abs w32 (sum +ℤ tap *ℤ value) (omega (arith, ints, l, unsigned_abs-mul tap value))

-- half a power of two
pub half_small : (k : ℕ) → k ≤ 12 → 2 ^ k / 2 ≤ 2 ^ 11
half_small k l = let p : 2 ^ k ≤ 2 ^ 12 = pow_mono {i = k} {j = 12} l in omega (arith, p)

-- the code's rounded sum
pub rounded_is : (x : ℤ) (m : ℕ) → m ≤ 12 → unsigned_abs x ≤ 2 ^ 31 - 2 ^ 22 → to_z w32 (of_z w32 (shr_z (to_z w32 (of_z w32 (to_z w32 (of_z w32 x) +ℤ to_z w32 (of_z w32 (shr_z (to_z w32 (1 * 2 ^ m % 2 ^ 32)) 2))))) (2 ^ m))) ≡ rounded m x
rounded_is x m l h =
    let power : 2 ^ m ≤ 2 ^ 12 = pow_mono {i = m} {j = 12} l in
    let half : shr_z (to_z w32 (1 * 2 ^ m % 2 ^ 32)) 2 ≡ pos (2 ^ m / 2) =
    half_is w32 m (2 ^ 32) (one_shl m 32 (omega arith)) (omega arith) in
    ap (λ z. to_z w32 (of_z w32 (shr_z (to_z w32 (of_z w32 (to_z w32 (of_z w32 x) +ℤ to_z w32 (of_z w32 z)))) (2 ^ m)))) half
    ∙ shr_sum_is w32 x (pos (2 ^ m / 2)) (2 ^ m) (fits_signed_from_abs w32 x (omega arith)) (fits_signed_from_abs w32 (pos (2 ^ m / 2)) (omega arith))
    (fits_signed_from_abs w32 (x +ℤ pos (2 ^ m / 2)) (omega (arith, ints)))

pub rounded_small : (x : ℤ) (k : ℕ) → k ≤ 12 → unsigned_abs x ≤ 2 ^ 31 - 2 ^ 22 → unsigned_abs (rounded k x) ≤ 2 ^ 31 - 2 ^ 22 + 2 ^ 11
rounded_small x k l h =
    let p : 2 ^ k / 2 ≤ 2 ^ 11 = half_small k l in
    omega (arith, h, p, abs-rounded x k, div-le_self (unsigned_abs x + 2 ^ k / 2) (2 ^ k))

-- any place of a list whose values are small
pub abs-read : (b : ℕ) (xs : List ℤ) (p : ℕ) → All (λ v. unsigned_abs v ≤ b) xs → unsigned_abs (get_or xs p (pos 0)) ≤ b
abs-read b xs p all = values_bound b xs all p

pub abs-read_is : (b : ℕ) (xs : List ℤ) (p : ℕ) (v : ℤ) → All (λ v. unsigned_abs v ≤ b) xs → v ≡ get_or xs p (pos 0) → unsigned_abs v ≤ b
abs-read_is b xs p v all e = rw e (abs-read b xs p all)

-- a tap can be added
pub tap_fits : (taps : List ℤ) (f : ℕ → ℤ) (b most m : ℕ) (sum tap value : ℤ) → sum ≡ weighted taps f m → tap ≡ get_or taps m (pos 0) → unsigned_abs value ≤ b → ((k : ℕ) → unsigned_abs (f k) ≤ b) → m < length taps → sum_by unsigned_abs taps * b ≤ most → unsigned_abs sum + unsigned_abs tap * unsigned_abs value ≤ most
tap_fits taps f b most m sum tap value es et hv h l s =
    rw (es, et) (omega (
      arith,
      s,
      one_more_fits taps f b m h l,
      mul-le (unsigned_abs (get_or taps m (pos 0))) (unsigned_abs value) (unsigned_abs (get_or taps m (pos 0))) b (omega arith) hv,
    ))

pub sum_fits : (taps : List ℤ) (f : ℕ → ℤ) (b most m : ℕ) (sum : ℤ) → sum ≡ weighted taps f m → m ≡ length taps → ((k : ℕ) → unsigned_abs (f k) ≤ b) → sum_by unsigned_abs taps * b ≤ most → unsigned_abs sum ≤ most
sum_fits taps f b most m sum es em h s = rw (es, em) (omega (arith, s, abs-weighted taps f b h))

-- a tap more that reads place i of a list: that it can be added, and the sum behind it
pub read_fits : (taps reads : List ℤ) (f : ℕ → ℤ) (b most m i : ℕ) (sum : ℤ) → SFits w32 (get_or taps m (pos 0)) → SFits w32 (get_or reads i (pos 0)) → sum ≡ weighted taps f m → All (λ v. unsigned_abs v ≤ b) reads → ((k : ℕ) → unsigned_abs (f k) ≤ b) → m < length taps → sum_by unsigned_abs taps * b ≤ most → unsigned_abs sum + unsigned_abs (to_z w32 (of_z w32 (get_or taps m (pos 0)))) * unsigned_abs (to_z w32 (of_z w32 (get_or reads i (pos 0)))) ≤ most
read_fits taps reads f b most m i sum ft fr es all h l s =
    tap_fits taps f b most m sum (to_z w32 (of_z w32 (get_or taps m (pos 0)))) (to_z w32 (of_z w32 (get_or reads i (pos 0)))) es (to_z-of_z w32 _ ft) (abs-read_is b reads i _ all (to_z-of_z w32 _ fr)) h l s

pub read_more : (taps reads : List ℤ) (f : ℕ → ℤ) (m i : ℕ) (sum next : ℤ) → SFits w32 (get_or taps m (pos 0)) → SFits w32 (get_or reads i (pos 0)) → SFits w32 next → sum ≡ weighted taps f m → get_or reads i (pos 0) ≡ f m → next ≡ sum +ℤ to_z w32 (of_z w32 (get_or taps m (pos 0))) *ℤ to_z w32 (of_z w32 (get_or reads i (pos 0))) → to_z w32 (of_z w32 next) ≡ weighted taps f (m + 1)
read_more taps reads f m i sum next ft fr fn es er en =
    weighted_more taps f m sum (to_z w32 (of_z w32 (get_or taps m (pos 0)))) (to_z w32 (of_z w32 (get_or reads i (pos 0)))) (to_z w32 (of_z w32 next)) es (to_z-of_z w32 _ ft) (to_z-of_z w32 _ fr ∙ er) (to_z-of_z w32 _ fn ∙ en)

-- the pairs whose places are below i are changed
pub record HalfBelow (s : Step) (w h : ℕ) (os rs ys : List ℤ) (i : ℕ) : Type 0 where
  pub len : length ys ≡ length os
  pub done : (m x : ℕ) → x < w → m * w + x < i → get_or ys (m * w + x) (pos 0) ≡ half_value s w h os rs m x
  pub rest : (k : ℕ) → i ≤ k → get_or ys k (pos 0) ≡ get_or os k (pos 0)

pub half_more : (s : Step) (w h : ℕ) (os rs ys : List ℤ) (n p : ℕ) (v : ℤ) → HalfBelow s w h os rs ys (n * w + p) → p < w → n * w + p < length os → v ≡ half_value s w h ys rs n p → HalfBelow s w h os rs (set ys (n * w + p) v) (n * w + (p + 1))
half_more s w h os rs ys n p v b l inside e = record {
  len = length-set ys (n * w + p) v ∙ b.len;
  done = λ m x xw lt. elim (cases_eq (m * w + x) (n * w + p)) [
    | inl here ↦
        ap (λ i. get_or (set ys (n * w + p) v) i (pos 0)) here
        ∙ get_or-set_same ys (n * w + p) v (pos 0) (omega (arith, inside, b.len))
        ∙ e
        ∙ ap (λ a. moved s.minus a (rounded s.shift (weighted s.taps (half_read s.lead w h rs n p) (length s.taps)))) (b.rest (n * w + p) (omega arith))
        ∙ sym (ap (λ j. half_value s w h os rs j x) ((same_from_place m x n p w xw l here).0) ∙ ap (half_value s w h os rs n) ((same_from_place m x n p w xw l here).1))
    | inr before ↦
        get_or-set_other ys (n * w + p) (m * w + x) v (pos 0) before ∙ b.done m x xw (omega (arith, lt, before))
  ];
  rest = λ k lt. get_or-set_other ys (n * w + p) k v (pos 0) (λ f. omega (arith, f, lt)) ∙ b.rest k (omega (arith, lt));
}

-- the same of a single line, by the sum of its step
pub half_one : (s : Step) (h : ℕ) (os rs ys : List ℤ) (n : ℕ) (sum : ℤ) → HalfBelow s 1 h os rs ys n → n < length os → sum ≡ weighted s.taps (half_read s.lead 1 h rs n 0) (length s.taps) → HalfBelow s 1 h os rs (set ys n (moved s.minus (get_or ys n (pos 0)) (rounded s.shift sum))) (n + 1)
half_one s h os rs ys n sum b l e =
    let here : n * 1 + 0 ≡ n = omega arith in
    let next : n * 1 + (0 + 1) ≡ n + 1 = omega arith in
    let value : moved s.minus (get_or ys n (pos 0)) (rounded s.shift sum) ≡ half_value s 1 h ys rs n 0 =
    ap (λ i. moved s.minus (get_or ys i (pos 0)) (rounded s.shift sum)) (sym here)
    ∙ ap (λ z. moved s.minus (get_or ys (n * 1 + 0) (pos 0)) (rounded s.shift z)) e in
    subst (λ i. HalfBelow s 1 h os rs (set ys i (moved s.minus (get_or ys n (pos 0)) (rounded s.shift sum))) (n + 1)) here
    (subst (HalfBelow s 1 h os rs (set ys (n * 1 + 0) (moved s.minus (get_or ys n (pos 0)) (rounded s.shift sum)))) next
    (half_more s 1 h os rs ys n 0 (moved s.minus (get_or ys n (pos 0)) (rounded s.shift sum)) (subst (HalfBelow s 1 h os rs ys) (sym here) b) (omega arith) (omega (arith, l)) value))

pub half_at : (s : Step) (w h : ℕ) (os rs ys : List ℤ) (i j : ℕ) → HalfBelow s w h os rs ys i → i ≡ j → HalfBelow s w h os rs ys j
half_at s w h os rs ys i j b e = subst (HalfBelow s w h os rs ys) e b

pub half_end : (s : Step) (w h : ℕ) (os rs ys : List ℤ) (i : ℕ) → HalfBelow s w h os rs ys i → w * h ≤ i → HalfLifted s w h os rs ys
half_end s w h os rs ys i b all = record {
  len = b.len;
  each = λ n x ln lx. b.done n x lx (omega (arith, all, mul-add-lt n w x h ln lx));
}

-- what is changed next is still small
pub half_still : (s : Step) (w h : ℕ) (os rs ys : List ℤ) (i k b : ℕ) → HalfBelow s w h os rs ys i → i ≤ k → All (λ v. unsigned_abs v ≤ b) os → unsigned_abs (get_or ys k (pos 0)) ≤ b
half_still s w h os rs ys i k b below l all = rw (below.rest k l) (abs-read b os k all)
