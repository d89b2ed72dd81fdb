-- How large weighted sums become.
use Rattle.std.proofs.Common.{◌≡◌, ℕ, zero, suc, ℤ, pos, ◌+◌, ◌*◌, ◌^◌, ◌<◌, ◌≤◌, ◌+ℤ◌, ◌*ℤ◌, unsigned_abs, List, length, get_or, take, arith, ap, refl}
use Rattle.std.specs.List.{sum_by}
use Rattle.std.proofs.lemmas.Int.{ints, unsigned_abs-mul}
use Rattle.std.proofs.lemmas.Nat.{mul-le}
use Rattle.std.proofs.lemmas.List.{take_all}
use Rattle.std.proofs.lemmas.List.Sums.{sum_by_more, sum_by-take-le}
use Rattle.dirac_lift.specs.Lifting.{PlacesWithin, weighted}

-- the first taps
abs-weighted_take : (taps : List ℤ) (f : ℕ → ℤ) (b m : ℕ) → ((k : ℕ) → unsigned_abs (f k) ≤ b) → m ≤ length taps → unsigned_abs (weighted taps f m) ≤ sum_by unsigned_abs (take m taps) * b
abs-weighted_take taps f b zero h l = omega arith
abs-weighted_take taps f b (suc m) h l =
    let next : suc m ≡ m + 1 = omega arith in
    let before : unsigned_abs (weighted taps f m) ≤ sum_by unsigned_abs (take m taps) * b = abs-weighted_take taps f b m h (omega arith) in
    let last : unsigned_abs (get_or taps m (pos 0) *ℤ f m) ≤ unsigned_abs (get_or taps m (pos 0)) * b =
    omega (arith, unsigned_abs-mul (get_or taps m (pos 0)) (f m), mul-le (unsigned_abs (get_or taps m (pos 0))) (unsigned_abs (f m)) (unsigned_abs (get_or taps m (pos 0))) b (omega arith) (h m)) in
    let sum : sum_by unsigned_abs (take (m + 1) taps) ≡ sum_by unsigned_abs (take m taps) + unsigned_abs (get_or taps m (pos 0)) = sum_by_more unsigned_abs taps m (pos 0) (omega arith) in
    rw (next, sum) (omega (arith, ints, before, last))

-- the sum so far and one tap more
pub one_more_fits : (taps : List ℤ) (f : ℕ → ℤ) (b m : ℕ) → ((k : ℕ) → unsigned_abs (f k) ≤ b) → m < length taps → unsigned_abs (weighted taps f m) + unsigned_abs (get_or taps m (pos 0)) * b ≤ sum_by unsigned_abs taps * b
one_more_fits taps f b m h l =
    let all : sum_by unsigned_abs (take (m + 1) taps) ≤ sum_by unsigned_abs taps = sum_by-take-le unsigned_abs taps (m + 1) in
    let next : sum_by unsigned_abs (take (m + 1) taps) ≡ sum_by unsigned_abs (take m taps) + unsigned_abs (get_or taps m (pos 0)) = sum_by_more unsigned_abs taps m (pos 0) l in
    let part : sum_by unsigned_abs (take m taps) + unsigned_abs (get_or taps m (pos 0)) ≤ sum_by unsigned_abs taps = omega (arith, all, next) in
    omega (
      arith,
      abs-weighted_take taps f b m h (omega arith),
      mul-le (sum_by unsigned_abs (take m taps) + unsigned_abs (get_or taps m (pos 0))) b (sum_by unsigned_abs taps) b part (omega arith),
    )

-- all taps
pub abs-weighted : (taps : List ℤ) (f : ℕ → ℤ) (b : ℕ) → ((k : ℕ) → unsigned_abs (f k) ≤ b) → unsigned_abs (weighted taps f (length taps)) ≤ sum_by unsigned_abs taps * b
abs-weighted taps f b h =
    let most : unsigned_abs (weighted taps f (length taps)) ≤ sum_by unsigned_abs (take (length taps) taps) * b = abs-weighted_take taps f b (length taps) h (omega arith) in
    omega (arith, most, ap (λ ts. sum_by unsigned_abs ts * b) (take_all (length taps) taps (omega arith)))

-- a tap can be added
pub tap_fits : (taps : List ℤ) (f : ℕ → ℤ) (m : ℕ) (sum tap value : ℤ) → sum ≡ weighted taps f m → tap ≡ get_or taps m (pos 0) → unsigned_abs value ≤ 2 ^ 112 → ((k : ℕ) → unsigned_abs (f k) ≤ 2 ^ 112) → m < length taps → sum_by unsigned_abs taps ≤ 2 ^ 14 → unsigned_abs sum + unsigned_abs tap * unsigned_abs value ≤ 2 ^ 126
tap_fits taps f m sum tap value es et hv h l s =
    rw (es, et) (omega (
      arith,
      one_more_fits taps f (2 ^ 112) m h l,
      mul-le (sum_by unsigned_abs taps) (2 ^ 112) (2 ^ 14) (2 ^ 112) s (omega arith),
      mul-le (unsigned_abs (get_or taps m (pos 0))) (unsigned_abs value) (unsigned_abs (get_or taps m (pos 0))) (2 ^ 112) (omega arith) hv,
    ))

pub sum_fits : (taps : List ℤ) (f : ℕ → ℤ) (m : ℕ) (sum : ℤ) → sum ≡ weighted taps f m → m ≡ length taps → ((k : ℕ) → unsigned_abs (f k) ≤ 2 ^ 112) → sum_by unsigned_abs taps ≤ 2 ^ 14 → unsigned_abs sum ≤ 2 ^ 126
sum_fits taps f m sum es em h s =
    rw (es, em) (omega (arith, abs-weighted taps f (2 ^ 112) h, mul-le (sum_by unsigned_abs taps) (2 ^ 112) (2 ^ 14) (2 ^ 112) s (omega arith)))

-- a place that is read, through the bits
pub place_within : (b parity : ℕ) (xs : List ℤ) (p n : ℕ) (v : ℤ) → PlacesWithin b parity xs → p ≡ 2 * n + parity → v ≡ get_or xs p (pos 0) → unsigned_abs v ≤ b
place_within b parity xs p n v h ep ev = rw (ev, ep) (h n)

-- one tap more
pub weighted_more : (taps : List ℤ) (f : ℕ → ℤ) (m : ℕ) (sum tap value next : ℤ) → sum ≡ weighted taps f m → tap ≡ get_or taps m (pos 0) → value ≡ f m → next ≡ sum +ℤ tap *ℤ value → next ≡ weighted taps f (m + 1)
weighted_more taps f m sum tap value next es et ev en =
    let after : m + 1 ≡ suc m = omega arith in
    rw (after, en, es, et, ev) refl
