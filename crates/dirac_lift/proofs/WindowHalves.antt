-- Pairs of rows of a half of a level.
use Rattle.std.proofs.Common.{◌≡◌, ℕ, zero, suc, ℤ, pos, ◌+◌, ◌-◌, ◌*◌, ◌/◌, ◌%◌, ◌<◌, ◌≤◌, unsigned_abs, List, length, get_or, take, drop, arith, refl, ap, sym, ◌∙◌, length-take, length-drop}
use Rattle.std.specs.Prelude.{slice_range}
use Rattle.std.specs.List.{All}
use Rattle.std.proofs.Math.Nat.{add-mul}
use Rattle.std.proofs.lemmas.List.{drop-drop, drop-take, ext_get_or, get_or-drop, get_or-take, take-take}
use Rattle.std.proofs.lemmas.List.Elements.{All-drop, All-take}
use Rattle.std.proofs.lemmas.Nat.{div-add-mod', div_below, mod_below, mul-add-lt, mul-le}
use Rattle.dirac_lift.specs.Level.{row_in}
use Rattle.dirac_lift.specs.Windows.{window_half}

-- n rows of w values from row c on
slice_at : (w c n : ℕ) (xs : List ℤ) (i : ℕ) → i < n * w → get_or (slice_range xs (c * w) ((c + n) * w)) i (pos 0) ≡ get_or xs (c * w + i) (pos 0)
slice_at w c n xs i l =
    let size : (c + n) * w - c * w ≡ n * w = omega (arith, add-mul c n w) in
    get_or-take ((c + n) * w - c * w) (drop (c * w) xs) i (pos 0) (omega (arith, size, l)) ∙ get_or-drop (c * w) xs i (pos 0)

slice_len : (w c n h : ℕ) (xs : List ℤ) → length xs ≡ w * h → c + n ≤ h → length (slice_range xs (c * w) ((c + n) * w)) ≡ n * w
slice_len w c n h xs len fits =
    let size : (c + n) * w - c * w ≡ n * w = omega (arith, add-mul c n w) in
    let most : (c + n) * w ≤ h * w = mul-le (c + n) w h w fits (omega arith) in
    simp (length-take, length-drop) (omega (arith, size, most, add-mul c n w, len))

place_in_row : (w c y x i : ℕ) → y * w + x ≡ i → c * w + i ≡ (c + y) * w + x
place_in_row w c y x i e = omega (arith, e, add-mul c y w)

wide : (n w i : ℕ) → i < n * w → 0 < w
wide n zero i l = absurd (omega (arith, l))
wide n (suc w) i l = omega arith

-- rows of two lists that are the same value by value
pub strips_alike : (w n c d hc hd : ℕ) (xs ys : List ℤ) → length xs ≡ w * hc → length ys ≡ w * hd → c + n ≤ hc → d + n ≤ hd → ((x y : ℕ) → x < w → y < n → get_or xs ((c + y) * w + x) (pos 0) ≡ get_or ys ((d + y) * w + x) (pos 0)) → slice_range xs (c * w) ((c + n) * w) ≡ slice_range ys (d * w) ((d + n) * w)
strips_alike w n c d hc hd xs ys lx ly fc fd each =
    let len : length (slice_range xs (c * w) ((c + n) * w)) ≡ n * w = slice_len w c n hc xs lx fc in
    ext_get_or (pos 0) (slice_range xs (c * w) ((c + n) * w)) (slice_range ys (d * w) ((d + n) * w)) (len ∙ sym (slice_len w d n hd ys ly fd)) (λ i l.
    let inside : i < n * w = omega (arith, l, len) in
    let some : 0 < w = wide n w i inside in
    let place : (i / w) * w + i % w ≡ i = div-add-mod' i w in
    slice_at w c n xs i inside
    ∙ ap (λ j. get_or xs j (pos 0)) (place_in_row w c (i / w) (i % w) i place)
    ∙ each (i % w) (i / w) (mod_below i w some) (div_below i w n some inside)
    ∙ sym (slice_at w d n ys i inside ∙ ap (λ j. get_or ys j (pos 0)) (place_in_row w d (i / w) (i % w) i place)))

-- the same of a row
pub row_is_strip : (w y : ℕ) (xs : List ℤ) → row_in xs w y ≡ slice_range xs (y * w) ((y + 1) * w)
row_is_strip w y xs = ap (slice_range xs (y * w)) (omega (arith, add-mul y 1 w))

-- the pairs of a window
pub half_at : (w a b : ℕ) (half : List ℤ) (n x : ℕ) → a ≤ b → n < b - a → x < w → get_or (window_half w a b half) (n * w + x) (pos 0) ≡ get_or half ((a + n) * w + x) (pos 0)
half_at w a b half n x fits l k =
    let end : b ≡ a + (b - a) = omega (arith, fits) in
    ap (λ e. get_or (slice_range half (a * w) (e * w)) (n * w + x) (pos 0)) end
    ∙ slice_at w a (b - a) half (n * w + x) (omega (arith, mul-add-lt n w x (b - a) l k))
    ∙ ap (λ j. get_or half j (pos 0)) (place_in_row w a n x (n * w + x) refl)

pub length-window_half : (w h a b : ℕ) (half : List ℤ) → length half ≡ w * h → a ≤ b → b ≤ h → length (window_half w a b half) ≡ w * (b - a)
length-window_half w h a b half len fits down =
    let end : b ≡ a + (b - a) = omega (arith, fits) in
    ap (λ e. length (slice_range half (a * w) (e * w))) end
    ∙ slice_len w a (b - a) h half len (omega (arith, fits, down))
    ∙ omega arith

pub row_in-window_half : (w a b n : ℕ) (half : List ℤ) → n < b - a → row_in (window_half w a b half) w n ≡ row_in half w (a + n)
row_in-window_half w a b n half l =
    let rest : ℕ = (b - a - n) * w in
    let end : b ≡ a + (n + (b - a - n)) = omega (arith, l) in
    let size : b * w - a * w ≡ n * w + rest = omega (arith, ap (λ e. e * w) end, add-mul a (n + (b - a - n)) w, add-mul n (b - a - n) w) in
    let most : w ≤ rest = omega (arith, mul-le 1 w (b - a - n) w (omega (arith, l)) (omega arith)) in
    let here : n * w + w - n * w ≡ w = omega arith in
    let there : (a + n) * w + w - (a + n) * w ≡ w = omega arith in
    ap (λ m. take (n * w + w - n * w) (drop (n * w) (take m (drop (a * w) half)))) size
    ∙ ap (take (n * w + w - n * w)) (drop-take (n * w) rest (drop (a * w) half) ∙ ap (take rest) (drop-drop (n * w) (a * w) half))
    ∙ ap (λ m. take m (take rest (drop (a * w + n * w) half))) here
    ∙ take-take w rest (drop (a * w + n * w) half) most
    ∙ ap (λ m. take w (drop m half)) (sym (add-mul a n w))
    ∙ ap (λ m. take m (drop ((a + n) * w) half)) (sym there)

pub window_half_bound : (most w a b : ℕ) (half : List ℤ) → All (λ v. unsigned_abs v ≤ most) half → All (λ v. unsigned_abs v ≤ most) (window_half w a b half)
window_half_bound most w a b half all =
    All-take (λ v. unsigned_abs v ≤ most) (b * w - a * w) (drop (a * w) half) (All-drop (λ v. unsigned_abs v ≤ most) (a * w) half all)
