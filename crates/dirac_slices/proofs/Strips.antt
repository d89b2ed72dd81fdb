-- Some rows of a plane of samples, from as many of its residual and of its predictions.
use Rattle.std.proofs.Common.{◌≡◌, ℕ, ℤ, pos, ◌+◌, ◌-◌, ◌*◌, ◌/◌, ◌%◌, ◌<◌, ◌≤◌, ◌+ℤ◌, List, [], ◌∷◌, ◌++◌, length, length-append, get_or, ap, subst, sym, ◌∙◌, arith, refl, inl, inr}
use Rattle.std.specs.Simd.Lanes.{zip2}
use Rattle.std.proofs.Math.Nat.{mul-add, mul_comm}
use Rattle.std.proofs.lemmas.Bool.{cases_lt}
use Rattle.std.proofs.lemmas.List.{length-map, get_or-map, get_or_append_left, get_or-append_right}
use Rattle.std.proofs.lemmas.List.FromFn.{length-map-range_with_len}
use Rattle.std.proofs.lemmas.Nat.{mul-add-lt}
use Rattle.std.proofs.lemmas.Simd.{get_or-zip2, length-zip2}
use Rattle.dirac_common.proofs.Rows.{filled_at, rows_all}
use Rattle.dirac_common.specs.Samples.{clip}
use Rattle.dirac_common.specs.Table.{Table, filled, table_at, table_of}
use Rattle.dirac_synthesis.specs.Residual.{clipped, with_prediction}

-- a table told by column and row
pub told : (f : ℕ → ℕ → ℤ) (t : Table) (w h : ℕ) → t.width ≡ w → t.height ≡ h → 0 < w → length t.values ≡ w * h → ((x y : ℕ) → x < w → y < h → table_at t x y ≡ f x y) → t ≡ table_of w h f
told f t w h ew eh some len each =
    let sizes : length t.values ≡ t.width * t.height = rw (ew, eh) len in
    rows_all f t w h h ew eh some (omega arith) (record { len = sizes; done = λ x y p q. each x y (omega (arith, p, ew)) q })

-- how many values a table has that is told so
pub filled_length : (w h : ℕ) (f : ℕ → ℕ → ℤ) → length (filled w h f) ≡ w * h
unfolding filled
filled_length w h f = length-map-range_with_len (λ p. f (p % w) (p / w)) 0 (w * h)

-- a sample where nothing is predicted
clip_at : (t : Table) (x y : ℕ) → y * t.width + x < length t.values → table_at (clipped t) x y ≡ clip (table_at t x y)
clip_at t x y l = get_or-map clip t.values (y * t.width + x) (pos 0) (pos 0) l

-- a sample where something is
sum_at : (t : Table) (ws : List ℤ) (x y : ℕ) → length ws ≡ length t.values → y * t.width + x < length t.values
    → table_at (clipped (with_prediction t ws)) x y ≡ clip (table_at t x y +ℤ get_or ws (y * t.width + x) (pos 0))
sum_at t ws x y same l =
    get_or-map clip (zip2 (λ v other. v +ℤ other) t.values ws) (y * t.width + x) (pos 0) (pos 0) (omega (arith, l, length-zip2 (λ (v : ℤ) (o : ℤ). v +ℤ o) t.values ws (sym same)))
    ∙ ap clip (get_or-zip2 (λ v other. v +ℤ other) t.values ws (y * t.width + x) (pos 0) (pos 0) (pos 0) l (omega (arith, l, same)))

-- the place of a value, and that of the same value in the whole
inside : (w h x y : ℕ) → x < w → y < h → y * w + x < w * h
inside w h x y l k = mul-add-lt y w x h k l

-- rows of an intra plane
pub clip_strip : (whole rows : Table) (w h n a : ℕ) → 0 < w → a + n ≤ h → whole.width ≡ w → length whole.values ≡ w * h → rows ≡ table_of w n (λ x y. table_at whole x (a + y))
    → clipped rows ≡ table_of w n (λ x y. table_at (clipped whole) x (a + y))
clip_strip whole rows w h n a some fits across len is =
    let width : rows.width ≡ w = ap (λ (t : Table). t.width) is in
    let height : rows.height ≡ n = ap (λ (t : Table). t.height) is in
    let values : length rows.values ≡ w * n = ap (λ (t : Table). length t.values) is ∙ filled_length w n (λ x y. table_at whole x (a + y)) in
    told (λ x y. table_at (clipped whole) x (a + y)) (clipped rows) w n width height some (length-map rows.values clip ∙ values) (λ x y p q.
    let here : y * rows.width + x < length rows.values = rw (width, values) (inside w n x y p q) in
    let there : (a + y) * whole.width + x < length whole.values = rw (across, len) (inside w h x (a + y) p (omega arith)) in
    clip_at rows x y here
    ∙ ap clip (ap (λ (t : Table). table_at t x y) is ∙ filled_at (λ x y. table_at whole x (a + y)) w n x y p q)
    ∙ sym (clip_at whole x (a + y) there))

-- rows of an inter plane
pub sum_strip : (whole rows : Table) (f : ℕ → ℕ → ℤ) (ps ws : List ℤ) (w h n a : ℕ) → 0 < w → a + n ≤ h → whole.width ≡ w → length whole.values ≡ w * h
    → rows ≡ table_of w n (λ x y. table_at whole x (a + y)) → ps ≡ filled w h f → ws ≡ filled w n (λ x y. f x (a + y))
    → clipped (with_prediction rows ws) ≡ table_of w n (λ x y. table_at (clipped (with_prediction whole ps)) x (a + y))
sum_strip whole rows f ps ws w h n a some fits across len is all part =
    let width : rows.width ≡ w = ap (λ (t : Table). t.width) is in
    let height : rows.height ≡ n = ap (λ (t : Table). t.height) is in
    let values : length rows.values ≡ w * n = ap (λ (t : Table). length t.values) is ∙ filled_length w n (λ x y. table_at whole x (a + y)) in
    let same : length ws ≡ length rows.values = ap length part ∙ filled_length w n (λ x y. f x (a + y)) ∙ sym values in
    let alike : length ps ≡ length whole.values = ap length all ∙ filled_length w h f ∙ sym len in
    let sums : length (zip2 (λ (v : ℤ) (o : ℤ). v +ℤ o) rows.values ws) ≡ w * n = length-zip2 (λ (v : ℤ) (o : ℤ). v +ℤ o) rows.values ws (sym same) ∙ values in
    told (λ x y. table_at (clipped (with_prediction whole ps)) x (a + y)) (clipped (with_prediction rows ws)) w n width height some
    (length-map (zip2 (λ (v : ℤ) (o : ℤ). v +ℤ o) rows.values ws) clip ∙ sums) (λ x y p q.
    let here : y * rows.width + x < length rows.values = rw (width, values) (inside w n x y p q) in
    let there : (a + y) * whole.width + x < length whole.values = rw (across, len) (inside w h x (a + y) p (omega arith)) in
    let residual : table_at rows x y ≡ table_at whole x (a + y) = ap (λ (t : Table). table_at t x y) is ∙ filled_at (λ x y. table_at whole x (a + y)) w n x y p q in
    let predicted : get_or ws (y * rows.width + x) (pos 0) ≡ f x (a + y) =
    ap (λ v. get_or ws (y * v + x) (pos 0)) width ∙ ap (λ xs. get_or xs (y * w + x) (pos 0)) part ∙ filled_at (λ x y. f x (a + y)) w n x y p q in
    let wanted : get_or ps ((a + y) * whole.width + x) (pos 0) ≡ f x (a + y) =
    ap (λ v. get_or ps ((a + y) * v + x) (pos 0)) across ∙ ap (λ xs. get_or xs ((a + y) * w + x) (pos 0)) all ∙ filled_at f w h x (a + y) p (omega arith) in
    sum_at rows ws x y same here
    ∙ ap clip (ap (λ v. v +ℤ get_or ws (y * rows.width + x) (pos 0)) residual ∙ ap (λ v. table_at whole x (a + y) +ℤ v) (predicted ∙ sym wanted))
    ∙ sym (sum_at whole ps x (a + y) alike there))

-- how many values stand above and below a row
pub room_joined : (w from mid to : ℕ) → from ≤ mid → mid ≤ to → w * (mid - from) + w * (to - mid) ≡ w * (to - from)
room_joined w from mid to l k =
    let all : to - from ≡ mid - from + (to - mid) = omega arith in
    sym (ap (λ n. w * n) all ∙ mul-add w (mid - from) (to - mid))

-- where a value stands behind the first rows
behind : (w a x y z : ℕ) → y ≡ a + z → y * w + x ≡ w * a + (z * w + x)
behind w a x y z is =
    let product : w * (a + z) ≡ w * a + w * z = mul-add w a z in
    let turned : y * w ≡ w * (a + z) = mul_comm y w ∙ ap (λ n. w * n) is in
    let other : z * w ≡ w * z = mul_comm z w in
    omega (arith, product, turned, other)

-- a value of the rows behind
value_behind : (f : ℕ → ℕ → ℤ) (w from a b x y z : ℕ) (front back : List ℤ) → length front ≡ w * a → back ≡ filled w b (λ x y. f x (from + a + y)) → y ≡ a + z → x < w → z < b
    → get_or (front ++ back) (y * w + x) (pos 0) ≡ f x (from + y)
value_behind f w from a b x y z front back above is at across down =
    let place : y * w + x ≡ w * a + (z * w + x) = behind w a x y z at in
    let rest : y * w + x - w * a ≡ z * w + x = omega (arith, place) in
    let reached : w * a ≤ y * w + x = omega (arith, place) in
    let same : from + a + z ≡ from + y = omega (arith, at) in
    get_or-append_right front back (w * a) (y * w + x) (pos 0) above reached
    ∙ ap (λ i. get_or back i (pos 0)) rest
    ∙ ap (λ xs. get_or xs (z * w + x) (pos 0)) is
    ∙ filled_at (λ x y. f x (from + a + y)) w b x z across down
    ∙ ap (λ i. f x i) same

-- a value of the rows before them
value_before : (f : ℕ → ℕ → ℤ) (w from a x y : ℕ) (front back : List ℤ) → length front ≡ w * a → front ≡ filled w a (λ x y. f x (from + y)) → x < w → y < a
    → get_or (front ++ back) (y * w + x) (pos 0) ≡ f x (from + y)
value_before f w from a x y front back above is across down =
    let place : y * w + x < w * a = mul-add-lt y w x a down across in
    let here : y * w + x < length front = omega (arith, place, above) in
    get_or_append_left front back (pos 0) (y * w + x) here
    ∙ ap (λ xs. get_or xs (y * w + x) (pos 0)) is
    ∙ filled_at (λ x y. f x (from + y)) w a x y across down

-- so many rows, and as many behind them, are the rows of both
rows_joined : (f : ℕ → ℕ → ℤ) (w from a b : ℕ) → 0 < w → filled w a (λ x y. f x (from + y)) ++ filled w b (λ x y. f x (from + a + y)) ≡ filled w (a + b) (λ x y. f x (from + y))
rows_joined f w from a b some =
    let front : List ℤ = filled w a (λ x y. f x (from + y)) in
    let back : List ℤ = filled w b (λ x y. f x (from + a + y)) in
    let above : length front ≡ w * a = filled_length w a (λ x y. f x (from + y)) in
    let below : length back ≡ w * b = filled_length w b (λ x y. f x (from + a + y)) in
    let both : length (front ++ back) ≡ w * (a + b) = length-append front back ∙ omega (arith, above, below, mul-add w a b) in
    let t : Table = record { width = w; height = a + b; values = front ++ back } in
    ap (λ (u : Table). u.values) (told (λ x y. f x (from + y)) t w (a + b) refl refl some both (λ x y p q. elim (cases_lt y a) [
      | inl l ↦ value_before f w from a x y front back above refl p l
      | inr l ↦ value_behind f w from a b x y (y - a) front back above refl (omega (arith, l)) p (omega (arith, q, l))
    ]))

-- the values of rows from .. mid and of rows mid .. to are those of rows from .. to
pub values_joined : (f : ℕ → ℕ → ℤ) (w from mid to : ℕ) → 0 < w → from ≤ mid → mid ≤ to
    → filled w (mid - from) (λ x y. f x (from + y)) ++ filled w (to - mid) (λ x y. f x (mid + y)) ≡ filled w (to - from) (λ x y. f x (from + y))
values_joined f w from mid to some l k =
    let begins : from + (mid - from) ≡ mid = omega arith in
    let all : mid - from + (to - mid) ≡ to - from = omega arith in
    subst (λ n. filled w (mid - from) (λ x y. f x (from + y)) ++ filled w (to - mid) (λ x y. f x (n + y)) ≡ filled w (to - from) (λ x y. f x (from + y))) begins
    (subst (λ n. filled w (mid - from) (λ x y. f x (from + y)) ++ filled w (to - mid) (λ x y. f x (from + (mid - from) + y)) ≡ filled w n (λ x y. f x (from + y))) all
    (rows_joined f w from (mid - from) (to - mid) some))

-- no rows have no values
empty : (f : ℕ → ℕ → ℤ) (w : ℕ) (xs : List ℤ) → length xs ≡ 0 → xs ≡ filled w 0 f
unfolding filled
empty f w [] len = let none : w * 0 ≡ 0 = omega arith in rw none refl
empty f w (x ∷ xs) len = absurd (omega arith)

pub values_none : (f : ℕ → ℕ → ℤ) (w from to : ℕ) (xs : List ℤ) → from ≡ to → length xs ≡ w * (to - from) → xs ≡ filled w (to - from) (λ x y. f x (from + y))
values_none f w from to xs same len =
    let none : to - from ≡ 0 = omega arith in
    let long : length xs ≡ 0 = len ∙ ap (λ n. w * n) none ∙ omega arith in
    empty (λ x y. f x (from + y)) w xs long ∙ ap (λ n. filled w n (λ x y. f x (from + y))) (sym none)

-- the rows from the first on are all rows
pub from_first : (f : ℕ → ℕ → ℤ) (w h : ℕ) → 0 < w → filled w (h - 0) (λ x y. f x (0 + y)) ≡ filled w h f
from_first f w h some =
    let all : h - 0 ≡ h = omega arith in
    ap (λ n. filled w n (λ x y. f x (0 + y))) all
    ∙ ap (λ (t : Table). t.values) (told f (table_of w h (λ x y. f x (0 + y))) w h refl refl some (filled_length w h (λ x y. f x (0 + y))) (λ x y p q.
    let same : 0 + y ≡ y = omega arith in
    filled_at (λ x y. f x (0 + y)) w h x y p q ∙ ap (λ i. f x i) same))
