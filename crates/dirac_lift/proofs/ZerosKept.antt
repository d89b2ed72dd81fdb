-- The synthesis of zeros, line by line and level by level.
use Rattle.std.proofs.Common.{◌≡◌, ℕ, zero, suc, ℤ, pos, negsuc, ◌+◌, ◌-◌, ◌*◌, ◌/◌, ◌%◌, ◌^◌, ◌<◌, ◌==◌, ◌+ℤ◌, ◌*ℤ◌, if◌then◌else◌, Bool, true, false, List, [], ◌∷◌, length, map, get_or, take, drop, refl, ap, ap₂, ◌∙◌, arith}
use Rattle.std.specs.Int.{int_shr}
use Rattle.std.specs.List.{range_with_len}
use Rattle.std.proofs.lemmas.Int.{ints}
use Rattle.std.proofs.lemmas.List.{get_or_default}
use Rattle.std.proofs.lemmas.Nat.{div_below, pow_pos}
use Rattle.dirac_common.specs.Table.{Table, filled, table_at}
use Rattle.dirac_bands.specs.Interleaving.{joined, joined_at}
use Rattle.dirac_lift.specs.Level.{column, columns_by, halved, level, row_in, rows_by, synthesised}
use Rattle.dirac_lift.specs.Lifting.{Step, change_at, lift, lifted_at, moved, new_at, own, rounded, value_read, weighted}
use Rattle.dirac_lift.specs.Wavelets.{has_shift, run, steps_of, synth}
use Rattle.dirac_lift.specs.Zeros.{AreZeros, LevelsStayZeros, LinesStayZeros}

-- whatever place is read, 0 stands there
abbrev pub ReadsZeros : List ℤ → Type 0
ReadsZeros xs = (k : ℕ) → get_or xs k (pos 0) ≡ pos 0

pub zeros_read : (xs : List ℤ) → AreZeros xs → ReadsZeros xs
zeros_read [] h k = refl
zeros_read (x ∷ xs) h zero = h 0 (pos 0) (omega arith)
zeros_read (x ∷ xs) h (suc k) = zeros_read xs (λ i d l. h (suc i) d (omega (arith, l))) k

pub read_zeros : (xs : List ℤ) → ReadsZeros xs → AreZeros xs
read_zeros xs h k d l = get_or_default xs k d (pos 0) l ∙ h k

told_zeros : (f : ℕ → ℤ) (a n : ℕ) → ((k : ℕ) → f k ≡ pos 0) → ReadsZeros (map f (range_with_len a n))
told_zeros f a zero h k = refl
told_zeros f a (suc n) h zero = h a
told_zeros f a (suc n) h (suc k) = told_zeros f (a + 1) n h k

pub filled_zeros : (w h : ℕ) (f : ℕ → ℕ → ℤ) → ((x y : ℕ) → f x y ≡ pos 0) → ReadsZeros (filled w h f)
unfolding filled
filled_zeros w h f each = told_zeros (λ p. f (p % w) (p / w)) 0 (w * h) (λ k. each (k % w) (k / w))

-- ---- a step

times_zero : (c : ℤ) → c *ℤ pos 0 ≡ pos 0
times_zero (pos n) = omega (arith, ints)
times_zero (negsuc n) = omega (arith, ints)

pub weighted_zeros : (taps : List ℤ) (f : ℕ → ℤ) (n : ℕ) → ((k : ℕ) → f k ≡ pos 0) → weighted taps f n ≡ pos 0
weighted_zeros taps f zero h = refl
weighted_zeros taps f (suc n) h =
    rw (weighted_zeros taps f n h, h n, times_zero (get_or taps n (pos 0))) refl

half_below : (p : ℕ) → 0 < p → p / 2 / p ≡ 0
half_below p some =
    let few : p / 2 / p < 1 = div_below (p / 2) p 1 some (omega arith) in
    omega (arith, few)

pub rounded_zero : (shift : ℕ) → rounded shift (pos 0) ≡ pos 0
rounded_zero shift =
    let half : pos 0 +ℤ pos (2 ^ shift / 2) ≡ pos (2 ^ shift / 2) = omega (arith, ints) in
    ap (λ z. int_shr z shift) half ∙ ap pos (half_below (2 ^ shift) (pow_pos shift))

moved_zero : (b : Bool) → moved b (pos 0) (pos 0) ≡ pos 0
moved_zero true = refl
moved_zero false = refl

either_zero : (b : Bool) (x y : ℤ) → x ≡ pos 0 → y ≡ pos 0 → (if b then x else y) ≡ pos 0
either_zero true x y p q = p
either_zero false x y p q = q

lifted_zeros : (s : Step) (xs : List ℤ) → ReadsZeros xs → ReadsZeros (lift s xs)
unfolding lift
lifted_zeros s xs h =
    told_zeros (lifted_at s xs) 0 (length xs) (λ p.
    let change : change_at s xs (p / 2) ≡ pos 0 = ap (rounded s.shift) (weighted_zeros s.taps (value_read s.parity s.lead xs (p / 2)) (length s.taps) (λ k. h _)) ∙ rounded_zero s.shift in
    let new : new_at s xs (p / 2) ≡ pos 0 = ap₂ (moved s.minus) (h (own s.parity (p / 2))) change ∙ moved_zero s.minus in
    either_zero (p % 2 == s.parity) (new_at s xs (p / 2)) (get_or xs p (pos 0)) new (h p))

run_zeros : (ss : List Step) (xs : List ℤ) → ReadsZeros xs → ReadsZeros (run ss xs)
run_zeros [] xs h = h
run_zeros (s ∷ ss) xs h = run_zeros ss (lift s xs) (lifted_zeros s xs h)

synth_zeros : (wavelet : ℕ) (xs : List ℤ) → ReadsZeros xs → ReadsZeros (synth wavelet xs)
unfolding synth
synth_zeros wavelet xs h = run_zeros (steps_of wavelet) xs h

-- ---- a level

take_zeros : (n : ℕ) (xs : List ℤ) → ReadsZeros xs → ReadsZeros (take n xs)
take_zeros zero xs h k = refl
take_zeros (suc n) [] h k = refl
take_zeros (suc n) (x ∷ xs) h zero = h 0
take_zeros (suc n) (x ∷ xs) h (suc k) = take_zeros n xs (λ i. h (suc i)) k

drop_zeros : (n : ℕ) (xs : List ℤ) → ReadsZeros xs → ReadsZeros (drop n xs)
drop_zeros zero xs h = h
drop_zeros (suc n) [] h = λ k. refl
drop_zeros (suc n) (x ∷ xs) h = drop_zeros n xs (λ i. h (suc i))

column_zeros : (xs : List ℤ) (w h x : ℕ) → ReadsZeros xs → ReadsZeros (column xs w h x)
unfolding column
column_zeros xs w h x all = told_zeros (λ y. get_or xs (y * w + x) (pos 0)) 0 h (λ y. all (y * w + x))

columns_zeros : (wavelet : ℕ) (t : Table) → ReadsZeros t.values → ReadsZeros (columns_by (synth wavelet) t).values
columns_zeros wavelet t all =
    filled_zeros t.width t.height (λ x y. get_or (synth wavelet (column t.values t.width t.height x)) y (pos 0))
    (λ x y. synth_zeros wavelet (column t.values t.width t.height x) (column_zeros t.values t.width t.height x all) y)

rows_zeros : (wavelet : ℕ) (t : Table) → ReadsZeros t.values → ReadsZeros (rows_by (synth wavelet) t).values
rows_zeros wavelet t all =
    filled_zeros t.width t.height (λ x y. get_or (synth wavelet (row_in t.values t.width y)) x (pos 0))
    (λ x y. synth_zeros wavelet (row_in t.values t.width y) (take_zeros (y * t.width + t.width - y * t.width) (drop (y * t.width) t.values) (drop_zeros (y * t.width) t.values all)) x)

pub map_zeros : (f : ℤ → ℤ) (xs : List ℤ) → f (pos 0) ≡ pos 0 → ReadsZeros xs → ReadsZeros (map f xs)
map_zeros f [] e h k = refl
map_zeros f (x ∷ xs) e h zero = ap f (h 0) ∙ e
map_zeros f (x ∷ xs) e h (suc k) = map_zeros f xs e (λ i. h (suc i)) k

ended_zeros : (b : Bool) (xs : List ℤ) → ReadsZeros xs → ReadsZeros (if b then map halved xs else xs)
ended_zeros true xs h = map_zeros halved xs refl h
ended_zeros false xs h = h

synthesised_zeros : (wavelet : ℕ) (t : Table) → ReadsZeros t.values → ReadsZeros (synthesised wavelet t).values
synthesised_zeros wavelet t all =
    ended_zeros (has_shift wavelet) _ (rows_zeros wavelet (columns_by (synth wavelet) t) (columns_zeros wavelet t all))

choose_zeros : (a b : Bool) (ll hl lh hh : Table) → ReadsZeros ll.values → ReadsZeros hl.values → ReadsZeros lh.values → ReadsZeros hh.values
    → (x y : ℕ) → table_at (if a then (if b then ll else hl) else (if b then lh else hh)) x y ≡ pos 0
choose_zeros true true ll hl lh hh p q r s x y = p _
choose_zeros true false ll hl lh hh p q r s x y = q _
choose_zeros false true ll hl lh hh p q r s x y = r _
choose_zeros false false ll hl lh hh p q r s x y = s _

pub level_zeros : (wavelet : ℕ) (ll hl lh hh : Table) → ReadsZeros ll.values → ReadsZeros hl.values → ReadsZeros lh.values → ReadsZeros hh.values → ReadsZeros (level wavelet ll hl lh hh).values
level_zeros wavelet ll hl lh hh p q r s =
    synthesised_zeros wavelet (joined ll hl lh hh)
    (filled_zeros (2 * ll.width) (2 * ll.height) (joined_at ll hl lh hh) (λ x y. choose_zeros (y % 2 == 0) (x % 2 == 0) ll hl lh hh p q r s (x / 2) (y / 2)))

-- ---- what the law says

pub lines_stay_zeros : LinesStayZeros
lines_stay_zeros wavelet xs h = read_zeros (synth wavelet xs) (synth_zeros wavelet xs (zeros_read xs h))

pub levels_stay_zeros : LevelsStayZeros
levels_stay_zeros wavelet ll hl lh hh p q r s =
    read_zeros (level wavelet ll hl lh hh).values
    (level_zeros wavelet ll hl lh hh (zeros_read ll.values p) (zeros_read hl.values q) (zeros_read lh.values r) (zeros_read hh.values s))
