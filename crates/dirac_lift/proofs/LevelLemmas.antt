-- A level of the transform: columns and rows together.
use Rattle.std.proofs.Common.{◌≡◌, ℕ, ℤ, pos, negsuc, Bool, true, false, if◌then◌else◌, ◌+◌, ◌*◌, ◌%◌, ◌^◌, ◌<◌, ◌≤◌, ◌+ℤ◌, unsigned_abs, List, length, map, get_or, drop, arith, refl, ap, sym, ◌∙◌, subst}
use Rattle.std.specs.List.{All}
use Rattle.std.proofs.lemmas.Int.{ints}
use Rattle.std.proofs.lemmas.List.{get_or_default, get_or-map, ext_get_or, take_at, length-map}
use lib.Signed.{shr_z}
use Rattle.dirac_common.specs.Table.{Table, with_values, filled}
use Rattle.dirac_bands.specs.DcSum.{by_rows}
use Rattle.dirac_lift.specs.Level.{column, row_in, halved, doubled, last_halved, first_doubled, synthesised, analysed}
use Rattle.dirac_lift.specs.Places.{ColumnsBecome, ColumnsSafe, RowsBecome}
use Rattle.dirac_lift.specs.Wavelets.{run, taken_back, steps_of, has_shift, synth, analyse, synth_bound, analyse_bound}
use Rattle.dirac_lift.proofs.ColumnLemmas.{length-column, column_bound, columns_bound, columns_values}
use Rattle.dirac_lift.proofs.RowLemmas.{length-row, row_bound, rows_bound, rows_values}
use Rattle.dirac_lift.proofs.Runs.{synth_safe, analyse_safe, synth_grows, analyse_grows, run_there, parities_of}
use Rattle.dirac_lift.proofs.Signed.{abs-rounded}

-- small values are safe
pub synth_columns_safe : (k w h : ℕ) (xs : List ℤ) → k ≤ 6 → h % 2 ≡ 0 → All (λ v. unsigned_abs v ≤ 2 ^ 108) xs → ColumnsSafe (steps_of k) w h xs
synth_columns_safe k w h xs l even all = record {
  each = λ x i. synth_safe k (column xs w h x) l (omega (arith, even, length-column xs w h x)) (column_bound (2 ^ 108) xs w h x all);
}

pub analyse_columns_safe : (k w h : ℕ) (xs : List ℤ) → k ≤ 6 → h % 2 ≡ 0 → All (λ v. unsigned_abs v ≤ 2 ^ 108) xs → ColumnsSafe (taken_back (steps_of k)) w h xs
analyse_columns_safe k w h xs l even all = record {
  each = λ x i. analyse_safe k (column xs w h x) l (omega (arith, even, length-column xs w h x)) (column_bound (2 ^ 108) xs w h x all);
}

-- how values grow over columns and over rows
pub synth_columns_grow : (b k w h : ℕ) (xs ys : List ℤ) → k ≤ 6 → h % 2 ≡ 0 → length xs ≡ w * h → 1 ≤ w → ColumnsBecome (run (steps_of k)) w h xs ys → All (λ v. unsigned_abs v ≤ b) xs → All (λ v. unsigned_abs v ≤ synth_bound k b) ys
synth_columns_grow b k w h xs ys l even len one become all =
    columns_bound (synth_bound k b) ys w h (become.len ∙ len) (omega arith)
    (λ x i. subst (λ zs. All (λ v. unsigned_abs v ≤ synth_bound k b) zs) (sym (become.each x i))
    (synth_grows k b (column xs w h x) l (omega (arith, even, length-column xs w h x)) (column_bound b xs w h x all)))

pub analyse_columns_grow : (b k w h : ℕ) (xs ys : List ℤ) → k ≤ 6 → h % 2 ≡ 0 → length xs ≡ w * h → 1 ≤ w → ColumnsBecome (run (taken_back (steps_of k))) w h xs ys → All (λ v. unsigned_abs v ≤ b) xs → All (λ v. unsigned_abs v ≤ analyse_bound b) ys
analyse_columns_grow b k w h xs ys l even len one become all =
    columns_bound (analyse_bound b) ys w h (become.len ∙ len) (omega arith)
    (λ x i. subst (λ zs. All (λ v. unsigned_abs v ≤ analyse_bound b) zs) (sym (become.each x i))
    (analyse_grows k b (column xs w h x) l (omega (arith, even, length-column xs w h x)) (column_bound b xs w h x all)))

pub synth_rows_grow : (b k w h : ℕ) (xs ys : List ℤ) → k ≤ 6 → w % 2 ≡ 0 → length xs ≡ w * h → 1 ≤ w → RowsBecome (synth k) w h xs ys → All (λ v. unsigned_abs v ≤ b) xs → All (λ v. unsigned_abs v ≤ synth_bound k b) ys
unfolding synth
synth_rows_grow b k w h xs ys l even len one become all =
    rows_bound (synth_bound k b) ys w h (become.len ∙ len) (omega arith)
    (λ y i. subst (λ zs. All (λ v. unsigned_abs v ≤ synth_bound k b) zs) (sym (become.each y i))
    (synth_grows k b (row_in xs w y) l (omega (arith, even, length-row xs w h y len i)) (row_bound b xs w y all)))

pub analyse_rows_grow : (b k w h : ℕ) (xs ys : List ℤ) → k ≤ 6 → w % 2 ≡ 0 → length xs ≡ w * h → 1 ≤ w → RowsBecome (analyse k) w h xs ys → All (λ v. unsigned_abs v ≤ b) xs → All (λ v. unsigned_abs v ≤ analyse_bound b) ys
unfolding analyse
analyse_rows_grow b k w h xs ys l even len one become all =
    rows_bound (analyse_bound b) ys w h (become.len ∙ len) (omega arith)
    (λ y i. subst (λ zs. All (λ v. unsigned_abs v ≤ analyse_bound b) zs) (sym (become.each y i))
    (analyse_grows k b (row_in xs w y) l (omega (arith, even, length-row xs w h y len i)) (row_bound b xs w y all)))

bound_most : (s : Bool) (b : ℕ) → (if s then 12 * b + 6 else 5 * b + 2) ≤ 12 * b + 6
bound_most true b = omega arith
bound_most false b = omega arith

pub synth_bound_most : (k b : ℕ) → synth_bound k b ≤ 12 * b + 6
synth_bound_most k b = bound_most (has_shift k) b

bound_twice : (s : Bool) (b : ℕ) → (if s then 12 * (if s then 12 * b + 6 else 5 * b + 2) + 6 else 5 * (if s then 12 * b + 6 else 5 * b + 2) + 2) ≤ 144 * b + 78
bound_twice true b = omega arith
bound_twice false b = omega arith

pub synth_bound_twice : (k b : ℕ) → synth_bound k (synth_bound k b) ≤ 144 * b + 78
synth_bound_twice k b = bound_twice (has_shift k) b

-- bounds on changed values
all_mapped : (b c : ℕ) (f : ℤ → ℤ) (xs : List ℤ) → ((v : ℤ) → unsigned_abs v ≤ b → unsigned_abs (f v) ≤ c) → All (λ v. unsigned_abs v ≤ b) xs → All (λ v. unsigned_abs v ≤ c) (map f xs)
all_mapped b c f xs each all k d l =
    let inside : k < length xs = omega (arith, l, length-map xs f) in
    rw (get_or_default (map f xs) k d (pos 0) l, get_or-map f xs k (pos 0) (pos 0) inside) (each (get_or xs k (pos 0)) (all k (pos 0) inside))

ended_bound : (s : Bool) (b c : ℕ) (xs : List ℤ) → c ≡ (if s then 12 * (12 * b + 6) + 6 else 5 * (5 * b + 2) + 2) → All (λ v. unsigned_abs v ≤ c) xs → All (λ v. unsigned_abs v ≤ 72 * b + 40) (if s then map halved xs else xs)
ended_bound true b c xs e all = all_mapped c (72 * b + 40) halved xs (λ v h. omega (arith, e, h, abs-rounded v 1)) all
ended_bound false b c xs e all = λ k d l. omega (arith, e, all k d l)

twice_bound : (s : Bool) (b k : ℕ) → s ≡ has_shift k → synth_bound k (synth_bound k b) ≡ (if s then 12 * (12 * b + 6) + 6 else 5 * (5 * b + 2) + 2)
twice_bound true b k e = rw (← e) refl
twice_bound false b k e = rw (← e) refl

pub level_bound : (k b : ℕ) (xs : List ℤ) → All (λ v. unsigned_abs v ≤ synth_bound k (synth_bound k b)) xs → All (λ v. unsigned_abs v ≤ 72 * b + 40) (last_halved k xs)
level_bound k b xs all = ended_bound (has_shift k) b (synth_bound k (synth_bound k b)) xs (twice_bound (has_shift k) b k refl) all

begun_with : (s : Bool) (b : ℕ) (xs : List ℤ) → All (λ v. unsigned_abs v ≤ b) xs → All (λ v. unsigned_abs v ≤ 2 * b) (if s then map doubled xs else xs)
begun_with true b xs all = all_mapped b (2 * b) doubled xs (λ v h. omega (arith, ints, h)) all
begun_with false b xs all = λ k d l. omega (arith, all k d l)

pub begun_bound : (k b : ℕ) (xs : List ℤ) → All (λ v. unsigned_abs v ≤ b) xs → All (λ v. unsigned_abs v ≤ 2 * b) (first_doubled k xs)
begun_bound k = begun_with (has_shift k)

-- halving takes doubling back
half_twice : (v z : ℤ) → z ≡ (v +ℤ v) +ℤ pos 1 → shr_z z 2 ≡ v
half_twice (pos m) (pos n) e = ap pos (omega (arith, ints, e))
half_twice (pos m) (negsuc n) e = absurd (omega (arith, ints, e))
half_twice (negsuc m) (pos n) e = absurd (omega (arith, ints, e))
half_twice (negsuc m) (negsuc n) e = ap negsuc (omega (arith, ints, e))

ended_begun_with : (s : Bool) (xs : List ℤ) → (if s then map halved (if s then map doubled xs else xs) else (if s then map doubled xs else xs)) ≡ xs
ended_begun_with true xs =
    let len : length (map halved (map doubled xs)) ≡ length xs = length-map (map doubled xs) halved ∙ length-map xs doubled in
    ext_get_or (pos 0) (map halved (map doubled xs)) xs len (λ i l.
    let inside : i < length xs = omega (arith, l, len) in
    get_or-map halved (map doubled xs) i (pos 0) (pos 0) (omega (arith, inside, length-map xs doubled))
    ∙ ap halved (get_or-map doubled xs i (pos 0) (pos 0) inside)
    ∙ half_twice (get_or xs i (pos 0)) ((get_or xs i (pos 0) +ℤ get_or xs i (pos 0)) +ℤ pos 1) refl)
ended_begun_with false xs = refl

ended_begun : (k : ℕ) (xs : List ℤ) → last_halved k (first_doubled k xs) ≡ xs
ended_begun k = ended_begun_with (has_shift k)

length-begun_with : (s : Bool) (xs : List ℤ) → length (if s then map doubled xs else xs) ≡ length xs
length-begun_with true xs = length-map xs doubled
length-begun_with false xs = refl

pub length-begun : (k : ℕ) (xs : List ℤ) → length (first_doubled k xs) ≡ length xs
length-begun k = length-begun_with (has_shift k)

-- the value of a level
synth_columns_by : (k w h : ℕ) (xs ys : List ℤ) → ColumnsBecome (run (steps_of k)) w h xs ys → ColumnsBecome (synth k) w h xs ys
unfolding synth
synth_columns_by k w h xs ys c = record { len = c.len; each = c.each }

analyse_columns_by : (k w h : ℕ) (xs ys : List ℤ) → ColumnsBecome (run (taken_back (steps_of k))) w h xs ys → ColumnsBecome (analyse k) w h xs ys
unfolding analyse
analyse_columns_by k w h xs ys c = record { len = c.len; each = c.each }

pub level_value : (k w h : ℕ) (xs ys zs : List ℤ) → length xs ≡ w * h → 1 ≤ w → ColumnsBecome (run (steps_of k)) w h xs ys → RowsBecome (synth k) w h ys zs → last_halved k zs ≡ (synthesised k (by_rows w h xs)).values
level_value k w h xs ys zs len one columns rows =
    ap (last_halved k)
    (rows_values (synth k) w h ys zs rows (columns.len ∙ len) (omega arith)
    ∙ ap (λ vs. filled w h (λ x y. get_or (synth k (row_in vs w y)) x (pos 0))) (columns_values (synth k) w h xs ys (synth_columns_by k w h xs ys columns) len (omega arith)))

pub analysis_value : (k w h : ℕ) (xs ys zs : List ℤ) → length xs ≡ w * h → 1 ≤ w → RowsBecome (analyse k) w h (first_doubled k xs) ys → ColumnsBecome (run (taken_back (steps_of k))) w h ys zs → zs ≡ (analysed k (by_rows w h xs)).values
analysis_value k w h xs ys zs len one rows columns =
    columns_values (analyse k) w h ys zs (analyse_columns_by k w h ys zs columns) (rows.len ∙ length-begun k xs ∙ len) (omega arith)
    ∙ ap (λ vs. filled w h (λ x y. get_or (analyse k (column vs w h x)) y (pos 0)))
    (rows_values (analyse k) w h (first_doubled k xs) ys rows (length-begun k xs ∙ len) (omega arith))

-- synthesis takes analysis back
rows_turned : (k w h : ℕ) (xs ys : List ℤ) → k ≤ 6 → w % 2 ≡ 0 → length xs ≡ w * h → RowsBecome (analyse k) w h xs ys → RowsBecome (synth k) w h ys xs
unfolding synth analyse
rows_turned k w h xs ys l even len rows = record {
  len = sym rows.len;
  each = λ y i.
      sym (ap (run (steps_of k)) (rows.each y i)
      ∙ run_there (steps_of k) (row_in xs w y) (parities_of k l) (omega (arith, even, length-row xs w h y len i)));
}

columns_turned : (k w h : ℕ) (xs ys : List ℤ) → k ≤ 6 → h % 2 ≡ 0 → ColumnsBecome (run (taken_back (steps_of k))) w h xs ys → ColumnsBecome (run (steps_of k)) w h ys xs
columns_turned k w h xs ys l even columns = record {
  len = sym columns.len;
  each = λ x i.
      sym (ap (run (steps_of k)) (columns.each x i)
      ∙ run_there (steps_of k) (column xs w h x) (parities_of k l) (omega (arith, even, length-column xs w h x)));
}

pub level_undone : (k w h : ℕ) (xs ys zs : List ℤ) → k ≤ 6 → w % 2 ≡ 0 → h % 2 ≡ 0 → length xs ≡ w * h → 1 ≤ w → RowsBecome (analyse k) w h (first_doubled k xs) ys → ColumnsBecome (run (taken_back (steps_of k))) w h ys zs → (synthesised k (by_rows w h zs)).values ≡ xs
level_undone k w h xs ys zs l across down len one rows columns =
    sym (level_value k w h zs ys (first_doubled k xs) (columns.len ∙ rows.len ∙ length-begun k xs ∙ len) one
    (columns_turned k w h ys zs l down columns)
    (rows_turned k w h (first_doubled k xs) ys l across (length-begun k xs ∙ len) rows))
    ∙ ended_begun k xs

-- a table whose values were lent
pub lent_is : (t : Table) (ws vs : List ℤ) → length ws ≡ length t.values → ws ≡ vs → with_values t ws ≡ record t { values = vs }
lent_is t ws vs len e =
    ap (by_rows t.width t.height) (take_at ws (drop (length ws) t.values) (length t.values) len ∙ e)
