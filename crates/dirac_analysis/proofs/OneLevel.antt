-- One level of the analysis: its sizes, how large its values become, and that the synthesis takes it back.
use Rattle.std.proofs.Common.{◌≡◌, ℕ, suc, ℤ, pos, ◌+◌, ◌-◌, ◌*◌, ◌/◌, ◌%◌, ◌^◌, ◌<◌, ◌≤◌, unsigned_abs, List, length, get_or, arith, refl, inl, inr, ap, sym, ◌∙◌}
use Rattle.std.specs.Prelude.{min}
use Rattle.std.specs.List.{All}
use Rattle.std.proofs.lemmas.Bool.{cases_eq}
use Rattle.std.proofs.lemmas.List.{ext_get_or}
use Rattle.std.proofs.lemmas.List.FromFn.{length-map-range_with_len}
use Rattle.dirac_common.specs.Table.{Table, filled, table_at}
use Rattle.dirac_common.proofs.Bounds.{all_weaker}
use Rattle.dirac_common.proofs.Rows.{filled_at}
use Rattle.dirac_bands.specs.Geometry.{lowest_size, padded_size}
use Rattle.dirac_bands.specs.Interleaving.{band_of}
use Rattle.dirac_bands.proofs.Undoing.{plane_again}
use Rattle.dirac_lift.specs.Level.{analysed, first_doubled, column, columns_by, level, row_in, rows_by, synthesised}
use Rattle.dirac_lift.specs.Places.{ColumnsBecome, RowsBecome}
use Rattle.dirac_lift.specs.Wavelets.{analyse, analyse_bound, run, steps_of, taken_back}
use Rattle.dirac_lift.proofs.ColumnLemmas.{column_at, length-column}
use Rattle.dirac_lift.proofs.LevelLemmas.{analyse_columns_grow, analyse_rows_grow, begun_bound, length-begun, level_undone}
use Rattle.dirac_lift.proofs.RowLemmas.{length-row, row_at}
use Rattle.dirac_lift.proofs.Runs.{length-run}
use Rattle.dirac_analysis.specs.Analysis.{padded}
use Rattle.dirac_analysis.specs.Fits.{IsDivisible}

-- how many values a table has that is told by column and row
pub length-filled : (w h : ℕ) (f : ℕ → ℕ → ℤ) → length (filled w h f) ≡ w * h
unfolding filled
length-filled w h f = length-map-range_with_len (λ p. f (p % w) (p / w)) 0 (w * h)

-- a table whose rows are changed
rows_become : (f : List ℤ → List ℤ) (t : Table) → ((xs : List ℤ) → length (f xs) ≡ length xs) → length t.values ≡ t.width * t.height → RowsBecome f t.width t.height t.values (rows_by f t).values
rows_become f t keeps len =
    let told : ℕ → ℕ → ℤ = λ x y. get_or (f (row_in t.values t.width y)) x (pos 0) in
    let ys : List ℤ = filled t.width t.height told in
    let whole : length ys ≡ t.width * t.height = length-filled t.width t.height told in
    record {
      len = whole ∙ sym len;
      each = λ y l.
          let across : length (row_in ys t.width y) ≡ t.width = length-row ys t.width t.height y whole l in
          ext_get_or (pos 0) (row_in ys t.width y) (f (row_in t.values t.width y))
          (across ∙ sym (keeps (row_in t.values t.width y) ∙ length-row t.values t.width t.height y len l))
          (λ x i.
          let inside : x < t.width = omega (arith, i, across) in
          row_at ys t.width y x inside ∙ filled_at told t.width t.height x y inside l);
    }

-- the same of its columns
columns_become : (f : List ℤ → List ℤ) (t : Table) → ((xs : List ℤ) → length (f xs) ≡ length xs) → length t.values ≡ t.width * t.height → ColumnsBecome f t.width t.height t.values (columns_by f t).values
columns_become f t keeps len =
    let told : ℕ → ℕ → ℤ = λ x y. get_or (f (column t.values t.width t.height x)) y (pos 0) in
    let ys : List ℤ = filled t.width t.height told in
    record {
      len = length-filled t.width t.height told ∙ sym len;
      each = λ x l.
          let down : length (column ys t.width t.height x) ≡ t.height = length-column ys t.width t.height x in
          ext_get_or (pos 0) (column ys t.width t.height x) (f (column t.values t.width t.height x))
          (down ∙ sym (keeps (column t.values t.width t.height x) ∙ length-column t.values t.width t.height x))
          (λ y i.
          let inside : y < t.height = omega (arith, i, down) in
          column_at ys t.width t.height x y inside ∙ filled_at told t.width t.height x y l inside);
    }

-- a table whose rows are analysed
abbrev rows_of : ℕ → Table → Table
rows_of wavelet t = rows_by (analyse wavelet) (record t { values = first_doubled wavelet t.values })

pub length-analysed : (wavelet : ℕ) (t : Table) → length (analysed wavelet t).values ≡ t.width * t.height
length-analysed wavelet t = length-filled t.width t.height (λ x y. get_or (analyse wavelet (column (rows_of wavelet t).values t.width t.height x)) y (pos 0))

length-analyse : (wavelet : ℕ) (xs : List ℤ) → length (analyse wavelet xs) ≡ length xs
unfolding analyse
length-analyse wavelet xs = length-run (taken_back (steps_of wavelet)) xs

-- the rows of a level become their analyses
level_rows : (wavelet : ℕ) (t : Table) → length t.values ≡ t.width * t.height → RowsBecome (analyse wavelet) t.width t.height (first_doubled wavelet t.values) (rows_of wavelet t).values
level_rows wavelet t len = rows_become (analyse wavelet) (record t { values = first_doubled wavelet t.values }) (length-analyse wavelet) (length-begun wavelet t.values ∙ len)

-- and then its columns
level_columns : (wavelet : ℕ) (t : Table) → length t.values ≡ t.width * t.height → ColumnsBecome (run (taken_back (steps_of wavelet))) t.width t.height (rows_of wavelet t).values (analysed wavelet t).values
unfolding analyse
level_columns wavelet t len = columns_become (run (taken_back (steps_of wavelet))) (rows_of wavelet t) (length-run (taken_back (steps_of wavelet))) ((level_rows wavelet t len).len ∙ length-begun wavelet t.values ∙ len)

-- a size that is halved
twice : (size q depth n : ℕ) → depth ≡ suc n → size ≡ q * 2 ^ depth → size ≡ 2 * (q * 2 ^ n)
twice size q depth n next e =
    let power : 2 ^ suc n ≡ 2 * 2 ^ n = omega arith in
    e ∙ ap (λ m. q * 2 ^ m) next ∙ omega (arith, ap (λ p. q * p) power)

pub half_of : (size q n : ℕ) → size ≡ q * 2 ^ suc n → size / 2 ≡ q * 2 ^ n
half_of size q n e = omega (arith, twice size q (suc n) n refl e)

pub sizes_even : (depth n : ℕ) (t : Table) → depth ≡ suc n → IsDivisible depth t → (t.width % 2 ≡ 0) × (t.height % 2 ≡ 0)
sizes_even depth n t next is = (omega (arith, twice t.width is.across depth n next is.width), omega (arith, twice t.height is.down depth n next is.height))

-- what is left to analyse
abbrev pub low_divisible : (wavelet depth : ℕ) (t : Table) → IsDivisible (suc depth) t → IsDivisible depth (band_of (analysed wavelet t) 0 0)
low_divisible wavelet depth t is = record {
  across = is.across;
  down = is.down;
  width = half_of t.width is.across depth is.width;
  height = half_of t.height is.down depth is.height;
  len = length-filled (t.width / 2) (t.height / 2) (λ x y. table_at (analysed wavelet t) (2 * x + 0) (2 * y + 0));
}

-- a padded plane can be analysed as often as it was padded for
abbrev pub padded_divisible : (depth : ℕ) (t : Table) → IsDivisible depth (padded depth t)
padded_divisible depth t = record {
  across = lowest_size t.width depth;
  down = lowest_size t.height depth;
  width = refl;
  height = refl;
  len = length-filled (padded_size t.width depth) (padded_size t.height depth) (λ x y. table_at t (min x (t.width - 1)) (min y (t.height - 1)));
}

-- how large values become
pub level_grows : (wavelet b depth : ℕ) (t : Table) → wavelet ≤ 6 → IsDivisible (suc depth) t → All (λ v. unsigned_abs v ≤ b) t.values → All (λ v. unsigned_abs v ≤ 128 * b + 32) (analysed wavelet t).values
level_grows wavelet b depth t l is all =
    let even = sizes_even (suc depth) depth t refl is in
    let rows = level_rows wavelet t is.len in
    let begins : length (first_doubled wavelet t.values) ≡ t.width * t.height = length-begun wavelet t.values ∙ is.len in
    elim (cases_eq t.width 0) [
      | inl none ↦ λ i d inside. absurd (omega (arith, inside, length-analysed wavelet t, ap (λ w. w * t.height) none))
      | inr some ↦
          all_weaker (analyse_bound (analyse_bound (2 * b))) (128 * b + 32) (analysed wavelet t).values (omega arith)
          (analyse_columns_grow (analyse_bound (2 * b)) wavelet t.width t.height (rows_of wavelet t).values (analysed wavelet t).values l even.1 (rows.len ∙ begins) (omega (arith, some)) (level_columns wavelet t is.len)
          (analyse_rows_grow (2 * b) wavelet t.width t.height (first_doubled wavelet t.values) (rows_of wavelet t).values l even.0 begins (omega (arith, some)) rows (begun_bound wavelet b t.values all)))
    ]

-- the synthesis of the bands
pub level_back : (wavelet depth : ℕ) (t : Table) → wavelet ≤ 6 → 1 ≤ t.width → IsDivisible (suc depth) t → let mid : Table = analysed wavelet t in level wavelet (band_of mid 0 0) (band_of mid 1 0) (band_of mid 0 1) (band_of mid 1 1) ≡ t
level_back wavelet depth t l some is =
    let even = sizes_even (suc depth) depth t refl is in
    ap (synthesised wavelet) (plane_again (analysed wavelet t) some (length-analysed wavelet t) even.0 even.1)
    ∙ ap (λ (vs : List ℤ). record t { values = vs })
    (level_undone wavelet t.width t.height t.values (rows_of wavelet t).values (analysed wavelet t).values l even.0 even.1 is.len some (level_rows wavelet t is.len) (level_columns wavelet t is.len))
