-- Rows of a last level that were made in a window of it.
use Rattle.std.proofs.Common.{◌≡◌, ℕ, ℤ, pos, ◌+◌, ◌-◌, ◌*◌, ◌<◌, ◌≤◌, List, length, get_or, unsigned_abs, arith, refl, ap, sym, ◌∙◌}
use Rattle.std.specs.List.{All}
use Rattle.dirac_common.specs.Limits.{IsWavelet}
use Rattle.dirac_common.specs.Table.{Table, table_at, table_of}
use Rattle.dirac_common.proofs.Bounds.{told_bound, values_bound}
use Rattle.dirac_common.proofs.Rows.{filled_at, row_at, rows_all}
use Rattle.dirac_bands.specs.Interleaving.{joined}
use Rattle.dirac_lift.specs.Halves.{from_halves}
use Rattle.dirac_lift.specs.Level.{row_in, synthesised}
use Rattle.dirac_synthesis.specs.declared.last.LastLevel.{LastLevel}
use Rattle.dirac_synthesis.specs.Codeblocks.{restored_by_one}
use Rattle.dirac_synthesis.specs.Levels.{joined_by}
use Rattle.dirac_lift.specs.Windows.{AreInsideWindow, window, window_half}
use Rattle.dirac_synthesis.specs.Halves.{beside}
use Rattle.dirac_synthesis.specs.LastLevel.{IsLastLevel, even_halves, last_residual, odd_halves}
use Rattle.dirac_synthesis.specs.NarrowLevels.{IsNarrowLevel}
use Rattle.dirac_synthesis.specs.Residual.{cut, part_from, rows_between}
use Rattle.dirac_synthesis.proofs.BesideRows.{beside_len, from_beside}
use Rattle.dirac_lift.proofs.WindowHalves.{length-window_half}
use Rattle.dirac_lift.proofs.Windows.{windows_have_rows}
use Rattle.dirac_synthesis.proofs.ZeroBands.{length-filled}

-- each row among rows that are inside is inside
row_inside : (wavelet h a b from to y : ℕ) → AreInsideWindow wavelet h a b from to → from ≤ y → y < to → AreInsideWindow wavelet h a b y (y + 1)
row_inside wavelet h a b from to y inside l k = record {
  some = inside.some;
  down = inside.down;
  ordered = omega arith;
  first = omega (arith, inside.first, l);
  last = omega (arith, inside.last, k);
  above = λ some. omega (arith, inside.above some, l);
  below = λ some. omega (arith, inside.below some, k);
}

-- rows that are alike have values alike
value_in_row : (a b : Table) (x y z : ℕ) → x < a.width → x < b.width → row_in a.values a.width y ≡ row_in b.values b.width z → table_at a x y ≡ table_at b x z
value_in_row a b x y z l k e = sym (row_at a x y l) ∙ ap (λ zs. get_or zs x (pos 0)) e ∙ row_at b x z k

-- rows from .. to of a table are among made rows, behind as many others
pub record HoldsRows (whole : Table) (from to above : ℕ) (made : Table) : Type 0 where
  pub across : whole.width ≤ made.width
  pub down : above + (to - from) ≤ made.height
  pub each : (x y : ℕ) → x < whole.width → from ≤ y → y < to → table_at made x (above + (y - from)) ≡ table_at whole x y

pub window_holds : (wavelet w h a b from to width height above : ℕ) (evens odds : List ℤ) (whole made : Table) → IsWavelet wavelet → AreInsideWindow wavelet h a b from to → made ≡ synthesised wavelet (window w a b evens odds) → above ≡ from - 2 * a → whole ≡ synthesised wavelet (from_halves w h evens odds) → width ≤ w → to ≤ height
    → HoldsRows (cut width height whole) from to above made
window_holds wavelet w h a b from to width height above evens odds whole made is inside er ea ew across down =
    let part = synthesised wavelet (window w a b evens odds) in
    let level = synthesised wavelet (from_halves w h evens odds) in
    let columns : made.width ≡ w = ap (λ (t : Table). t.width) er in
    let rows : made.height ≡ 2 * (b - a) = ap (λ (t : Table). t.height) er in
    record {
      across = omega (arith, columns, across);
      down = omega (arith, rows, ea, inside.first, inside.last, inside.ordered, inside.some);
      each = λ x y l f k.
          let place : above + (y - from) ≡ y - 2 * a = omega (arith, ea, inside.first, f) in
          ap (λ (t : Table). table_at t x (above + (y - from))) er
          ∙ ap (table_at part x) place
          ∙ value_in_row part level x (y - 2 * a) y (omega (arith, l, across)) (omega (arith, l, across)) (windows_have_rows wavelet w h a b y evens odds is (row_inside wavelet h a b from to y inside f k))
          ∙ ap (λ (t : Table). table_at t x y) (sym ew)
          ∙ sym (filled_at (table_at whole) width height x y l (omega (arith, k, down)));
    }

-- tables that are told alike
pub told_alike : (f g : ℕ → ℕ → ℤ) (w h : ℕ) → 0 < w → ((x y : ℕ) → x < w → y < h → g x y ≡ f x y) → table_of w h g ≡ table_of w h f
told_alike f g w h some e =
    rows_all f (table_of w h g) w h h refl refl some (omega arith)
    (record { len = length-filled w h g; done = λ x y l k. filled_at g w h x y l k ∙ e x y l k })

-- the rows that were asked for, cut out of those that were made
pub made_between : (whole : Table) (from to above : ℕ) (made : Table) → 0 < whole.width → HoldsRows whole from to above made → part_from above whole.width (to - from) made ≡ rows_between from to whole
made_between whole from to above made some holds =
    told_alike (λ x y. table_at whole x (from + y)) (λ x y. table_at made x (above + y)) whole.width (to - from) some
    (λ x y l k.
    let place : from + y - from ≡ y = omega arith in
    ap (λ n. table_at made x (above + n)) (sym place) ∙ holds.each x (from + y) l (omega arith) (omega (arith, k)))

pub between_bound : (most from to : ℕ) (t : Table) → All (λ v. unsigned_abs v ≤ most) t.values → All (λ v. unsigned_abs v ≤ most) (rows_between from to t).values
between_bound most from to t all =
    told_bound most t.width (to - from) (λ x y. table_at t x (from + y)) (λ x y. values_bound most t.values all ((from + y) * t.width + x))

pub length-residual : (l : LastLevel) → length (last_residual l).values ≡ (last_residual l).width * (last_residual l).height
length-residual l =
    length-filled l.width l.height (table_at (synthesised l.wavelet (joined_by (restored_by_one l.kind) l.low l.bands)))

-- the plane of a last level, from its halves
from_level : (l : LastLevel) → IsLastLevel l → from_halves (2 * l.low.width) l.low.height (even_halves l) (odd_halves l) ≡ joined l.low (restored_by_one l.kind l.bands.hl.now) (restored_by_one l.kind l.bands.lh.now) (restored_by_one l.kind l.bands.hh.now)
from_level l level =
    from_beside l.low (restored_by_one l.kind l.bands.hl.now) (restored_by_one l.kind l.bands.lh.now) (restored_by_one l.kind l.bands.hh.now) (2 * l.low.width) l.low.height (even_halves l) (odd_halves l) refl refl refl refl level.level.lh.across level.level.lh.down (omega (arith, level.across.0, level.across.1))

-- what a last level's window is synthesised to holds its rows
pub made_holds : (l : LastLevel) (from to a n above : ℕ) (made : Table) → IsLastLevel l → AreInsideWindow l.wavelet l.low.height a (a + n) from to → to ≤ l.height
    → made ≡ synthesised l.wavelet (from_halves (2 * l.low.width) n (window_half (2 * l.low.width) a (a + n) (beside l.low (restored_by_one l.kind l.bands.hl.now)).values) (window_half (2 * l.low.width) a (a + n) (beside (restored_by_one l.kind l.bands.lh.now) (restored_by_one l.kind l.bands.hh.now)).values))
    → above ≡ from - 2 * a → HoldsRows (last_residual l) from to above made
made_holds l from to a n above made level inside within er ea =
    let w = 2 * l.low.width in
    let right = restored_by_one l.kind l.bands.hl.now in
    let below = restored_by_one l.kind l.bands.lh.now in
    let corner = restored_by_one l.kind l.bands.hh.now in
    let es = (beside l.low right).values in
    let os = (beside below corner).values in
    let count : n ≡ a + n - a = omega arith in
    window_holds l.wavelet w l.low.height a (a + n) from to l.width l.height above es os (synthesised l.wavelet (joined l.low right below corner)) made level.wavelet inside
    (er ∙ ap (λ k. synthesised l.wavelet (from_halves w k (window_half w a (a + n) es) (window_half w a (a + n) os))) count) ea
    (ap (synthesised l.wavelet) (sym (from_level l level))) level.across.1 within

-- the lengths of the halves of a last level
pub evens_length : (l : LastLevel) → length (beside l.low (restored_by_one l.kind l.bands.hl.now)).values ≡ 2 * l.low.width * l.low.height
evens_length l = beside_len l.low (restored_by_one l.kind l.bands.hl.now)

pub odds_length : (l : LastLevel) → IsNarrowLevel l.kind l.low l.bands → length (beside (restored_by_one l.kind l.bands.lh.now) (restored_by_one l.kind l.bands.hh.now)).values ≡ 2 * l.low.width * l.low.height
odds_length l level =
    beside_len (restored_by_one l.kind l.bands.lh.now) (restored_by_one l.kind l.bands.hh.now)
    ∙ ap (λ w. 2 * w * l.bands.lh.now.table.height) level.lh.across ∙ ap (λ h. 2 * l.low.width * h) level.lh.down

-- those of a window
pub window_length : (w h a n : ℕ) (half : List ℤ) → length half ≡ w * h → a + n ≤ h → length (window_half w a (a + n) half) ≡ w * n
window_length w h a n half len l =
    let count : a + n - a ≡ n = omega arith in
    length-window_half w h a (a + n) half len (omega arith) l ∙ ap (λ k. w * k) count

-- a value of a row that a last level at work makes
pub made_row : (l : LastLevel) (x y : ℕ) (line : List ℤ) → IsLastLevel l → line ≡ row_in (synthesised l.wavelet (from_halves (2 * l.low.width) l.low.height (even_halves l) (odd_halves l))).values (2 * l.low.width) y → x < l.width → y < l.height → get_or line x (pos 0) ≡ table_at (last_residual l) x y
made_row l x y line level e across down =
    let whole = joined l.low (restored_by_one l.kind l.bands.hl.now) (restored_by_one l.kind l.bands.lh.now) (restored_by_one l.kind l.bands.hh.now) in
    ap (λ zs. get_or zs x (pos 0)) e
    ∙ row_at (synthesised l.wavelet (from_halves (2 * l.low.width) l.low.height (even_halves l) (odd_halves l))) x y (omega (arith, across, level.across.1))
    ∙ ap (λ (t : Table). table_at (synthesised l.wavelet t) x y) (from_level l level)
    ∙ sym (filled_at (table_at (synthesised l.wavelet whole)) l.width l.height x y across down)
