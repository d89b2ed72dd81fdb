-- The bands of a level whose rows stand in halves.
use Rattle.std.proofs.Common.{◌≡◌, ℕ, ℤ, pos, zero, suc, ◌+◌, ◌*◌, ◌/◌, ◌%◌, ◌^◌, ◌<◌, ◌≤◌, unsigned_abs, List, length, get_or, arith, refl, ap, ap₂, sym, ◌∙◌}
use Rattle.std.specs.List.{All}
use Rattle.dirac_common.specs.Table.{Table, table_at}
use Rattle.dirac_common.proofs.Rows.{filled_at, rows_all}
use Rattle.dirac_bands.specs.Interleaving.{band_of}
use Rattle.dirac_lift.specs.Halves.{from_halves, place_in_halves}
use Rattle.dirac_lift.specs.Level.{analysed}
use Rattle.dirac_lift.proofs.HalfPlanes.{even_place, odd_place, place_even, place_odd}
use Rattle.dirac_analysis.specs.Fits.{IsQuantisable}
use Rattle.dirac_analysis.specs.Halves.{half_columns}
use Rattle.dirac_analysis.proofs.Fitting.{band_quantisable}
use Rattle.dirac_analysis.proofs.OneLevel.{length-filled, level_grows}

place_half : (w right from x : ℕ) → right ≤ 1 → from ≡ right * (w / 2) → place_in_halves w (2 * x + right) ≡ from + x
place_half w zero from x one e = place_even w x (2 * x + 0) (omega arith) ∙ omega (arith, e)
place_half w (suc zero) from x one e = place_odd w x (2 * x + 1) refl ∙ omega (arith, e)
place_half w (suc (suc n)) from x one e = absurd (omega arith)

-- of the even rows
pub even_band : (right from : ℕ) (t : Table) (os : List ℤ) → t.width % 2 ≡ 0 → 0 < t.width → right ≤ 1 → from ≡ right * (t.width / 2) → half_columns t from ≡ band_of (from_halves t.width t.height t.values os) right 0
even_band right from t os even some one e =
    let w = t.width in
    let whole : Table = from_halves w t.height t.values os in
    rows_all (λ x y. table_at whole (2 * x + right) (2 * y + 0)) (half_columns t from) (w / 2) (2 * t.height / 2) t.height refl (omega arith) (omega (arith, even, some)) (omega arith)
    (record {
      len = length-filled (w / 2) t.height (λ x y. table_at t (from + x) y);
      done = λ x y l k.
          let row : 2 * y ≡ 2 * y + 0 = omega arith in
          filled_at (λ x y. table_at t (from + x) y) (w / 2) t.height x y l k
          ∙ ap (λ i. get_or t.values (y * w + i) (pos 0)) (sym (place_half w right from x one e))
          ∙ sym (even_place w t.height t.values os (2 * x + right) y (omega (arith, l, even, one)) k)
          ∙ ap (table_at whole (2 * x + right)) row;
    })

-- of the odd rows
pub odd_band : (right from : ℕ) (t : Table) (es : List ℤ) → t.width % 2 ≡ 0 → 0 < t.width → right ≤ 1 → from ≡ right * (t.width / 2) → half_columns t from ≡ band_of (from_halves t.width t.height es t.values) right 1
odd_band right from t es even some one e =
    let w = t.width in
    let whole : Table = from_halves w t.height es t.values in
    rows_all (λ x y. table_at whole (2 * x + right) (2 * y + 1)) (half_columns t from) (w / 2) (2 * t.height / 2) t.height refl (omega arith) (omega (arith, even, some)) (omega arith)
    (record {
      len = length-filled (w / 2) t.height (λ x y. table_at t (from + x) y);
      done = λ x y l k.
          filled_at (λ x y. table_at t (from + x) y) (w / 2) t.height x y l k
          ∙ ap (λ i. get_or t.values (y * w + i) (pos 0)) (sym (place_half w right from x one e))
          ∙ sym (odd_place w t.height es t.values (2 * x + right) y (omega (arith, l, even, one)) k);
    })

-- the plane that they make up
pub whole_level : (k w h : ℕ) (t rows : Table) (es os : List ℤ) → (rows.width ≡ w) × (rows.height ≡ h) → from_halves w h es os ≡ analysed k t → from_halves rows.width rows.height es os ≡ analysed k t
whole_level k w h t rows es os sizes is = ap₂ (λ (a b : ℕ). from_halves a b es os) sizes.0 sizes.1 ∙ is

-- the bands of any level can be quantised
pub level_quantisable : (k right below : ℕ) (t band : Table) → k ≤ 6 → (t.width % 2 ≡ 0) × (t.width ≤ 8192) → (t.height % 2 ≡ 0) × (t.height ≤ 8192) → length t.values ≡ t.width * t.height → All (λ v. unsigned_abs v ≤ 2 ^ 29) t.values → band ≡ band_of (analysed k t) right below → IsQuantisable band
level_quantisable k right below t band l across down len all is =
    band_quantisable (128 * 2 ^ 29 + 32) right below (analysed k t) band (omega arith) across.1 down.1 is
    (level_grows k (2 ^ 29) 0 t l
    (record { across = t.width / 2; down = t.height / 2; width = omega (arith, across.0); height = omega (arith, down.0); len = len }) all)
