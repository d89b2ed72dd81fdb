-- The sizes of pictures with accepted settings.
use Rattle.std.proofs.Common.{◌≡◌, ℕ, zero, suc, ◌+◌, ◌*◌, ◌/◌, ◌%◌, ◌≤◌, ◌==◌, if◌then◌else◌, Bool, true, false, ap, arith}
use Rattle.std.proofs.Math.Nat.{div-le_self}
use mathlib.Core.Logic.{dite}
use native.Mathlib.Decide.{ℕ_discrete}
use Rattle.dirac_types.specs.declared.settings.Settings.{Settings}
use Rattle.dirac_types.specs.Settings.{IsAccepted, step_across}
use Rattle.dirac_types.specs.Sizes.{picture_height}
use Rattle.dirac_types.proofs.Accepted.{in_range}
use Rattle.dirac_types.proofs.Heights.{picture_rows}

-- the columns and rows of a picture, a frame or a field
pub record FitsSizes (t : Settings) : Type 0 where
  pub across : (1 ≤ t.width) × (t.width ≤ 4096)
  pub down : (1 ≤ picture_height t) × (picture_height t ≤ 2304)
  pub across_divides : t.width % step_across t.chroma ≡ 0

at_most : (rows frame : ℕ) → rows ≤ frame → frame ≤ 2304 → rows ≤ 2304
at_most rows frame low most = omega arith

pub sizes_fit : (t : Settings) → IsAccepted t → FitsSizes t
sizes_fit t is = let range = in_range t is in let rows = picture_rows t is in record {
  across = range.width;
  down = (rows.some, at_most (picture_height t) t.height rows.most range.height.1);
  across_divides = range.whole_across;
}

-- a positive number that is divided exactly by 1 or 2
pub some_parts : (n step : ℕ) → 1 ≤ n → 1 ≤ step → step ≤ 2 → n % step ≡ 0 → 1 ≤ n / step
some_parts n step some least most divides = dite (ℕ_discrete step 1)
    (λ e. let same : n / step ≡ n / 1 = ap (λ (k : ℕ). n / k) e in omega arith)
    (λ ne. let two : step ≡ 2 = omega arith in let same : n / step ≡ n / 2 = ap (λ (k : ℕ). n / k) two in let rest : n % step ≡ n % 2 = ap (λ (k : ℕ). n % k) two in omega arith)

pub times_some : (a b : ℕ) → 1 ≤ a → 1 ≤ b → 1 ≤ a * b
times_some zero b first second = absurd (omega (arith, first))
times_some (suc a) zero first second = absurd (omega (arith, second))
times_some (suc a) (suc b) first second = omega arith

-- a product of numbers that are no greater
pub times_le : (a b c d : ℕ) → a ≤ c → b ≤ d → a * b ≤ c * d
times_le a b zero d first second = let none : a ≡ 0 = omega arith in let e : a * b ≡ 0 * b = ap (λ (k : ℕ). k * b) none in omega arith
times_le zero b (suc c) d first second = omega arith
times_le (suc a) b (suc c) d first second = let rest = times_le a b c d (omega arith) second in omega arith

-- the bytes of a picture
pub count_bounded : (width height across down : ℕ) → width ≤ 4096 → height ≤ 2304 → width * height + (width / across * (height / down) + width / across * (height / down)) ≤ 28311552
count_bounded width height across down w h =
    let luma = times_le width height 4096 2304 w h in
    let a = div-le_self width across in let b = div-le_self height down in
    let chroma = times_le (width / across) (height / down) 4096 2304 (omega arith) (omega arith) in omega arith

pub bounded_by : (width height chroma_width chroma_height across down : ℕ) → chroma_width ≡ width / across → chroma_height ≡ height / down → width ≤ 4096 → height ≤ 2304
    → width * height + (chroma_width * chroma_height + chroma_width * chroma_height) ≤ 28311552
bounded_by width height chroma_width chroma_height across down w h few low = rw (w, h) (count_bounded width height across down few low)

one_or_two : (b : Bool) → (1 ≤ (if b then 1 else 2)) × ((if b then 1 else 2) ≤ 2)
one_or_two true = (omega arith, omega arith)
one_or_two false = (omega arith, omega arith)

-- a plane of chroma has columns, and no more than luma
pub chroma_some : (t : Settings) → IsAccepted t → (1 ≤ t.width / step_across t.chroma) × (t.width / step_across t.chroma ≤ 4096)
chroma_some t is =
    let f = sizes_fit t is in
    let step = one_or_two (t.chroma == 0) in
    let least = div-le_self t.width (step_across t.chroma) in
    (some_parts t.width (step_across t.chroma) f.across.0 step.0 step.1 f.across_divides, omega (arith, f.across.1))
