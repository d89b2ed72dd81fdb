-- The LL band of one level more.
use Rattle.std.proofs.Common.{◌≡◌, ℕ, suc, ◌+◌, ◌*◌, ◌^◌, ◌<◌, ◌≤◌, List, slice_get, Some, unsigned_abs, arith, refl, ap, sym, ◌∙◌, subst}
use Rattle.std.specs.List.{All}
use Rattle.std.proofs.lemmas.Nat.{pow-add}
use Rattle.dirac_common.specs.declared.formats.Kind.{Kind}
use Rattle.dirac_common.specs.declared.formats.Kind.TheVariants.{Intra, Inter}
use Rattle.dirac_common.specs.Limits.{IsWavelet}
use Rattle.dirac_common.specs.Table.{Table}
use Rattle.dirac_bands.specs.Geometry.{level_of, lowest_size}
use Rattle.dirac_parameters.specs.Counts.{counts_among, counts_at}
use Rattle.dirac_parameters.specs.declared.transform.Transform.{Transform}
use Rattle.dirac_coeffs.specs.declared.layout.CodedBand.{CodedBand}
use Rattle.dirac_lift.specs.Level.{level}
use Rattle.dirac_synthesis.specs.declared.bands.LevelBands.{LevelBands}
use Rattle.dirac_synthesis.specs.declared.bands.Synthesis.{Synthesis}
use Rattle.dirac_synthesis.specs.Codeblocks.{HasIndices, restored_band}
use Rattle.dirac_synthesis.specs.Fits.{AreRestorableBands, IsBandOf, IsBesides}
use Rattle.dirac_synthesis.specs.Levels.{IsLevel}
use Rattle.dirac_synthesis.specs.Residual.{after_levels, restored_among, restored_at, summed}
use Rattle.dirac_synthesis.proofs.Sizes.{level_length, quotient_bound, size_within}

-- what a band of these counts stands for
pub restored_is : (t : Transform) (kind : Kind) (bands : List CodedBand) (n level : ℕ) (counts : ℕ × ℕ) (b : CodedBand) → counts_at t.counts level ≡ counts → level_of n ≡ level → slice_get bands n ≡ Some b → restored_band kind counts b ≡ restored_at t kind bands n
restored_is t kind bands n level counts b told at got =
    ap (λ (c : ℕ × ℕ). restored_band kind c b) (sym told)
    ∙ ap (λ l. restored_band kind (counts_at t.counts l) b) (sym at)
    ∙ ap (restored_among kind (counts_at t.counts (level_of n))) (sym got)

-- the indices of a band whose level has these counts
pub counts_given : (t : Transform) (n level : ℕ) (counts : ℕ × ℕ) (b : CodedBand) → level_of n ≡ level → slice_get t.counts level ≡ Some counts → HasIndices (counts_at t.counts (level_of n)) b → HasIndices counts b
counts_given t n level counts b at told has =
    subst (λ (c : ℕ × ℕ). HasIndices c b) (ap (λ l. counts_at t.counts l) at ∙ ap counts_among told) has

-- the band of level 0
pub first_level : (t : Transform) (kind : Kind) (bands : List CodedBand) (counts : ℕ × ℕ) (a : CodedBand) (low : Table) → counts_at t.counts 0 ≡ counts → slice_get bands 0 ≡ Some a → low ≡ summed kind (restored_band kind counts a) → low ≡ after_levels t kind bands 0
unfolding after_levels
first_level t kind bands counts a low told got e = e ∙ ap (summed kind) (restored_is t kind bands 0 0 counts a told (omega arith) got)

-- sums have the size of their differences
pub summed_width : (kind : Kind) (t : Table) → (summed kind t).width ≡ t.width
summed_width Intra t = refl
summed_width Inter t = refl

pub summed_height : (kind : Kind) (t : Table) → (summed kind t).height ≡ t.height
summed_height Intra t = refl
summed_height Inter t = refl

pub more_levels : (t : Transform) (kind : Kind) (bands : List CodedBand) (n : ℕ) (counts : ℕ × ℕ) (a b d : CodedBand) (low next : Table) → counts_at t.counts (n + 1) ≡ counts → low ≡ after_levels t kind bands n
    → slice_get bands (3 * n + 1) ≡ Some a → slice_get bands (3 * n + 2) ≡ Some b → slice_get bands (3 * n + 3) ≡ Some d
    → next ≡ level t.wavelet low (restored_band kind counts a) (restored_band kind counts b) (restored_band kind counts d) → next ≡ after_levels t kind bands (n + 1)
unfolding after_levels
more_levels t kind bands n counts a b d low next told el ga gb gd e =
    let one : suc n ≡ n + 1 = omega arith in
    let right = restored_is t kind bands (3 * n + 1) (n + 1) counts a told (omega arith) ga in
    let below = restored_is t kind bands (3 * n + 2) (n + 1) counts b told (omega arith) gb in
    let both = restored_is t kind bands (3 * n + 3) (n + 1) counts d told (omega arith) gd in
    e ∙ ap (λ l. level t.wavelet l (restored_band kind counts a) (restored_band kind counts b) (restored_band kind counts d)) el
    ∙ ap (λ x. level t.wavelet (after_levels t kind bands n) x (restored_band kind counts b) (restored_band kind counts d)) right
    ∙ ap (λ x. level t.wavelet (after_levels t kind bands n) (restored_at t kind bands (3 * n + 1)) x (restored_band kind counts d)) below
    ∙ ap (level t.wavelet (after_levels t kind bands n) (restored_at t kind bands (3 * n + 1)) (restored_at t kind bands (3 * n + 2))) both
    ∙ ap (after_levels t kind bands) one

-- band k of a plane stands beside the LL band of its level
stands_beside : (t : Transform) (width height n k : ℕ) (low : Table) (b : CodedBand) → n < t.depth → 3 * n + 1 ≤ k → k ≤ 3 * n + 3 → low.width ≡ lowest_size width t.depth * 2 ^ n → low.height ≡ lowest_size height t.depth * 2 ^ n → IsBandOf t width height k b → IsBesides low b
stands_beside t width height n k low b l least most ew eh fits = record {
  index = fits.index;
  across = fits.across ∙ level_length width t.depth n k l least most ∙ sym ew;
  down = fits.down ∙ level_length height t.depth n k l least most ∙ sym eh;
  small = fits.small;
}

-- so a level can be synthesised
pub stands_level : (t : Transform) (bands : List CodedBand) (width height n : ℕ) (by : Synthesis) (low : Table) (beside : LevelBands)
    → IsWavelet by.wavelet → t.depth ≤ 5 → width ≤ 8192 → height ≤ 8192 → AreRestorableBands t width height bands → n < t.depth → slice_get t.counts (n + 1) ≡ Some by.counts
    → low.width ≡ lowest_size width t.depth * 2 ^ n → low.height ≡ lowest_size height t.depth * 2 ^ n → All (λ v. unsigned_abs v ≤ 2 ^ 103) low.values
    → slice_get bands (3 * n + 1) ≡ Some beside.hl.now → slice_get bands (3 * n + 2) ≡ Some beside.lh.now → slice_get bands (3 * n + 3) ≡ Some beside.hh.now
    → IsLevel by low beside
stands_level t bands width height n by low beside wavelet deep across down all l told ew eh small ga gb gd =
    let fa = all.each (3 * n + 1) beside.hl.now ga in
    let fb = all.each (3 * n + 2) beside.lh.now gb in
    let fd = all.each (3 * n + 3) beside.hh.now gd in
    record {
      wavelet = wavelet;
      across = omega (arith, ew, quotient_bound width t.depth n across l deep);
      down = omega (arith, eh, quotient_bound height t.depth n down l deep);
      hl = stands_beside t width height n (3 * n + 1) low beside.hl.now l (omega arith) (omega arith) ew eh fa;
      lh = stands_beside t width height n (3 * n + 2) low beside.lh.now l (omega arith) (omega arith) ew eh fb;
      hh = stands_beside t width height n (3 * n + 3) low beside.hh.now l (omega arith) (omega arith) ew eh fd;
      hl_indices = counts_given t (3 * n + 1) (n + 1) by.counts beside.hl.now (omega arith) told fa.indices;
      lh_indices = counts_given t (3 * n + 2) (n + 1) by.counts beside.lh.now (omega arith) told fb.indices;
      hh_indices = counts_given t (3 * n + 3) (n + 1) by.counts beside.hh.now (omega arith) told fd.indices;
      small = small;
    }

-- twice the LL band before the last level is the plane with what was padded
pub last_size : (size depth last low : ℕ) → depth ≡ last + 1 → low ≡ lowest_size size depth * 2 ^ last → size ≤ 2 * low
last_size size depth last low next e =
    let power : 2 ^ (last + 1) ≡ 2 ^ last * 2 = pow-add 2 last 1 in
    let whole : lowest_size size depth * 2 ^ depth ≡ lowest_size size depth * (2 ^ last * 2) = ap (λ n. lowest_size size depth * 2 ^ n) next ∙ ap (λ p. lowest_size size depth * p) power in
    omega (arith, e, whole, size_within size depth)
