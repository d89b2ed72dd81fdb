-- How large the values of a level's plane are, and what the level makes of them.
use Rattle.std.proofs.Common.{◌≡◌, ℕ, ◌+◌, ◌*◌, ◌^◌, ◌<◌, ◌≤◌, List, Some, slice_get, unsigned_abs, arith, refl, ap, sym, ◌∙◌, subst}
use Rattle.std.specs.List.{All}
use Rattle.dirac_common.specs.Limits.{IsWavelet}
use Rattle.dirac_common.specs.Table.{Table}
use Rattle.dirac_common.specs.declared.formats.Kind.{Kind}
use Rattle.dirac_common.proofs.Bounds.{all_weaker}
use Rattle.dirac_bands.specs.Interleaving.{joined_at}
use Rattle.dirac_bands.specs.Geometry.{lowest_size}
use Rattle.dirac_parameters.specs.Counts.{counts_among}
use Rattle.dirac_parameters.specs.declared.transform.Transform.{Transform}
use Rattle.dirac_lift.specs.Level.{level}
use Rattle.dirac_lift.proofs.LevelGrowth.{level_grows}
use Rattle.dirac_coeffs.specs.declared.layout.CodedBand.{CodedBand}
use Rattle.dirac_synthesis.specs.declared.bands.Level.{Level}
use Rattle.dirac_synthesis.specs.declared.bands.LevelBands.{LevelBands}
use Rattle.dirac_synthesis.specs.declared.bands.Synthesis.{Synthesis}
use Rattle.dirac_synthesis.specs.Codeblocks.{restored_band, restored_by_one}
use Rattle.dirac_synthesis.specs.declared.plane.CodedPlane.{CodedPlane}
use Rattle.dirac_synthesis.specs.Fits.{IsBandOf}
use Rattle.dirac_synthesis.specs.Levels.{IsLevel, IsLevelOf, IsLow, joined_by, level_plane, next_low}
use Rattle.dirac_synthesis.specs.Planes.{IsLowOf, IsRestorablePlane}
use Rattle.dirac_synthesis.specs.Residual.{summed}
use Rattle.dirac_synthesis.proofs.Bounds.{joined_bound}
use Rattle.dirac_synthesis.proofs.ByCodeblock.{band_at_most}
use Rattle.dirac_synthesis.proofs.LevelLemmas.{first_level, last_size, more_levels, stands_level, summed_height, summed_width}
use Rattle.dirac_synthesis.proofs.Sizes.{bound_least, bound_more, entry_bound, level_some, lowest_length, next_length}
use Rattle.dirac_synthesis.proofs.ZeroBands.{length-filled}

pub plane_at_most : (b : ℕ) (by : Synthesis) (low : Table) (bands : LevelBands) → 2 ^ 64 ≤ b → IsLevel by low bands → All (λ v. unsigned_abs v ≤ b) low.values → All (λ v. unsigned_abs v ≤ b) (level_plane by low bands).values
plane_at_most b by low bands least l all =
    joined_bound b low (restored_band by.kind by.counts bands.hl.now) (restored_band by.kind by.counts bands.lh.now) (restored_band by.kind by.counts bands.hh.now) all
    (band_at_most b by.kind by.counts bands.hl.now (omega (arith, least)) l.hl_indices l.hl.small)
    (band_at_most b by.kind by.counts bands.lh.now (omega (arith, least)) l.lh_indices l.lh.small)
    (band_at_most b by.kind by.counts bands.hh.now (omega (arith, least)) l.hh_indices l.hh.small)

pub next_grows : (b : ℕ) (by : Synthesis) (low next : Table) (bands : LevelBands) → next ≡ next_low by low bands → 2 ^ 64 ≤ b → 1 ≤ low.width → IsLevel by low bands → All (λ v. unsigned_abs v ≤ b) low.values → All (λ v. unsigned_abs v ≤ 72 * b + 40) next.values
next_grows b by low next bands e least some l all =
    rw e (level_grows by.wavelet b (level_plane by low bands) l.wavelet (omega arith) (omega arith)
    (length-filled (2 * low.width) (2 * low.height) (joined_at low (restored_band by.kind by.counts bands.hl.now) (restored_band by.kind by.counts bands.lh.now) (restored_band by.kind by.counts bands.hh.now)))
    (omega (arith, some)) (plane_at_most b by low bands least l all))

-- where the codeblocks of each band have its index
pub one_plane : (by : Synthesis) (low : Table) (bands : LevelBands) → restored_band by.kind by.counts bands.hl.now ≡ restored_by_one by.kind bands.hl.now → restored_band by.kind by.counts bands.lh.now ≡ restored_by_one by.kind bands.lh.now → restored_band by.kind by.counts bands.hh.now ≡ restored_by_one by.kind bands.hh.now → joined_by (restored_by_one by.kind) low bands ≡ level_plane by low bands
one_plane by low bands hl lh hh = rw (hl, lh, hh) refl

-- the first LL band of a plane
pub low_first : (t : Transform) (kind : Kind) (bands : List CodedBand) (width height : ℕ) (counts : ℕ × ℕ) (b : CodedBand) (low : Table) → slice_get t.counts 0 ≡ Some counts → slice_get bands 0 ≡ Some b → IsBandOf t width height 0 b → low ≡ summed kind (restored_band kind counts b) → All (λ v. unsigned_abs v ≤ 2 ^ 77) low.values → IsLow t kind bands width height 0 low
low_first t kind bands width height counts b low told got fits e small = record {
  value = first_level t kind bands counts b low (ap counts_among told) got e;
  across = ap (λ (t : Table). t.width) e ∙ summed_width kind (restored_band kind counts b) ∙ fits.across ∙ lowest_length width t.depth ∙ omega arith;
  down = ap (λ (t : Table). t.height) e ∙ summed_height kind (restored_band kind counts b) ∙ fits.down ∙ lowest_length height t.depth ∙ omega arith;
  bound = small;
}

-- a level behind an LL band
pub low_stands : (c : CodedPlane) (n : ℕ) (l : Level) (low : Table) → IsRestorablePlane c → n < c.transform.now.depth → IsLevelOf c.transform.now c.kind c.bands.now n l → IsLowOf c n low → IsLevel l.by low l.bands
low_stands c n l low p less is q =
    stands_level c.transform.now c.bands.now c.width c.height n l.by low l.bands (subst IsWavelet (sym is.wavelet) p.wavelet) p.depth.1 p.across.1 p.down.1 p.bands less is.counts q.across q.down
    (all_weaker (2 ^ 77 * 73 ^ n) (2 ^ 103) low.values (entry_bound n (omega (arith, less, p.depth.1))) q.bound) is.hl is.lh is.hh

-- and the LL band behind it
pub low_next : (c : CodedPlane) (n : ℕ) (l : Level) (low next : Table) → IsRestorablePlane c → n < c.transform.now.depth → IsLevelOf c.transform.now c.kind c.bands.now n l → IsLowOf c n low → next ≡ next_low l.by low l.bands → IsLowOf c (n + 1) next
low_next c n l low next p less is q e =
    let t = c.transform.now in
    record {
      value =
          more_levels t c.kind c.bands.now n l.by.counts l.bands.hl.now l.bands.lh.now l.bands.hh.now low next (ap counts_among is.counts) q.value is.hl is.lh is.hh
          (e
          ∙ ap (λ w. level w low (restored_band l.by.kind l.by.counts l.bands.hl.now) (restored_band l.by.kind l.by.counts l.bands.lh.now) (restored_band l.by.kind l.by.counts l.bands.hh.now)) is.wavelet
          ∙ ap (λ k. level t.wavelet low (restored_band k l.by.counts l.bands.hl.now) (restored_band k l.by.counts l.bands.lh.now) (restored_band k l.by.counts l.bands.hh.now)) is.of_kind);
      across = next_length (lowest_size c.width t.depth) n low.width next.width (ap (λ (t : Table). t.width) e) q.across;
      down = next_length (lowest_size c.height t.depth) n low.height next.height (ap (λ (t : Table). t.height) e) q.down;
      bound =
          all_weaker (72 * (2 ^ 77 * 73 ^ n) + 40) (2 ^ 77 * 73 ^ (n + 1)) next.values (bound_more n)
          (next_grows (2 ^ 77 * 73 ^ n) l.by low next l.bands e (bound_least n) (level_some c.width t.depth n low.width p.across.0 q.across) (low_stands c n l low p less is q) q.bound);
    }

-- twice the LL band before the last level is the plane with what was padded
pub last_across : (t : Transform) (kind : Kind) (bands : List CodedBand) (width height last : ℕ) (low : Table) → t.depth ≡ last + 1 → IsLow t kind bands width height last low → (width ≤ 2 * low.width) × (height ≤ 2 * low.height)
last_across t kind bands width height last low whole q = (last_size width t.depth last low.width whole q.across, last_size height t.depth last low.height whole q.down)
