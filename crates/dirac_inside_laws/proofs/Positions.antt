-- Positions that have a weight take nothing outside.
use Rattle.std.proofs.Common.{◌≡◌, ℕ, zero, suc, ℤ, pos, ◌*◌, ◌/◌, ◌<◌, Bool, true, false, ◌&&◌, if◌then◌else◌, arith, refl, ap, inl, inr, sym, subst, ◌∙◌}
use Rattle.std.proofs.Math.Nat.{mul_comm}
use Rattle.std.proofs.lemmas.Bool.{and_from, and_parts, cases_Bool}
use Rattle.dirac_common.specs.Ratios.{ratio_across, ratio_down}
use Rattle.dirac_common.specs.declared.formats.BlockGrid.{BlockGrid}
use Rattle.dirac_common.specs.declared.formats.Component.{Component}
use Rattle.dirac_common.specs.declared.formats.Component.TheVariants as component
use Rattle.dirac_common.specs.declared.formats.Vector.{Vector}
use Rattle.dirac_block_table.specs.Tables.{block_at}
use Rattle.dirac_inside.specs.Inside.{KeepsInside, has_sample, holds, is_inside, keeps_inside, plane_keeps, position, sample_keeps}
use Rattle.dirac_inside.specs.declared.picture_blocks.PictureBlocks.{PictureBlocks}
use Rattle.dirac_inside.proofs.Planes.{plane_tells}
use Rattle.dirac_obmc.specs.Compensation.{Compensation, across_ratio, blocks_across, blocks_down, down_ratio, ratio_of, weight_of, x_length, x_separation, y_length, y_separation}
use Rattle.dirac_obmc.specs.Weights.{share}
use Rattle.dirac_inside_laws.specs.Alike.{LeadsInside, WeightedPositionsAreInside}
use Rattle.dirac_inside_laws.specs.Kept.{IsPlaneOf, VectorsKeepInside}

-- a block that has a share of a place holds it
share_none : (block count len separation x : ℕ) → holds block len separation x ≡ false → share block count len separation x ≡ 0
unfolding share
share_none block count len separation x e = rw e refl

share_held : (block count len separation x : ℕ) → 0 < share block count len separation x → holds block len separation x ≡ true
share_held block count len separation x some = elim (cases_Bool (holds block len separation x)) [
  | inl held ↦ held
  | inr not_held ↦ absurd (omega (arith, some, share_none block count len separation x not_held))
]

-- both shares of a weight are some
some_left : (a b : ℕ) → 0 < a * b → 0 < a
some_left zero b l = omega (arith, l)
some_left (suc a) b l = omega arith

-- the plane of a component
component_keeps : (c : Component) (p : PictureBlocks) (q i j : ℕ) (v : Vector) → KeepsInside p q i j v
    → plane_keeps p (ratio_of c p.across_ratio) (ratio_of c p.down_ratio) q i j v ≡ true
unfolding keeps_inside
component_keeps component.Y p q i j v is = (and_parts (plane_keeps p 1 1 q i j v) (plane_keeps p p.across_ratio p.down_ratio q i j v) is).0
component_keeps component.U p q i j v is = (and_parts (plane_keeps p 1 1 q i j v) (plane_keeps p p.across_ratio p.down_ratio q i j v) is).1
component_keeps component.V p q i j v is = (and_parts (plane_keeps p 1 1 q i j v) (plane_keeps p p.across_ratio p.down_ratio q i j v) is).1

-- a vector leads inside from each sample of a plane that its block has
leads : (p : PictureBlocks) (m : Compensation) (i j x y : ℕ) (v : Vector) → IsPlaneOf p m → KeepsInside p m.prediction.precision i j v → x < m.width → y < m.height
    → holds i (x_length m) (x_separation m) x ≡ true → holds j (y_length m) (y_separation m) y ≡ true → LeadsInside m v x y
leads p m i j x y v is keeps l k held_across held_down =
    let a = across_ratio m in
    let d = down_ratio m in
    let q = m.prediction.precision in
    let keeps_plane : plane_keeps p a d q i j v ≡ true =
    subst (λ (n : ℕ). plane_keeps p (ratio_of m.component n) (ratio_of m.component (ratio_down m.chroma)) q i j v ≡ true) (sym is.chroma_across)
    (subst (λ (n : ℕ). plane_keeps p (ratio_of m.component p.across_ratio) (ratio_of m.component n) q i j v ≡ true) (sym is.chroma_down)
    (component_keeps m.component p q i j v keeps)) in
    let held : has_sample p a d i j x y ≡ true =
    subst (λ (g : BlockGrid). (holds i (g.xblen / a) (g.xbsep / a) x && holds j (g.yblen / d) (g.ybsep / d) y) ≡ true) is.grid
    (and_from (holds i (x_length m) (x_separation m) x) (holds j (y_length m) (y_separation m) y) held_across held_down) in
    let sample = plane_tells p a d q i j v keeps_plane x y (subst (λ (n : ℕ). x < n) is.width l) (subst (λ (n : ℕ). y < n) is.height k) held in
    let parts = and_parts (is_inside q (p.width / a) (position q a x v.x)) (is_inside q (p.height / d) (position q d y v.y)) sample in
    record {
      across = subst (λ (n : ℕ). is_inside q n (position q a x v.x) ≡ true) (sym is.width) parts.0;
      down = subst (λ (n : ℕ). is_inside q n (position q d y v.y) ≡ true) (sym is.height) parts.1;
    }

pub positions_inside : WeightedPositionsAreInside
positions_inside p m is keep i j x y column row l k some =
    let a = share i (blocks_across m) (x_length m) (x_separation m) x in
    let b = share j (blocks_down m) (y_length m) (y_separation m) y in
    let across = share_held i (blocks_across m) (x_length m) (x_separation m) x (some_left a b some) in
    let down = share_held j (blocks_down m) (y_length m) (y_separation m) y (some_left b a (omega (arith, some, mul_comm a b))) in
    let block = keep i j column row in (
      λ e. leads p m i j x y (block_at m.blocks i j).v1 is (block.first e) l k across down,
      λ e. leads p m i j x y (block_at m.blocks i j).v2 is (block.second e) l k across down,
    )
