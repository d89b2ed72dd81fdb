use Rattle.std.proofs.Common.{◌≡◌, ◌+ℤ◌, pos, to_z, of_z, refl, ◌∙◌}
use Rattle.std.specs.Int.{w16, w64}
use Rattle.std.proofs.lemmas.Int.{to_z-of_z}
use Rattle.dirac_common.specs.Table.{clamped_at}
use Rattle.dirac_upconvert.specs.HalfSamples.{half}
use Rattle.dirac_upconvert.proofs.whole_samples.WholeSamples.part.Goals as goal

pub returns : goal.returns
returns c =
    let t = half c.args.self.now in
    let next : to_z w64 (of_z w64 c.beside-next.result) ≡ c.args.across +ℤ pos 1 = to_z-of_z w64 _ (record { sfits = c.beside-next.type_inv }) ∙ c.beside-next.ensures ∙ rw (to_z-of_z w64 c.args.across c.ranges.across) refl in
    let under : to_z w64 (of_z w64 c.beside-under.result) ≡ c.args.down +ℤ pos 1 = to_z-of_z w64 _ (record { sfits = c.beside-under.type_inv }) ∙ c.beside-under.ensures ∙ rw (to_z-of_z w64 c.args.down c.ranges.down) refl in
    let v00 : to_z w16 (of_z w16 c.clamped_between.result) ≡ clamped_at t c.args.across c.args.down =
    to_z-of_z w16 _ (record { sfits = c.clamped_between.type_inv }) ∙ c.clamped_between.ensures.value ∙ rw (to_z-of_z w64 c.args.across c.ranges.across, to_z-of_z w64 c.args.down c.ranges.down) refl in
    let v10 : to_z w16 (of_z w16 c.clamped_between-2.result) ≡ clamped_at t (c.args.across +ℤ pos 1) c.args.down =
    to_z-of_z w16 _ (record { sfits = c.clamped_between-2.type_inv }) ∙ c.clamped_between-2.ensures.value ∙ rw (next, to_z-of_z w64 c.args.down c.ranges.down) refl in
    let v01 : to_z w16 (of_z w16 c.clamped_between-3.result) ≡ clamped_at t c.args.across (c.args.down +ℤ pos 1) =
    to_z-of_z w16 _ (record { sfits = c.clamped_between-3.type_inv }) ∙ c.clamped_between-3.ensures.value ∙ rw (to_z-of_z w64 c.args.across c.ranges.across, under) refl in
    let v11 : to_z w16 (of_z w16 c.clamped_between-4.result) ≡ clamped_at t (c.args.across +ℤ pos 1) (c.args.down +ℤ pos 1) =
    to_z-of_z w16 _ (record { sfits = c.clamped_between-4.type_inv }) ∙ c.clamped_between-4.ensures.value ∙ rw (next, under) refl in
    to_z-of_z w16 _ (record { sfits = c.between_four.type_inv }) ∙ c.between_four.ensures
    ∙ rw (v00, v10, v01, v11) refl
