use Rattle.std.proofs.Common.{◌≡◌, ◌+ℤ◌, ◌*◌, ◌^◌, ◌<◌, ℕ, length, slice_index_or, pos, to_z, of_z, arith, refl, ap, sym, subst, ◌∙◌}
use Rattle.std.specs.Int.{w64}
use Rattle.std.proofs.lemmas.Int.{to_z-of_z}
use Rattle.dirac_common.specs.Table.{Table}
use Rattle.dirac_upconvert.specs.Positions.{AreSamplesFrom}
use Rattle.dirac_upconvert.specs.SubSamples.{Up, sub_sample}
use Rattle.dirac_upconvert.specs.WholeSamples.{all_in}
use Rattle.dirac_upconvert.proofs.SampleRows.{row_from, row_samples}
use Rattle.dirac_upconvert.proofs.Wholes.{one_row}
use Rattle.dirac_upconvert.proofs.plane.UpPlane.sub_row.Goals as goal

pub returns-in-Alone-clause-value : goal.returns-in-Alone-clause-value
returns-in-Alone-clause-value c =
    let up : Up = record { width = c.self.inside.width; height = c.self.inside.height; table = all_in c.self.inside.samples } in
    let out = c.rows_alone.new.out in
    subst (λ (u : Up). (k : ℕ) → k < length c.args.out.now → slice_index_or out k (pos 0) ≡ sub_sample u c.args.precision (c.args.x +ℤ pos (2 ^ c.args.precision * k)) c.args.y) c.self.view_is
    (λ k l. c.rows_alone.ensures up (ap all_in c.in-Alone.is) k (omega (arith, l, c.rows_alone.auto.out)) ∙ rw (to_z-of_z w64 c.args.x c.ranges.x, to_z-of_z w64 c.args.y c.ranges.y) refl
    ∙ one_row up c.args.precision c.args.x c.args.y (length c.args.out.now) c.max.result k c.max.ensures l)

pub returns-in-Alone-clause-samples : goal.returns-in-Alone-clause-samples
returns-in-Alone-clause-samples c =
    let up : Up = record { width = c.self.inside.width; height = c.self.inside.height; table = all_in c.self.inside.samples } in
    row_samples up c.args.precision (to_z w64 (of_z w64 c.args.x)) (to_z w64 (of_z w64 c.args.y)) c.rows_alone.new.out c.requires.precision c.self.invariant.samples
    (λ k l. c.rows_alone.ensures up (ap all_in c.in-Alone.is) k l ∙ one_row up c.args.precision _ _ (length c.args.out.now) c.max.result k c.max.ensures (omega (arith, l, c.rows_alone.auto.out)))

pub returns-in-Doubled-clause-value : goal.returns-in-Doubled-clause-value
returns-in-Doubled-clause-value c =
    let up : Up = record { width = c.self.inside.width; height = c.self.inside.height; table = all_in c.self.inside.samples } in
    let out = c.row_parts.new.out in
    subst (λ (u : Up). (k : ℕ) → k < length c.args.out.now → slice_index_or out k (pos 0) ≡ sub_sample u c.args.precision (c.args.x +ℤ pos (2 ^ c.args.precision * k)) c.args.y) c.self.view_is
    (λ k l. row_from up c.args.precision _ _ c.position_of.result out (subst (λ (t : Table). AreSamplesFrom t c.position_of.result out) (sym (ap all_in c.in-Doubled.is)) c.row_parts.ensures)
    (c.position_of.ensures.samples up) k (omega (arith, l, c.row_parts.auto.out)) ∙ rw (to_z-of_z w64 c.args.x c.ranges.x, to_z-of_z w64 c.args.y c.ranges.y) refl)

pub returns-in-Doubled-clause-samples : goal.returns-in-Doubled-clause-samples
returns-in-Doubled-clause-samples c =
    let up : Up = record { width = c.self.inside.width; height = c.self.inside.height; table = all_in c.self.inside.samples } in
    let out = c.row_parts.new.out in
    row_samples up c.args.precision (to_z w64 (of_z w64 c.args.x)) (to_z w64 (of_z w64 c.args.y)) out c.requires.precision c.self.invariant.samples
    (row_from up c.args.precision _ _ c.position_of.result out (subst (λ (t : Table). AreSamplesFrom t c.position_of.result out) (sym (ap all_in c.in-Doubled.is)) c.row_parts.ensures)
    (c.position_of.ensures.samples up))
