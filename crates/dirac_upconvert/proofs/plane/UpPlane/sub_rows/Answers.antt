use Rattle.std.proofs.Common.{◌≡◌, ◌+ℤ◌, ◌*◌, ◌/◌, ◌%◌, ◌^◌, ◌<◌, ℕ, length, slice_index_or, pos, arith, refl, ap, sym, subst, ◌∙◌}
use Rattle.std.specs.Int.{w64}
use Rattle.std.proofs.lemmas.Int.{to_z-of_z}
use Rattle.dirac_common.specs.Table.{Table}
use Rattle.dirac_upconvert.specs.Positions.{sample_from}
use Rattle.dirac_upconvert.specs.SubSamples.{Up, sub_sample}
use Rattle.dirac_upconvert.specs.WholeSamples.{all_in}
use Rattle.dirac_upconvert.proofs.SampleRows.{rows_samples}
use Rattle.dirac_upconvert.proofs.plane.UpPlane.sub_rows.Goals as goal

pub returns-in-Alone-clause-value : goal.returns-in-Alone-clause-value
returns-in-Alone-clause-value c =
    let up : Up = record { width = c.self.inside.width; height = c.self.inside.height; table = all_in c.self.inside.samples } in
    let out = c.rows_alone.new.out in
    subst (λ (u : Up). (n : ℕ) → n < length c.args.out.now → slice_index_or out n (pos 0) ≡ sub_sample u c.args.precision (c.args.x +ℤ pos (2 ^ c.args.precision * (n % c.args.width))) (c.args.y +ℤ pos (2 ^ c.args.precision * (n / c.args.width)))) c.self.view_is
    (λ n l. c.rows_alone.ensures up (ap all_in c.in-Alone.is) n (omega (arith, l, c.rows_alone.auto.out)) ∙ rw (to_z-of_z w64 c.args.x c.ranges.x, to_z-of_z w64 c.args.y c.ranges.y) refl)

pub returns-in-Alone-clause-samples : goal.returns-in-Alone-clause-samples
returns-in-Alone-clause-samples c =
    let up : Up = record { width = c.self.inside.width; height = c.self.inside.height; table = all_in c.self.inside.samples } in
    rows_samples up c.args.precision _ _ c.args.width c.rows_alone.new.out c.requires.precision c.self.invariant.samples (c.rows_alone.ensures up (ap all_in c.in-Alone.is))

pub returns-in-Doubled-clause-value : goal.returns-in-Doubled-clause-value
returns-in-Doubled-clause-value c =
    let up : Up = record { width = c.self.inside.width; height = c.self.inside.height; table = all_in c.self.inside.samples } in
    let out = c.rows_of_parts.new.out in
    subst (λ (u : Up). (n : ℕ) → n < length c.args.out.now → slice_index_or out n (pos 0) ≡ sub_sample u c.args.precision (c.args.x +ℤ pos (2 ^ c.args.precision * (n % c.args.width))) (c.args.y +ℤ pos (2 ^ c.args.precision * (n / c.args.width)))) c.self.view_is
    (λ n l. c.rows_of_parts.ensures n (omega (arith, l, c.rows_of_parts.auto.out)) ∙ ap (λ (t : Table). sample_from t c.position_of.result (n % c.args.width) (n / c.args.width)) (sym (ap all_in c.in-Doubled.is))
    ∙ c.position_of.ensures.samples up (n / c.args.width) (n % c.args.width) ∙ rw (to_z-of_z w64 c.args.x c.ranges.x, to_z-of_z w64 c.args.y c.ranges.y) refl)

pub returns-in-Doubled-clause-samples : goal.returns-in-Doubled-clause-samples
returns-in-Doubled-clause-samples c =
    let up : Up = record { width = c.self.inside.width; height = c.self.inside.height; table = all_in c.self.inside.samples } in
    rows_samples up c.args.precision _ _ c.args.width c.rows_of_parts.new.out c.requires.precision c.self.invariant.samples
    (λ n l. c.rows_of_parts.ensures n l ∙ ap (λ (t : Table). sample_from t c.position_of.result (n % c.args.width) (n / c.args.width)) (sym (ap all_in c.in-Doubled.is))
    ∙ c.position_of.ensures.samples up (n / c.args.width) (n % c.args.width))
