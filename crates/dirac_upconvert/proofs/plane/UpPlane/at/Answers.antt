use Rattle.std.proofs.Common.{ℤ, to_z, of_z, ap, subst, sym, ◌∙◌}
use Rattle.std.specs.Int.{w16, w64}
use Rattle.std.proofs.lemmas.Int.{to_z-of_z}
use Rattle.dirac_upconvert.specs.HalfSamples.{IsSample}
use Rattle.dirac_upconvert.specs.SubSamples.{Up}
use Rattle.dirac_upconvert.specs.WholeSamples.{all_in}
use Rattle.dirac_upconvert.proofs.SampleRows.{sub_sample_is}
use Rattle.dirac_upconvert.proofs.plane.UpPlane.at.Goals as goal

pub returns-in-Alone-clause-sample : goal.returns-in-Alone-clause-sample
returns-in-Alone-clause-sample c =
    let up : Up = record { width = c.self.inside.width; height = c.self.inside.height; table = all_in c.self.inside.samples } in
    subst (λ (v : ℤ). IsSample v) (sym (to_z-of_z w16 _ (record { sfits = c.sample_alone.type_inv }) ∙ c.sample_alone.ensures up (ap all_in c.in-Alone.is)))
    (sub_sample_is up c.args.precision (to_z w64 (of_z w64 c.args.x)) (to_z w64 (of_z w64 c.args.y)) c.requires.precision c.self.invariant.samples)

pub returns-in-Doubled-clause-sample : goal.returns-in-Doubled-clause-sample
returns-in-Doubled-clause-sample c =
    let up : Up = record { width = c.self.inside.width; height = c.self.inside.height; table = all_in c.self.inside.samples } in
    subst (λ (v : ℤ). IsSample v) (sym (to_z-of_z w16 _ (record { sfits = c.sample_doubled.type_inv }) ∙ c.sample_doubled.ensures up (ap all_in c.in-Doubled.is)))
    (sub_sample_is up c.args.precision (to_z w64 (of_z w64 c.args.x)) (to_z w64 (of_z w64 c.args.y)) c.requires.precision c.self.invariant.samples)
