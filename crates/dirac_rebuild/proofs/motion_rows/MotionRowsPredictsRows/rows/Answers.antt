use Rattle.std.proofs.Common.{arith, ◌∙◌}
use Rattle.dirac_synthesis.proofs.Maps.{ok_weaker}
use Rattle.dirac_obmc.specs.Given.{compensation_of}
use Rattle.dirac_rebuild.proofs.MotionRows.{rows_told}
use Rattle.dirac_rebuild.proofs.motion_rows.MotionRowsPredictsRows.rows.Goals as goal

pub returns : goal.returns
returns c =
    let m = compensation_of c.args.self.now.motion in
    ok_weaker c.predict_rows_with.result
    (λ t e. e ∙ rows_told m c.args.from c.args.to (omega (arith, c.requires.lawful.0.first.0, c.width-first.ensures.lawful.some_across)) c.requires.inside) c.predict_rows_with.ensures.value
