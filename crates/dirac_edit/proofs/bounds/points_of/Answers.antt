use Rattle.std.proofs.Common.{◌≡◌, ◌∙◌, ◌+◌, Bool, arith, cond, sym, ap}
use Rattle.std.proofs.lemmas.Bool.{cond-false, cond-true}
use Rattle.dirac_common.specs.Codes.{is_intra}
use Rattle.dirac_edit.proofs.Going.{points_all, points_more}
use Rattle.dirac_edit.proofs.bounds.points_of.Goals as goal
use Rattle.dirac_edit.proofs.bounds.points_of.Goals.{else-is_intra, then-is_intra}

pub loop-unit-preserved : goal.loop-unit-preserved
loop-unit-preserved c =
    let u = c.unit-item.result in
    let points = c.loop-unit.points in
    let b : Bool = is_intra u.info.code in
    let same : c.is_intra.result ≡ b = c.is_intra.ensures ∙ ap is_intra c.code.ensures in
    let next : c.if-is_intra.points ≡ cond b (points + 1) points =
    elim c.if-is_intra.branch [
      | then-is_intra w ↦ w.points-is ∙ sym (cond-true b (points + 1) points (sym same ∙ w.if-is_intra.true))
      | else-is_intra w ↦ w.points-is ∙ sym (cond-false b (points + 1) points (sym same ∙ w.if-is_intra.false))
    ] in
    record {
      at_most_one_a_unit = elim c.if-is_intra.branch [
        | then-is_intra w ↦ omega (arith, c.loop-unit.invariant.at_most_one_a_unit)
        | else-is_intra w ↦ omega (arith, c.loop-unit.invariant.at_most_one_a_unit)
      ];
      so = points_more c.args.units.now c.loop-unit.unit-index u points c.if-is_intra.points c.loop-unit-test.true c.unit-item.is c.loop-unit.invariant.so next;
    }

pub returns-clause-value : goal.returns-clause-value
returns-clause-value c = points_all c.args.units.now c.loop-unit.unit-index c.loop-unit.points c.loop-unit-test.false c.loop-unit.invariant.so
