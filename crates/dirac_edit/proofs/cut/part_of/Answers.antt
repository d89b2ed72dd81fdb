use Rattle.std.proofs.lemmas.Result.{err_from_is_err_and}
use Rattle.dirac_edit.specs.Steps.{IsChecked}
use Rattle.dirac_edit.proofs.Checking.{IsFound, checked, fault_refused, found, open_refused, part_allowed, point_wrong, wrong_refused}
use Rattle.dirac_edit.proofs.cut.part_of.Goals as goal

pub returns-in_err-check-clause-refused : goal.returns-in_err-check-clause-refused
returns-in_err-check-clause-refused c =
    let p = err_from_is_err_and c.from_residual.result c.from_residual.ensures.1 in
    rw (p.1, p.2) (fault_refused c.args.bytes.now c.args.from c.args.to _ c.in_err-check.ensures.refused)

pub returns-in-Some-clause-refused : goal.returns-in-Some-clause-refused
returns-in-Some-clause-refused c =
    let bytes = c.args.bytes.now in
    let units = c.in-Ok.units.items in
    wrong_refused bytes units c.args.from c.args.to c.in-Some.number
    (checked bytes units c.bytes_have_one_cut.ensures.none_has_two_cuts c.in_ok-check.ensures.sound c.in-Ok.ensures)
    (point_wrong units c.as_slice.result.now c.args.from c.args.to c.points_of-points.result c.in-Some.number c.wrong_point.result
    c.as_slice.ensures.value c.points_of-points.ensures.value c.wrong_point.ensures c.in-Some.is)

pub returns-in-Ok-None-clause-part : goal.returns-in-Ok-None-clause-part
returns-in-Ok-None-clause-part c =
    let bytes = c.args.bytes.now in
    let units = c.in-Ok.units.items in
    let kept = c.in-Ok-sequences_of.sequences.items in
    let is : IsChecked bytes units = checked bytes units c.bytes_have_one_cut.ensures.none_has_two_cuts c.in_ok-check.ensures.sound c.in-Ok.ensures in
    let f : IsFound units c.args.from c.args.to kept c.in-Ok-None.field-0 =
    found units c.as_slice.result.now c.as_slice-2.result.now c.args.from c.args.to c.points_of-points.result c.unwrap_or.result c.wrong_point.result kept c.as_slice-3.result.now c.in-Ok-None.field-0
    c.as_slice.ensures.value c.as_slice-2.ensures.value c.points_of-points.ensures.value c.wrong_point.ensures c.in_default-wrong_point.is c.unwrap_or.ensures c.in-Ok-sequences_of.ensures c.as_slice-3.ensures.value c.in-Ok-None.ensures in
    part_allowed bytes units c.args.from c.args.to kept c.in-Ok-None.field-0 c.units_show_their_sequences.ensures c.cuts_show_their_parts.ensures c.are_bytes.ensures is f c.in-Ok-None.field-0-is

pub returns-in-Ok-Some-clause-refused : goal.returns-in-Ok-Some-clause-refused
returns-in-Ok-Some-clause-refused c =
    let bytes = c.args.bytes.now in
    let units = c.in-Ok.units.items in
    let kept = c.in-Ok-sequences_of.sequences.items in
    let is : IsChecked bytes units = checked bytes units c.bytes_have_one_cut.ensures.none_has_two_cuts c.in_ok-check.ensures.sound c.in-Ok.ensures in
    let f : IsFound units c.args.from c.args.to kept c.in-Ok-Some.field-0 =
    found units c.as_slice.result.now c.as_slice-2.result.now c.args.from c.args.to c.points_of-points.result c.unwrap_or.result c.wrong_point.result kept c.as_slice-3.result.now c.in-Ok-Some.field-0
    c.as_slice.ensures.value c.as_slice-2.ensures.value c.points_of-points.ensures.value c.wrong_point.ensures c.in_default-wrong_point.is c.unwrap_or.ensures c.in-Ok-sequences_of.ensures c.as_slice-3.ensures.value c.in-Ok-Some.ensures in
    open_refused bytes units c.args.from c.args.to kept c.in-Ok-Some.field-0 c.in-Ok-Some.unit c.units_show_their_sequences.ensures c.are_bytes.ensures is f c.in-Ok-Some.field-0-is
