use Rattle.std.proofs.lemmas.Result.{err_from_is_err_and}
use Rattle.dirac_edit.proofs.Checking.{checked}
use Rattle.dirac_edit.proofs.Joined.{join_refused_by, whole_kept}
use Rattle.dirac_edit.proofs.join.whole_of.Goals as goal

pub returns-in_err-check-clause-refused : goal.returns-in_err-check-clause-refused
returns-in_err-check-clause-refused c =
    let p = err_from_is_err_and c.from_residual.result c.from_residual.ensures.1 in
    rw (p.1, p.2) (join_refused_by c.args.bytes.now _ c.in_err-check.ensures.refused)

pub returns-clause-is_joinable : goal.returns-clause-is_joinable
returns-clause-is_joinable c =
    let bytes = c.args.bytes.now in
    let units = c.in-Ok.units.items in
    whole_kept bytes units c.as_slice.result.now c.in-Ok-sequences_of.sequences.items c.joined_streams_show_the_same.ensures c.are_bytes.ensures
    (checked bytes units c.bytes_have_one_cut.ensures.none_has_two_cuts c.in_ok-check.ensures.sound c.in-Ok.ensures) c.as_slice.ensures.value c.in-Ok-sequences_of.ensures
