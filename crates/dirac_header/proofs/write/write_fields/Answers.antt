use Rattle.dirac_bits.specs.Writing.{gap}
use Rattle.dirac_bits.proofs.Fronts.{on_err, none_stand, both_written, first_stand, others_stand}
use Rattle.dirac_header.proofs.write.write_fields.Goals as goal

pub returns-in_err-align-clause-front : goal.returns-in_err-align-clause-front
returns-in_err-align-clause-front c =
    on_err _ (first_stand _ _ (first_stand _ _ (first_stand _ _ (first_stand _ _ (none_stand (gap c.args.w.now) c.in_err-align.ensures.err)))))

pub returns-in_err-literal-clause-front : goal.returns-in_err-literal-clause-front
returns-in_err-literal-clause-front c =
    on_err _ (first_stand _ _ (first_stand _ _ (first_stand _ _ (others_stand _ _ c.in_ok-align.ensures.ok (none_stand _ c.in_err-literal.ensures.err)))))

pub returns-in_err-write_reference-clause-front : goal.returns-in_err-write_reference-clause-front
returns-in_err-write_reference-clause-front c =
    let number = both_written _ _ _ c.in_ok-align.ensures.ok c.in_ok-literal.ensures.ok in
    on_err _ (first_stand _ _ (first_stand _ _ (others_stand _ _ number c.in_err-write_reference.ensures.front)))

pub returns-in_err-write_reference-2-clause-front :
    goal.returns-in_err-write_reference-2-clause-front
returns-in_err-write_reference-2-clause-front c =
    let number = both_written _ _ _ c.in_ok-align.ensures.ok c.in_ok-literal.ensures.ok in
    let first = both_written _ _ _ number c.in_ok-write_reference.ensures.exact in
    on_err _ (first_stand _ _ (others_stand _ _ first c.in_err-write_reference-2.ensures.front))
