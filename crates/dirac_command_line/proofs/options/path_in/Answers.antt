use Rattle.std.proofs.Common.{sym, ap, ◌∙◌, Some, None, option_copied}
use Rattle.std.proofs.lemmas.Bool.{cond-true, cond-false}
use Rattle.dirac_command_line.proofs.Behind.{path_by_front}
use Rattle.dirac_command_line.proofs.options.path_in.Goals as goal

pub returns-in_err-path : goal.returns-in_err-path
returns-in_err-path c =
    ap option_copied c.from_residual.ensures ∙ sym (path_by_front c.args.word.now None c.in_err-path.ensures)

pub returns-then-is_empty : goal.returns-then-is_empty
returns-then-is_empty c =
    let path = c.in_ok-path.path.now in
    sym (path_by_front c.args.word.now (Some path) c.in_ok-path.ensures ∙ cond-true _ None (Some path) (sym c.is_empty.ensures ∙ c.if-is_empty.true))

pub returns-else-is_empty : goal.returns-else-is_empty
returns-else-is_empty c =
    let path = c.in_ok-path.path.now in
    sym (path_by_front c.args.word.now (Some path) c.in_ok-path.ensures ∙ cond-false _ None (Some path) (sym c.is_empty.ensures ∙ c.if-is_empty.false))
