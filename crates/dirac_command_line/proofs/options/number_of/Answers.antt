use Rattle.std.proofs.Common.{sym, ◌∙◌}
use Rattle.dirac_command_line.proofs.Numbers.{parsed, no_number}
use Rattle.dirac_command_line.proofs.options.number_of.Goals as goal

pub returns-then-is_digits : goal.returns-then-is_digits
returns-then-is_digits c =
    c.ok.ensures.value ∙ parsed c.args.text.now c.parse.result (sym c.is_digits.ensures ∙ c.if-is_digits.true) c.parse.ensures.value.0

pub returns-else-is_digits : goal.returns-else-is_digits
returns-else-is_digits c = sym (no_number c.args.text.now (sym c.is_digits.ensures ∙ c.if-is_digits.false))
