use Rattle.std.proofs.Common.{ℕ, List, refl, sym, ap, ◌∙◌, Some, None}
use Rattle.dirac_command_line.specs.Options.{behind}
use Rattle.dirac_command_line.proofs.Behind.{value_by_parts}
use Rattle.dirac_command_line.proofs.options.value_in.Goals as goal

pub returns-in_err-text : goal.returns-in_err-text
returns-in_err-text c =
    c.from_residual.ensures ∙ sym (value_by_parts c.args.name c.args.word.now None None None c.in_err-text.ensures refl refl)

pub returns-in_err-text-2 : goal.returns-in_err-text-2
returns-in_err-text-2 c =
    let dashed = c.in_ok-text.text.now in
    let named = c.in_err-text-2.ensures ∙ ap (λ (n : List ℕ). behind n dashed) c.text.ensures in
    c.from_residual-in_err-text-2.ensures
    ∙ sym (value_by_parts c.args.name c.args.word.now (Some dashed) None None c.in_ok-text.ensures named refl)

pub returns-in_err-text-3 : goal.returns-in_err-text-3
returns-in_err-text-3 c =
    let dashed = c.in_ok-text.text.now in
    let named = c.in_ok-text-2.ensures ∙ ap (λ (n : List ℕ). behind n dashed) c.text.ensures in
    c.from_residual-in_err-text-3.ensures
    ∙ sym (value_by_parts c.args.name c.args.word.now (Some dashed) (Some c.in_ok-text-2.text.now) None c.in_ok-text.ensures named c.in_err-text-3.ensures)

pub returns : goal.returns
returns c =
    let dashed = c.in_ok-text.text.now in
    let named = c.in_ok-text-2.ensures ∙ ap (λ (n : List ℕ). behind n dashed) c.text.ensures in
    c.number_of.ensures
    ∙ sym (value_by_parts c.args.name c.args.word.now (Some dashed) (Some c.in_ok-text-2.text.now) (Some c.in_ok-text-3.text.now) c.in_ok-text.ensures named c.in_ok-text-3.ensures)
