use Rattle.std.proofs.Common.{◌≡◌, ◌&&◌, Bool, false, List, ℕ, sym, ap, ap₂, ◌∙◌, Option, Bor, option_copied}
use Rattle.std.specs.Prelude.{is_some, is_none, not}
use Rattle.dirac_command_line.specs.Options.{path_in, path_given, is_new_path}
use Rattle.dirac_command_line.proofs.Loans.{is_some_copied, none_by}
use Rattle.dirac_command_line.proofs.options.is_new_path.Goals as goal

-- in the words of the code
by_loans : (before : List (List ℕ)) (word : List ℕ) (here there : Option (Bor (List ℕ)))
    → option_copied here ≡ path_in word → option_copied there ≡ path_given before
    → is_new_path before word ≡ (is_some here && is_none there)
unfolding is_new_path
by_loans before word here there gives given =
    ap₂ (λ (a b : Bool). a && not b) (ap is_some (sym gives) ∙ is_some_copied here) (ap is_some (sym given) ∙ is_some_copied there)

not_new : (before : List (List ℕ)) (word : List ℕ) (here : Option (Bor (List ℕ))) → option_copied here ≡ path_in word
    → false ≡ is_some here → false ≡ is_new_path before word
unfolding is_new_path
not_new before word here gives none =
    ap (λ (b : Bool). b && is_none (path_given before)) (none ∙ sym (is_some_copied here) ∙ ap is_some gives)

pub returns-then-is_some : goal.returns-then-is_some
returns-then-is_some c =
    let some = sym c.is_some.ensures ∙ c.if-is_some.true in
    let absent = none_by c.path_given.result c.is_none.result c.is_none.ensures in
    absent ∙ ap (λ (b : Bool). b && is_none c.path_given.result) (sym some)
    ∙ sym (by_loans _ c.args.word.now c.path_in.result c.path_given.result c.path_in.ensures c.path_given.ensures)

pub returns-else-is_some : goal.returns-else-is_some
returns-else-is_some c =
    c.if-is_some.false ∙ not_new _ c.args.word.now c.path_in.result c.path_in.ensures (sym c.if-is_some.false ∙ c.is_some.ensures)
