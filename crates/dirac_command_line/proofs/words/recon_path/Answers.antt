use Rattle.std.proofs.Common.{◌≡◌, ℕ, List, [], ◌∷◌, length, drop, map, string_bytes, refl, sym, ap, ap₂, ◌∙◌, None, Ok}
use Rattle.std.proofs.Common.{option_copied}
use Rattle.dirac_types.specs.declared.settings.Settings.{Settings}
use Rattle.dirac_types.specs.Settings.{first_bad, table}
use Rattle.dirac_command_line.specs.declared.words.Command.TheVariants.{Encode, Rate}
use Rattle.dirac_command_line.specs.Checks.{first_bad_for_rate}
use Rattle.dirac_command_line.specs.Words.{command_read, path_accepted, path_behind, path_read}
use Rattle.dirac_command_line.proofs.words.recon_path.Goals as goal

none_there : {X : Type 0} (text : X → List ℕ) (words : List X) → length words ≡ 0 → path_read (map text words) ≡ None
unfolding path_read
none_there text [] none = refl
none_there text (word ∷ words) some = cc

-- behind `encode` with these settings
of_encode : (words others : List (List ℕ)) (s : Settings) → command_read words ≡ Ok (Encode s) → drop 1 words ≡ others
    → path_read words ≡ path_accepted (first_bad (table s)) others
unfolding path_read
of_encode words others s reads rest = ap₂ path_behind reads rest

-- behind `rate` with these settings and this budget
of_rate : (words others : List (List ℕ)) (s : Settings) (budget : ℕ) → command_read words ≡ Ok (Rate s budget)
    → drop 1 words ≡ others
    → path_read words ≡ path_accepted (first_bad_for_rate s budget) others
unfolding path_read
of_rate words others s budget reads rest = ap₂ path_behind reads rest

pub returns-in_err-others : goal.returns-in_err-others
returns-in_err-others c =
    ap option_copied c.from_residual.ensures ∙ sym (none_there string_bytes c.deref.result.now c.in_err-others.ensures.cases)
    ∙ ap (λ ws. path_read (map string_bytes ws)) c.deref.ensures.value ∙ ap path_read c.words.view_is

pub returns-in-Ok-Encode : goal.returns-in-Ok-Encode
returns-in-Ok-Encode c =
    let whole = sym c.words.view_is ∙ ap (map string_bytes) (sym c.deref.ensures.value ∙ c.in_ok-others.ensures.cases.0) in
    c.accepted_path.ensures (first_bad (table c.in-Ok-Encode.settings)) c.check.ensures.exact
    ∙ sym (of_encode c.args.words.now (map string_bytes c.in_ok-others.others.now) c.in-Ok-Encode.settings (sym c.in-Ok-Encode.ensures ∙ ap Ok c.in-Ok-Encode.field-0-is) (ap (drop 1) whole))

pub returns-in-Ok-Rate : goal.returns-in-Ok-Rate
returns-in-Ok-Rate c =
    let whole = sym c.words.view_is ∙ ap (map string_bytes) (sym c.deref.ensures.value ∙ c.in_ok-others.ensures.cases.0) in
    c.accepted_path-in-Ok-Rate.ensures (first_bad_for_rate c.in-Ok-Rate.settings c.in-Ok-Rate.budget) c.check_rate.ensures.exact
    ∙ sym (of_rate c.args.words.now (map string_bytes c.in_ok-others.others.now) c.in-Ok-Rate.settings c.in-Ok-Rate.budget (sym c.in-Ok-Rate.ensures ∙ ap Ok c.in-Ok-Rate.field-0-is) (ap (drop 1) whole))
