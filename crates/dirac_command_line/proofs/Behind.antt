-- What stands behind a front.
use Rattle.std.proofs.Common.{◌≡◌, ℕ, ◌==◌, List, [], ◌∷◌, ◌++◌, drop, refl, sym, ap, ◌∙◌, inl, inr, Option, Some, None}
use Rattle.std.proofs.Common.{MatchOption, option_copied, Bor, eq-eqb}
use Rattle.std.specs.Prelude.{option_and_then, codes}
use Rattle.std.specs.Str.Pattern.{LacksTextAt, FindsTextPrefix, StripsPrefix}
use Rattle.std.proofs.lemmas.Bool.{cases_Bool, cond-true, cond-false, eqb-true}
use Rattle.dirac_types.specs.declared.settings.Name.{Name}
use Rattle.dirac_types.specs.Names.{setting_text}
use Rattle.dirac_command_line.specs.Options.{behind, number_in_digits, path_in, some_path, value_in}

-- behind a front stands what follows it
pub behind_whole : (front rest : List ℕ) → behind front (front ++ rest) ≡ Some rest
behind_whole [] rest = refl
behind_whole (b ∷ front) rest = cond-true (b == b) _ _ (eq-eqb b b refl) ∙ behind_whole front rest

-- nothing, where the word doesn't begin with it
pub behind_lacks : (front word : List ℕ) → ((rest : List ℕ) → word ≡ front ++ rest → ⊥) → behind front word ≡ None
behind_lacks [] word lacks = absurd (lacks word refl)
behind_lacks (b ∷ front) [] lacks = refl
behind_lacks (b ∷ front) (c ∷ word) lacks =
    elim (cases_Bool (b == c)) [
      | inl same ↦
          let e : b ≡ c = eqb-true b c same in
          cond-true (b == c) _ _ same ∙ behind_lacks front word (λ rest begins. lacks rest cc)
      | inr other ↦ cond-false (b == c) _ _ other
    ]

-- a front in two parts
pub behind_append : (front more word : List ℕ)
    → behind (front ++ more) word ≡ option_and_then (behind more) (behind front word)
behind_append [] more word = refl
behind_append (b ∷ front) more [] = refl
behind_append (b ∷ front) more (c ∷ word) =
    elim (cases_Bool (b == c)) [
      | inl same ↦
          cond-true (b == c) _ _ same ∙ behind_append front more word
          ∙ sym (ap (option_and_then (behind more)) (cond-true (b == c) (behind front word) None same))
      | inr other ↦
          cond-false (b == c) _ _ other ∙ sym (ap (option_and_then (behind more)) (cond-false (b == c) (behind front word) None other))
    ]

-- what a strip of the front gives
pub stripped : (front word : List ℕ) (r : Option (Bor (List ℕ)))
    → MatchOption r (LacksTextAt front word 0) (λ x. StripsPrefix (FindsTextPrefix front) word x.now)
    → option_copied r ≡ behind front word
stripped front word None lacks = sym (behind_lacks front word lacks)
stripped front word (Some x) strips =
    ap Some strips.2 ∙ sym (behind_whole front (drop strips.0 word)) ∙ sym (ap (behind front) strips.1.1)

-- a setting's value, by the three parts of its front
pub value_by_parts : (name : Name) (word : List ℕ) (dashed named valued : Option (List ℕ))
    → dashed ≡ behind (codes "--") word → named ≡ option_and_then (behind (setting_text name)) dashed
    → valued ≡ option_and_then (behind (codes "=")) named
    → value_in name word ≡ option_and_then number_in_digits valued
unfolding value_in
value_by_parts name word dashed named valued first second third =
    ap (option_and_then number_in_digits)
    (behind_append (codes "--") (setting_text name ++ codes "=") word
    ∙ ap (option_and_then (behind (setting_text name ++ codes "="))) (sym first)
    ∙ later dashed
    ∙ ap (option_and_then (behind (codes "="))) (sym second)
    ∙ sym third) where
      later : (dashed : Option (List ℕ)) → option_and_then (behind (setting_text name ++ codes "=")) dashed
          ≡ option_and_then (behind (codes "=")) (option_and_then (behind (setting_text name)) dashed)
      later None = refl
      later (Some text) = behind_append (setting_text name) (codes "=") text

-- a path, by what stands behind its front
pub path_by_front : (word : List ℕ) (path : Option (List ℕ)) → path ≡ behind (codes "--recon=") word
    → path_in word ≡ option_and_then some_path path
unfolding path_in
path_by_front word path is = ap (option_and_then some_path) (sym is)
