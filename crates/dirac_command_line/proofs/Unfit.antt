-- The first word that doesn't fit, word by word.
use Rattle.std.proofs.Common.{◌≡◌, ℕ, ◌+◌, ◌<◌, if◌then◌else◌, List, [], ◌∷◌, ◌++◌, length, get_or, take, drop, map}
use Rattle.std.proofs.Common.{sym, ap, ap₂, ◌∙◌, Some, arith}
use Rattle.std.proofs.lemmas.List.{at_drop_more, take_more, map-append, length-map, length-take-le}
use Rattle.dirac_command_line.specs.declared.options.OptionsOf.{OptionsOf}
use Rattle.dirac_command_line.specs.Options.{first_unfit, fits}

-- the words read so far, with one more
pub one_more : {X : Type 0} (text : X → List ℕ) (words : List X) (i : ℕ) (x : X) → i < length words
    → x ≡ get_or words i x
    → map text (take (i + 1) words) ≡ map text (take i words) ++ text x ∷ []
one_more text words i x inside is =
    ap (map text) (take_more words i x inside) ∙ map-append text (take i words) (get_or words i x ∷ [])
    ∙ ap (λ y. map text (take i words) ++ text y ∷ []) (sym is)

-- the next word fits, and the rest decides, or it is the first that doesn't
pub next_word : (of : OptionsOf) {X : Type 0} (text : X → List ℕ) (words : List X) (i : ℕ) (x : X) → i < length words
    → x ≡ get_or words i x
    → first_unfit of (map text (take i words)) (map text (drop i words))
    ≡ (if fits of (map text (take i words)) (text x) then first_unfit of (map text (take (i + 1) words)) (map text (drop (i + 1) words)) else Some (i + 1))
next_word of text words i x inside is =
    let before = map text (take i words) in
    let rest = map text (drop (i + 1) words) in
    let few : length before ≡ i = length-map (take i words) text ∙ length-take-le i words (omega arith) in
    at_drop_more (λ ws. first_unfit of before (map text ws)) words i x inside
    ∙ ap (λ y. if fits of before (text y) then first_unfit of (before ++ text y ∷ []) rest else Some (length before + 1)) (sym is)
    ∙ ap₂ (λ (ws : List (List ℕ)) (n : ℕ). if fits of before (text x) then first_unfit of ws rest else Some (n + 1)) (sym (one_more text words i x inside is)) few
