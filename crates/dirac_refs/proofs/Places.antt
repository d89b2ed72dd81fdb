-- Filled places and what stands in them.
use Rattle.std.proofs.Common.{◌≡◌, ◌<◌, List, [], ◌∷◌, ◌++◌, Option, None, Some, map, length, get_or, take, drop, refl, sym, ◌∙◌, ap, ℕ, zero, suc, arith}
use Rattle.std.specs.List.{remove}
use Rattle.std.proofs.lemmas.List.{take-map, drop-map, map-append}
use Rattle.dirac_refs.specs.Bounded.{AllFilled, contents}

pub contents-map : {X : Type 0} (ys : List X) → contents (map Some ys) ≡ ys
contents-map [] = refl
contents-map (y ∷ ys) = ap (λ t. y ∷ t) (contents-map ys)

pub contents-append : {X : Type 0} (ps qs : List (Option X)) → contents (ps ++ qs) ≡ contents ps ++ contents qs
contents-append [] qs = refl
contents-append (None ∷ ps) qs = contents-append ps qs
contents-append (Some x ∷ ps) qs = ap (λ t. x ∷ t) (contents-append ps qs)

no_gap : {X : Type 0} (ys : List X) (i : ℕ) (o : Option X) → i < length ys → o ≡ get_or (map Some ys) i o → o ≡ None → ⊥
no_gap [] i o h e n = absurd (omega arith)
no_gap (y ∷ ys) zero o h e n = let s : o ≡ Some y = e in cc
no_gap (y ∷ ys) (suc i) o h e n = no_gap ys i o (omega arith) e n

-- no filled place is empty
pub gap : {X : Type 0} (ps : List (Option X)) (i : ℕ) (o : Option X) → AllFilled ps → i < length (contents ps) → o ≡ get_or ps i o → o ≡ None → ⊥
gap ps i o f h e n = no_gap (contents ps) i o h (e ∙ ap (λ t. get_or t i o) f) n

-- one more item
pub pushed : {X : Type 0} (ps : List (Option X)) (x : X) → contents (ps ++ Some x ∷ []) ≡ contents ps ++ x ∷ []
pushed ps x = contents-append ps (Some x ∷ [])

pub filled_push : {X : Type 0} (ps : List (Option X)) (x : X) → AllFilled ps → AllFilled (ps ++ Some x ∷ [])
filled_push ps x f = ap (λ t. t ++ Some x ∷ []) f ∙ sym (ap (map Some) (pushed ps x) ∙ map-append Some (contents ps) (x ∷ []))

remove-map : {X : Type 0} (ys : List X) (i : ℕ) → remove (map Some ys) i ≡ map Some (remove ys i)
remove-map ys i =
    ap (λ t. t ++ drop (suc i) (map Some ys)) (take-map Some i ys)
    ∙ ap (λ t. map Some (take i ys) ++ t) (drop-map Some (suc i) ys)
    ∙ sym (map-append Some (take i ys) (drop (suc i) ys))

-- one item less
pub removed : {X : Type 0} (ps : List (Option X)) (i : ℕ) → AllFilled ps → contents (remove ps i) ≡ remove (contents ps) i
removed ps i f =
    ap (λ t. contents (remove t i)) f ∙ ap contents (remove-map (contents ps) i) ∙ contents-map (remove (contents ps) i)

pub filled_remove : {X : Type 0} (ps : List (Option X)) (i : ℕ) → AllFilled ps → AllFilled (remove ps i)
filled_remove ps i f =
    ap (λ t. remove t i) f ∙ remove-map (contents ps) i ∙ sym (ap (map Some) (removed ps i f))
