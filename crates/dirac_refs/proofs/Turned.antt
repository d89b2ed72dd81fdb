-- A list that is turned: its first items have left and joined at its end.
use Rattle.std.proofs.Common.{◌≡◌, ◌<◌, ◌≤◌, ◌+◌, ℕ, List, [], ◌∷◌, ◌++◌, length, take, drop, get_or, subst, ap, sym, ◌∙◌, arith, length-append, length-drop}
use Rattle.std.specs.List.{All, remove}
use Rattle.std.proofs.lemmas.List.{append_assoc, drop_more, length-take, take_all, drop_all}
use Rattle.std.proofs.lemmas.Grind.{take_at_read}
use Rattle.std.proofs.lemmas.List.Elements.{All-append, All-drop, All-take}

-- the list behind its first k items, and then those
abbrev pub turned : {X : Type 0} → List X → ℕ → List X
turned xs k = drop k xs ++ take k xs

turn_one : {X : Type 0} (y x : X) (rest done : List X) → x ≡ y → remove ((y ∷ rest) ++ done) 0 ++ x ∷ [] ≡ rest ++ (done ++ y ∷ [])
turn_one y x rest done is = ap (λ t. (rest ++ done) ++ t ∷ []) is ∙ append_assoc rest done (y ∷ [])

-- one item more
pub turned_more : {X : Type 0} (xs : List X) (k : ℕ) (x : X) → k < length xs → x ≡ get_or (turned xs k) 0 x
    → remove (turned xs k) 0 ++ x ∷ [] ≡ turned xs (k + 1)
turned_more {X} xs k x inside is =
    let y : X = get_or xs k x in
    let last : take (k + 1) xs ≡ take k xs ++ y ∷ [] = (take_at_read xs k x inside).1 in
    rw last (subst (λ d. x ≡ get_or (d ++ take k xs) 0 x → remove (d ++ take k xs) 0 ++ x ∷ [] ≡ drop (k + 1) xs ++ (take k xs ++ y ∷ []))
    (sym (drop_more xs k x inside)) (turn_one y x (drop (k + 1) xs) (take k xs)) is)

-- it has as many items
pub turned_length : {X : Type 0} (xs : List X) (k : ℕ) → k ≤ length xs → length (turned xs k) ≡ length xs
turned_length xs k inside = omega (arith, length-append (drop k xs) (take k xs), length-drop k xs, length-take k xs)

-- each of them one of the list
pub turned_all : {X : Type 0} (P : X → Type 0) (xs : List X) (k : ℕ) → All P xs → All P (turned xs k)
turned_all P xs k all = All-append P (drop k xs) (take k xs) (All-drop P k xs all) (All-take P k xs all)

-- once round it is the list
pub turned_round : {X : Type 0} (xs : List X) → turned xs (length xs) ≡ xs
turned_round xs = ap (λ t. t ++ take (length xs) xs) (drop_all (length xs) xs (omega arith)) ∙ take_all (length xs) xs (omega arith)
