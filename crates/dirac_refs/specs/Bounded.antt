-- A list of fixed capacity, kept in places of which the first ones are filled.
use Rattle.std.specs.Prelude.{◌≡◌, List, [], ◌∷◌, Option, None, Some, map}

-- what stands in the filled places of a list of fixed capacity
abbrev pub contents : {X : Type 0} → List (Option X) → List X
contents [] = []
contents (None ∷ places) = contents places
contents (Some x ∷ places) = x ∷ contents places

-- no place of a list of fixed capacity is empty
abbrev pub AllFilled : {X : Type 0} → List (Option X) → Type 0
AllFilled places = places ≡ map Some (contents places)
