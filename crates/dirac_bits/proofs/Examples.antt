-- Worked values of the definitions.
use Rattle.std.proofs.Common.{◌≡◌, true, false, [], ◌∷◌, ◌++◌, refl, ap, ◌∙◌}
use Rattle.dirac_bits.specs.Fronts.{HoldsFront}

-- behind 1 the bits 0 1 were to stand; memory ran out behind the first of them
one_of_two : HoldsFront (true ∷ []) (true ∷ false ∷ []) (true ∷ false ∷ true ∷ [])
one_of_two = record { front = false ∷ []; rest = true ∷ []; grown = refl; parts = refl }

-- what stood before may not be gone
gone : HoldsFront (true ∷ []) [] (true ∷ false ∷ []) → ⊥
gone holds =
    let e : [] ≡ true ∷ holds.front = holds.grown in
    absurd cc

-- nor may another bit stand behind it
other : HoldsFront (true ∷ []) (true ∷ true ∷ []) (true ∷ false ∷ []) → ⊥
other holds =
    let e : true ∷ true ∷ [] ≡ true ∷ holds.front = holds.grown in
    let is : holds.front ≡ true ∷ [] = cc in
    let all : true ∷ false ∷ [] ≡ true ∷ true ∷ holds.rest = holds.parts ∙ ap (λ l. (true ∷ []) ++ l ++ holds.rest) is in
    absurd cc
