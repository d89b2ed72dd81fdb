-- How decisions spell a number: its digits each behind a false follow decision, then a true one.
use Rattle.std.specs.Prelude.{ℕ, zero, suc, ℤ, pos, negsuc, ◌+◌, ◌-◌, min, Bool, true, false, List, [], ◌∷◌, ◌++◌}
use Rattle.std.specs.Prelude.{length, slice_index, nat_lt, IsTrue}
use Rattle.std.specs.List.{list_all}
use Rattle.dirac_arith.specs.declared.contexts.TheConstants.{CONTEXTS}
use Rattle.dirac_common.specs.Numbers.{digits_of}
use Rattle.dirac_arith.specs.Interval.{Decision}

-- a list of numbers of contexts
abbrev pub AreContexts : List ℕ → Type 0
AreContexts contexts = IsTrue (list_all (λ c. nat_lt c CONTEXTS) contexts)

-- the context of a follow decision: the last one of the list repeats
abbrev pub follow_at : List ℕ → ℕ → ℕ
follow_at follow i = slice_index follow (min i (length follow - 1))

-- digits from number i on, each behind a false follow decision
abbrev pub opening_digits : List ℕ → ℕ → ℕ → List Bool → List Decision
opening_digits follow bits i [] = []
opening_digits follow bits i (b ∷ bs) = (follow_at follow i, false) ∷ (bits, b) ∷ opening_digits follow bits (i + 1) bs

-- digits and one more follow decision
abbrev pub spelt : List ℕ → ℕ → List Bool → Bool → List Decision
spelt follow bits digits last = opening_digits follow bits 0 digits ++ (follow_at follow (length digits), last) ∷ []

-- the decisions that spell an unsigned number
unfoldable pub spelling : List ℕ → ℕ → ℕ → List Decision
spelling follow bits v = spelt follow bits (digits_of v) true

-- the decisions that spell a signed number: its magnitude, then where it isn't 0 its sign, true for negative
unfoldable pub signed_spelling : List ℕ → ℕ → ℕ → ℤ → List Decision
signed_spelling follow bits sign (pos zero) = spelling follow bits 0
signed_spelling follow bits sign (pos (suc n)) = spelling follow bits (suc n) ++ (sign, false) ∷ []
signed_spelling follow bits sign (negsuc n) = spelling follow bits (suc n) ++ (sign, true) ∷ []
