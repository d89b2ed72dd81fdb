-- Sums over lists of numbers. Two lists with the same total under every f have the same numbers, as many times each.
use Rattle.std.specs.Prelude.{if◌then◌else◌, ℕ, zero, suc, ◌+◌, ◌==◌, nat_lt, List, [], ◌∷◌}

-- f of each entry, added up
abbrev pub total : {A : Type 0} → (A → ℕ) → List A → ℕ
total f [] = 0
total f (x ∷ xs) = f x + total f xs

-- f of each number below n, added up
abbrev pub added_below : (ℕ → ℕ) → ℕ → ℕ
added_below f zero = 0
added_below f (suc n) = added_below f n + f n

-- how many times x stands in the list
abbrev pub times : ℕ → List ℕ → ℕ
times x xs = total (λ y. if y == x then 1 else 0) xs

-- how many of the numbers are at least `rows`, and so no rows
abbrev pub past_rows : ℕ → List ℕ → ℕ
past_rows rows xs = total (λ y. if nat_lt y rows then 0 else 1) xs
