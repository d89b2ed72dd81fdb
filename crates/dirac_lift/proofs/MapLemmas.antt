-- Values that are changed one by one.
use Rattle.std.proofs.Common.{◌≡◌, ℕ, ℤ, pos, ◌<◌, ◌≤◌, List, length, map, get_or, arith, sym, ◌∙◌}
use Rattle.std.proofs.lemmas.List.{length-map, get_or-map, ext_get_or}

pub record MappedBelow (f : ℤ → ℤ) (xs ys : List ℤ) (n : ℕ) : Type 0 where
  pub len : length ys ≡ length xs
  pub done : (k : ℕ) → k < n → get_or ys k (pos 0) ≡ f (get_or xs k (pos 0))
  pub rest : (k : ℕ) → n ≤ k → get_or ys k (pos 0) ≡ get_or xs k (pos 0)

pub mapped_all : (f : ℤ → ℤ) (xs ys : List ℤ) (n : ℕ) → MappedBelow f xs ys n → length xs ≤ n → ys ≡ map f xs
mapped_all f xs ys n m all =
    ext_get_or (pos 0) ys (map f xs) (m.len ∙ sym (length-map xs f)) (λ k l.
    m.done k (omega (arith, l, m.len, all)) ∙ sym (get_or-map f xs k (pos 0) (pos 0) (omega (arith, l, m.len))))
