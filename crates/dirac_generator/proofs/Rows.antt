-- Bytes told one by one.
use Rattle.std.proofs.Common.{◌≡◌, ℕ, ◌<◌, ◌≤◌, List, length, map, get_or, sym, ◌∙◌, arith}
use Rattle.std.specs.List.{range_with_len}
use Rattle.std.proofs.lemmas.List.{ext_get_or}
use Rattle.std.proofs.lemmas.List.FromFn.{length-map-range_with_len, get_or-map-range_with_len}

pub told_all : (f : ℕ → ℕ) (ys : List ℕ) (n place : ℕ) → length ys ≡ n → n ≤ place → ((k : ℕ) → k < place → get_or ys k 0 ≡ f k) → ys ≡ map f (range_with_len 0 n)
told_all f ys n place len all each =
    ext_get_or 0 ys (map f (range_with_len 0 n)) (len ∙ sym (length-map-range_with_len f 0 n)) (λ k l.
    each k (omega (arith, l, len, all)) ∙ sym (get_or-map-range_with_len f 0 n k k 0 (omega (arith, l, len)) (omega arith)))
