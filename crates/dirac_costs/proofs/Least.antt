-- The first of least cost.
use Rattle.std.proofs.Common.{◌≡◌, ℕ, zero, suc, ◌+◌, ◌<◌, ◌≤◌, List, [], ◌∷◌, ◌++◌, if◌then◌else◌, nat_lt, add-one, arith, refl, inl, inr, ap, sym, ◌∙◌, subst}
use Rattle.std.specs.List.{All, range_with_len}
use Rattle.std.proofs.lemmas.Bool.{cases_lt, cases_eq, lt-ltb, le-ltb}
use Rattle.std.proofs.lemmas.List.{map-id}
use Rattle.std.proofs.lemmas.List.FromFn.{map-range_with_len_more}
use Rattle.dirac_costs.specs.Least.{first_least, first_least_to}

-- of some, and of more behind them
pub first_least_more : {A : Type 0} (cost : A → ℕ) (v : A) (ws xs : List A) → first_least cost v (ws ++ xs) ≡ first_least cost (first_least cost v ws) xs
first_least_more cost v [] xs = refl
first_least_more cost v (w ∷ ws) xs = first_least_more cost (if nat_lt (cost w) (cost v) then w else v) ws xs

-- it costs no more than any of them
pub first_least_min : {A : Type 0} (cost : A → ℕ) (v : A) (ws : List A) → (cost (first_least cost v ws) ≤ cost v) × All (λ w. cost (first_least cost v ws) ≤ cost w) ws
first_least_min cost v [] = (omega arith, λ k d l. absurd (omega arith))
first_least_min {A} cost v (w ∷ ws) = elim (cases_lt (cost w) (cost v)) [
  | inl less ↦ rw (lt-ltb (cost w) (cost v) less)
      (let rest = first_least_min cost w ws in (omega (arith, rest.0), front (first_least cost w ws) rest.0 rest.1))
  | inr more ↦ rw (le-ltb (cost w) (cost v) more)
      (let rest = first_least_min cost v ws in (rest.0, front (first_least cost v ws) (omega (arith, rest.0)) rest.1))
] where
  front : (r : A) → cost r ≤ cost w → All (λ u. cost r ≤ cost u) ws → All (λ u. cost r ≤ cost u) (w ∷ ws)
  front r first rest zero d l = first
  front r first rest (suc k) d l = rest k d (omega arith)

-- numbers from 1 on, and one more
numbers_more : (n : ℕ) → range_with_len 1 (n + 1) ≡ range_with_len 1 n ++ (n + 1) ∷ []
numbers_more n =
    sym (map-id (range_with_len 1 (n + 1))) ∙ map-range_with_len_more (λ x. x) 1 n (n + 1) (omega arith)
    ∙ ap (λ xs. xs ++ (n + 1) ∷ []) (map-id (range_with_len 1 n))

-- one number more
least_next : (cost : ℕ → ℕ) (n : ℕ)
    → first_least_to cost (n + 1) ≡ (if nat_lt (cost (n + 1)) (cost (first_least_to cost n)) then n + 1 else first_least_to cost n)
least_next cost n =
    ap (first_least cost 0) (numbers_more n) ∙ first_least_more cost 0 (range_with_len 1 n) ((n + 1) ∷ [])

-- a number that costs less is taken
pub least_taken : (cost : ℕ → ℕ) (n : ℕ) → cost (n + 1) < cost (first_least_to cost n) → first_least_to cost (n + 1) ≡ n + 1
least_taken cost n less = least_next cost n ∙ rw (lt-ltb (cost (n + 1)) (cost (first_least_to cost n)) less) refl

-- one that doesn't isn't
pub least_kept : (cost : ℕ → ℕ) (n : ℕ) → cost (first_least_to cost n) ≤ cost (n + 1) → first_least_to cost (n + 1) ≡ first_least_to cost n
least_kept cost n more = least_next cost n ∙ rw (le-ltb (cost (n + 1)) (cost (first_least_to cost n)) more) refl

-- the first is one of them, costs no more than any, and less than all before it
pub record IsFirstLeast (cost : ℕ → ℕ) (n v : ℕ) : Type 0 where
  pub among : v ≤ n
  pub least : (k : ℕ) → k ≤ n → cost v ≤ cost k
  pub first : (k : ℕ) → k < v → cost v < cost k

start : (cost : ℕ → ℕ) (v : ℕ) → v ≡ 0 → IsFirstLeast cost 0 v
start cost v e = record {
  among = omega arith;
  least = λ k l. let same : v ≡ k = omega arith in omega (arith, ap cost same);
  first = λ k l. absurd (omega arith);
}

step_taken : (cost : ℕ → ℕ) (n v w : ℕ) → IsFirstLeast cost n v → cost (n + 1) < cost v → w ≡ n + 1 → IsFirstLeast cost (n + 1) w
step_taken cost n v w is less e = record {
  among = omega arith;
  least = λ k l. elim (cases_eq k (n + 1)) [
    | inl last ↦ let same : w ≡ k = omega arith in omega (arith, ap cost same)
    | inr before ↦ let k_more = is.least k (omega arith) in omega (arith, ap cost e)
  ];
  first = λ k l. let k_more = is.least k (omega arith) in omega (arith, ap cost e);
}

step_kept : (cost : ℕ → ℕ) (n v w : ℕ) → IsFirstLeast cost n v → cost v ≤ cost (n + 1) → w ≡ v → IsFirstLeast cost (n + 1) w
step_kept cost n v w is more e = record {
  among = omega (arith, is.among);
  least = λ k l. elim (cases_eq k (n + 1)) [
    | inl last ↦ omega (arith, ap cost last, ap cost e)
    | inr before ↦ let k_more = is.least k (omega arith) in omega (arith, ap cost e)
  ];
  first = λ k l. let k_more = is.first k (omega arith) in omega (arith, ap cost e);
}

next_least : (cost : ℕ → ℕ) (m : ℕ) → IsFirstLeast cost m (first_least_to cost m) → IsFirstLeast cost (m + 1) (first_least_to cost (m + 1))
next_least cost m is = elim (cases_lt (cost (m + 1)) (cost (first_least_to cost m))) [
  | inl less ↦ step_taken cost m (first_least_to cost m) (first_least_to cost (m + 1)) is less (least_taken cost m less)
  | inr more ↦ step_kept cost m (first_least_to cost m) (first_least_to cost (m + 1)) is more (least_kept cost m more)
]

pub is_first_least : (cost : ℕ → ℕ) (n : ℕ) → IsFirstLeast cost n (first_least_to cost n)
is_first_least cost zero = start cost 0 refl
is_first_least cost (suc n) =
    subst (λ (m : ℕ). IsFirstLeast cost m (first_least_to cost m)) (add-one n) (next_least cost n (is_first_least cost n))

-- one that costs what an earlier one does isn't taken
pub least_repeated : (cost : ℕ → ℕ) (n k : ℕ) → k ≤ n → cost (n + 1) ≡ cost k → first_least_to cost (n + 1) ≡ first_least_to cost n
least_repeated cost n k l same = let least = (is_first_least cost n).least k l in least_kept cost n (omega arith)
