-- Sums over lists that change at one place, and over the numbers below n.
use Rattle.std.proofs.Common.{if◌then◌else◌, ◌≡◌, ℕ, Bool, true, false, zero, suc, ◌+◌, ◌<◌, ◌≤◌, ◌≢◌, List, [], ◌∷◌, ◌++◌, set, sym, refl, ap, ◌==◌, nat_lt, eq-eqb, ne_eqb, lt-ltb, le-ltb, All, arith}
use Rattle.std.proofs.lemmas.List.Elements.{All-nil, All-cons}
use mathlib.Core.Logic.{dite}
use native.Mathlib.Decide.{ℕ_discrete, dec_le}
use mathlib.Core.Option.{some, some-injective, some-ne-none}
use lib.ListN.{get_elem?}
use Rattle.dirac_rows.specs.Weights.{total, added_below, times}

abbrev pub one_if : Bool → ℕ
one_if b = if b then 1 else 0

abbrev pub zero_if : Bool → ℕ
zero_if b = if b then 0 else 1

pub one_if_le : (b : Bool) → one_if b ≤ 1
one_if_le true = omega arith
one_if_le false = omega arith

-- the weight of one number, and that of the numbers that are no rows
abbrev pub weight_at : ℕ → ℕ → ℕ
weight_at x y = if y == x then 1 else 0

abbrev pub weight_past : ℕ → ℕ → ℕ
weight_past rows y = if nat_lt y rows then 0 else 1

module _ {A : Type 0} where
  module _ (g : A → ℕ) where
    pub total-append : (l m : List A) → total g (l ++ m) ≡ total g l + total g m
    total-append [] m = omega arith
    total-append (x ∷ xs) m = omega (arith, total-append xs m)

    pub total-set : (l : List A) (j : ℕ) (v w : A) → get_elem? l j ≡ some v → total g (set l j w) + g v ≡ total g l + g w
    total-set [] j v w e = absurd (some-ne-none v (sym e))
    total-set (x ∷ xs) zero v w e = omega (arith, ap g (some-injective x v e))
    total-set (x ∷ xs) (suc j) v w e = omega (arith, total-set xs j v w e)

    pub term_le : (l : List A) (j : ℕ) (v : A) → get_elem? l j ≡ some v → g v ≤ total g l
    term_le [] j v e = absurd (some-ne-none v (sym e))
    term_le (x ∷ xs) zero v e = omega (arith, ap g (some-injective x v e))
    term_le (x ∷ xs) (suc j) v e = omega (arith, term_le xs j v e)

    pub terms_le : (l : List A) (j k : ℕ) (v u : A) → k ≢ j → get_elem? l j ≡ some v → get_elem? l k ≡ some u → g v + g u ≤ total g l
    terms_le [] j k v u n e d = absurd (some-ne-none v (sym e))
    terms_le (x ∷ xs) zero zero v u n e d = absurd (n refl)
    terms_le (x ∷ xs) zero (suc k) v u n e d = omega (arith, ap g (some-injective x v e), term_le xs k u d)
    terms_le (x ∷ xs) (suc j) zero v u n e d = omega (arith, ap g (some-injective x u d), term_le xs j v e)
    terms_le (x ∷ xs) (suc j) (suc k) v u n e d = omega (arith, terms_le xs j k v u (λ h. n (ap suc h)) e d)

    pub total_zero : (l : List A) → ((j : ℕ) (u : A) → get_elem? l j ≡ some u → g u ≡ 0) → total g l ≡ 0
    total_zero [] h = refl
    total_zero (x ∷ xs) h = omega (arith, h 0 x refl, total_zero xs (λ j u d. h (suc j) u d))

    pub total_only : (l : List A) (id : ℕ) (v : A) → get_elem? l id ≡ some v → ((j : ℕ) (u : A) → get_elem? l j ≡ some u → j ≢ id → g u ≡ 0) → total g l ≡ g v
    total_only [] id v e h = absurd (some-ne-none v (sym e))
    total_only (x ∷ xs) zero v e h = omega (arith, ap g (some-injective x v e), total_zero xs (λ j u d. h (suc j) u d (λ p. omega arith)))
    total_only (x ∷ xs) (suc id) v e h = omega (arith, h 0 x refl (λ p. omega arith), total_only xs id v e (λ j u d n. h (suc j) u d (λ p. n (omega arith))))

  pub total_le : (f g : A → ℕ) (l : List A) → ((j : ℕ) (v : A) → get_elem? l j ≡ some v → f v ≤ g v) → total f l ≤ total g l
  total_le f g [] h = omega arith
  total_le f g (x ∷ xs) h = omega (arith, h 0 x refl, total_le f g xs (λ j v e. h (suc j) v e))

pub below_only : (x n : ℕ) → (x < n → added_below (weight_at x) n ≡ 1) × (n ≤ x → added_below (weight_at x) n ≡ 0)
below_only x zero = (λ h. absurd (omega arith), λ _. refl)
below_only x (suc n) = let before = below_only x n in dite (ℕ_discrete n x)
    (λ e. let here : weight_at x n ≡ 1 = ap one_if (eq-eqb n x e) in let b = before.1 (omega arith) in (λ h. omega arith, λ h. absurd (omega arith)))
    (λ ne. let not_here : weight_at x n ≡ 0 = ap one_if (ne_eqb n x ne) in (λ h. let b = before.0 (omega arith) in omega arith, λ h. let b = before.1 (omega arith) in omega arith))

pub below_past : (rows n : ℕ) → (n ≤ rows → added_below (weight_past rows) n ≡ 0) × (rows ≤ n → added_below (weight_past rows) n + rows ≡ n)
below_past rows zero = (λ _. refl, λ h. omega arith)
below_past rows (suc n) = let before = below_past rows n in dite (dec_le rows n)
    (λ le. let here : weight_past rows n ≡ 1 = ap zero_if (le-ltb n rows le) in let b = before.1 le in (λ h. absurd (omega arith), λ h. omega arith))
    (λ gt. let not_here : weight_past rows n ≡ 0 = ap zero_if (lt-ltb n rows (omega arith)) in let b = before.0 (omega arith) in (λ h. omega arith, λ h. omega arith))

-- a list with no number weight_past n on
pub all_below : (xs : List ℕ) (n : ℕ) → ((x : ℕ) → n ≤ x → times x xs ≡ 0) → All (λ k. k < n) xs
all_below [] n h = All-nil (λ k. k < n)
all_below (x ∷ xs) n h = All-cons (λ k. k < n) x xs
    (dite (dec_le n x) (λ le. let z = h x le in let here : weight_at x x ≡ 1 = ap one_if (eq-eqb x x refl) in absurd (omega arith)) (λ gt. omega arith))
    (all_below xs n (λ y le. let z = h y le in omega arith))

-- a number that is no row changes how often no row stands there
pub not_a_row : (rows n : ℕ) (xs : List ℕ) → rows ≤ n → (r : ℕ) → r < rows → times r (xs ++ n ∷ []) ≡ times r xs
not_a_row rows n xs past_all r row = let not_here : weight_at r n ≡ 0 = ap one_if (ne_eqb n r (λ e. omega arith)) in let a = total-append (weight_at r) xs (n ∷ []) in omega arith
