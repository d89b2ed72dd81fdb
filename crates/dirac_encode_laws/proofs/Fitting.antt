-- The least index by which a unit fits a budget.
use Rattle.std.proofs.Common.{◌≡◌, ℕ, zero, suc, ◌+◌, ◌-◌, ◌*◌, ◌<◌, ◌≤◌, Bool, true, false, List, [], ◌∷◌, refl, subst, arith, Option, None, Some, inl, inr}
use Rattle.std.specs.Prelude.{nat_le, cond, ◌⊎◌}
use Rattle.std.specs.List.{find, range_with_len}
use Rattle.std.proofs.lemmas.Bool.{leb-true}
use Rattle.dirac_common.specs.declared.picture.Picture.{Picture}
use Rattle.dirac_types.specs.declared.settings.Settings.{Settings}
use Rattle.dirac_types.specs.Settings.{IsAccepted}
use Rattle.dirac_encode_laws.specs.Coding.{Job, made_under, refs_after}
use Rattle.dirac_encode_laws.specs.Fit.{BudgetsAreKept, FitsOrNone, IsLeast, fit, least_fitting, length_at, or_last, rule_of}
use Rattle.dirac_encode_laws.specs.Laws.{GivesIndices}
use Rattle.dirac_encode_laws.proofs.Coding.{codable}
use Rattle.dirac_encode_laws.proofs.Indices.{own_gives}

not_le : (a b : ℕ) → nat_le a b ≡ false → b < a
not_le a b is = grind (arith, is)

-- ---- what is found is the least

-- at the first index the unit fits, or the least is found behind it
one_more : (lengths : ℕ → ℕ) (budget first : ℕ) (o : Option ℕ) → first ≤ 99 → (budget < lengths first → IsLeast lengths budget first (or_last o)) → (b : Bool) → nat_le (lengths first) budget ≡ b
    → IsLeast lengths budget first (or_last (cond b (Some first) o))
one_more lengths budget first o few rest true e = record {
  from = omega arith;
  last = few;
  before = λ i after below. absurd (omega (arith, after, below));
  fits = inl (leb-true (lengths first) budget e);
}
one_more lengths budget first o few rest false e = rest (not_le (lengths first) budget e)

from_next : (lengths : ℕ → ℕ) (budget first next : ℕ) → IsLeast lengths budget (first + 1) next → budget < lengths first → IsLeast lengths budget first next
from_next lengths budget first next is long = record {
  from = omega (arith, is.from);
  last = is.last;
  before = λ i after below. by i below (next_or_same first i after);
  fits = is.fits;
}
  where
    next_or_same : (a b : ℕ) → a ≤ b → (a + 1 ≤ b) ⊎ (a ≡ b)
    next_or_same a b l = grind (arith, l)

    by : (i : ℕ) → i < next → (first + 1 ≤ i) ⊎ (first ≡ i) → budget < lengths i
    by i below (inl after) = is.before i after below
    by i below (inr same) = subst (λ (k : ℕ). budget < lengths k) same long

at_last : (lengths : ℕ → ℕ) (budget first : ℕ) → first ≡ 99 → IsLeast lengths budget first 99
at_last lengths budget first here = record {
  from = omega (arith, here);
  last = omega arith;
  before = λ i after below. absurd (omega (arith, here, after, below));
  fits = inr refl;
}

-- the first of these indices that fits
least_among : (lengths : ℕ → ℕ) (budget first count : ℕ) → first + count ≡ 100 → 1 ≤ count → IsLeast lengths budget first (or_last (find (λ i. nat_le (lengths i) budget) (range_with_len first count)))
least_among lengths budget first zero all some = absurd (omega (arith, some))
least_among lengths budget first (suc zero) all some =
    one_more lengths budget first None (omega (arith, all)) (λ long. at_last lengths budget first (omega (arith, all))) (nat_le (lengths first) budget) refl
least_among lengths budget first (suc (suc count)) all some =
    let rest = find (λ i. nat_le (lengths i) budget) (range_with_len (first + 1) (suc count)) in
    one_more lengths budget first rest (omega (arith, all)) (from_next lengths budget first (or_last rest) (least_among lengths budget (first + 1) (suc count) (omega (arith, all)) (omega arith)))
    (nat_le (lengths first) budget) refl

pub least_is : (lengths : ℕ → ℕ) (budget first : ℕ) → first ≤ 99 → IsLeast lengths budget first (least_fitting lengths budget first)
unfolding least_fitting
least_is lengths budget first few = least_among lengths budget first (100 - first) (omega (arith, few)) (omega (arith, few))

-- there is one alone
pub least_same : (lengths : ℕ → ℕ) (budget first i j : ℕ) → IsLeast lengths budget first i → IsLeast lengths budget first j → i ≡ j
least_same lengths budget first i j a b = by a.fits b.fits
  where
    no : (m n : ℕ) → IsLeast lengths budget first m → IsLeast lengths budget first n → (lengths m ≤ budget) ⊎ (m ≡ 99) → n ≤ m
    no m n x y (inl fits) = grind (arith, fits, y.before m x.from, x.last, y.last)
    no m n x y (inr e) = omega (arith, e, y.last)

    by : (lengths i ≤ budget) ⊎ (i ≡ 99) → (lengths j ≤ budget) ⊎ (j ≡ 99) → i ≡ j
    by p q = let one = no i j a b p in let other = no j i b a q in omega (arith, one, other)

-- ---- the rule

pub fit_gives : (budget : ℕ) → GivesIndices (fit budget)
fit_gives budget t refs j accepted = (least_is (length_at t refs j) budget t.index ((codable t accepted).index)).last

pub rule_gives : (budget : Option ℕ) → GivesIndices (rule_of budget)
rule_gives None = own_gives
rule_gives (Some budget) = fit_gives budget

-- an index that is the least is the one that the rule gives
pub fit_is : (budget : ℕ) (t : Settings) (refs : List Picture) (j : Job) (index : ℕ) → IsAccepted t → IsLeast (length_at t refs j) budget t.index index → index ≡ fit budget t refs j
fit_is budget t refs j index accepted is = least_same (length_at t refs j) budget t.index index (fit budget t refs j) is (least_is (length_at t refs j) budget t.index ((codable t accepted).index))

-- it fits, or none does
fits_or_none : (budget : ℕ) (t : Settings) (refs : List Picture) (j : Job) → IsAccepted t → FitsOrNone budget t refs j
fits_or_none budget t refs j accepted = by least.fits (nat_le (lengths index) budget) refl
  where
    lengths : ℕ → ℕ
    lengths = length_at t refs j

    index : ℕ
    index = fit budget t refs j

    least : IsLeast lengths budget t.index index
    least = least_is lengths budget t.index ((codable t accepted).index)

    none : index ≡ 99 → budget < lengths index → (i : ℕ) → t.index ≤ i → i ≤ 99 → budget < lengths i
    none e long i after few = at_last i after few (nat_le 99 i) refl
      where
        at_last : (i : ℕ) → t.index ≤ i → i ≤ 99 → (b : Bool) → nat_le 99 i ≡ b → budget < lengths i
        at_last i after few true is = let same : index ≡ i = omega (arith, e, few, leb-true 99 i is) in subst (λ (k : ℕ). budget < lengths k) same long
        at_last i after few false is = least.before i after (omega (arith, e, not_le 99 i is))

    by : (lengths index ≤ budget) ⊎ (index ≡ 99) → (b : Bool) → nat_le (lengths index) budget ≡ b → FitsOrNone budget t refs j
    by (inl fits) b is = inl fits
    by (inr e) true is = inl (leb-true (lengths index) budget is)
    by (inr e) false is = inr (e, none e (not_le (lengths index) budget is))

pub budgets_kept : BudgetsAreKept
budgets_kept budget t refs [] accepted = tt
budgets_kept budget t refs (j ∷ jobs) accepted = (fits_or_none budget t refs j accepted, budgets_kept budget t (refs_after refs (made_under (fit budget) t refs j)) jobs accepted)

-- ---- by numbers

-- lengths that fall: the first that is small enough
falling : least_fitting (λ i. 60 - i) 50 0 ≡ 10
unfolding least_fitting
falling = refl

-- lengths that rise again: none is passed over
rising_again : least_fitting (λ i. 40 + i * i - 6 * i) 32 0 ≡ 2
unfolding least_fitting
rising_again = refl

-- none small enough: the last
too_small : least_fitting (λ i. 200 - i) 50 7 ≡ 99
unfolding least_fitting
too_small = refl
