-- The split of least cost, from costs that are told below limits.
use Rattle.std.proofs.Common.{◌≡◌, ℕ, ◌<◌, ◌≤◌, arith, ap, ◌∙◌}
use Rattle.dirac_costs.specs.Least.{IsToldBelow, first_least_to}
use Rattle.dirac_costs.proofs.Least.{least_kept, least_taken}

first_one : (f : ℕ → ℕ) (one four : ℕ) → one ≡ f 0 → IsToldBelow one (f 1) four → four < one → first_least_to f 1 ≡ 1
first_one f one four e t less =
    let four_is : four ≡ f 1 = t.below less in
    least_taken f 0 (omega arith)

first_zero : (f : ℕ → ℕ) (one four : ℕ) → one ≡ f 0 → IsToldBelow one (f 1) four → one ≤ four → first_least_to f 1 ≡ 0
first_zero f one four e t more =
    let above : one ≤ f 1 = t.above more in
    least_kept f 0 (omega arith)

-- the third costs less than the second, which costs less than the first
pub third_after_second : (f : ℕ → ℕ) (one four sixteen : ℕ) → one ≡ f 0 → IsToldBelow one (f 1) four → four < one
    → IsToldBelow four (f 2) sixteen → sixteen < four → first_least_to f 2 ≡ 2
third_after_second f one four sixteen e t less s fewer =
    let four_is : four ≡ f 1 = t.below less in
    let sixteen_is : sixteen ≡ f 2 = s.below fewer in
    let so_far : f (first_least_to f 1) ≡ f 1 = ap f (first_one f one four e t less) in
    least_taken f 1 (omega arith)

-- the second costs less than the first, and the third doesn't cost less than it
pub second_stays : (f : ℕ → ℕ) (one four sixteen : ℕ) → one ≡ f 0 → IsToldBelow one (f 1) four → four < one
    → IsToldBelow four (f 2) sixteen → four ≤ sixteen → first_least_to f 2 ≡ 1
second_stays f one four sixteen e t less s more =
    let four_is : four ≡ f 1 = t.below less in
    let above : four ≤ f 2 = s.above more in
    let so_far : f (first_least_to f 1) ≡ f 1 = ap f (first_one f one four e t less) in
    least_kept f 1 (omega arith) ∙ first_one f one four e t less

-- the third alone costs less than the first
pub third_after_first : (f : ℕ → ℕ) (one four sixteen : ℕ) → one ≡ f 0 → IsToldBelow one (f 1) four → one ≤ four
    → IsToldBelow one (f 2) sixteen → sixteen < one → first_least_to f 2 ≡ 2
third_after_first f one four sixteen e t more s less =
    let sixteen_is : sixteen ≡ f 2 = s.below less in
    let so_far : f (first_least_to f 1) ≡ f 0 = ap f (first_zero f one four e t more) in
    least_taken f 1 (omega arith)

-- none costs less than the first
pub first_stays : (f : ℕ → ℕ) (one four sixteen : ℕ) → one ≡ f 0 → IsToldBelow one (f 1) four → one ≤ four
    → IsToldBelow one (f 2) sixteen → one ≤ sixteen → first_least_to f 2 ≡ 0
first_stays f one four sixteen e t more s past =
    let above : one ≤ f 2 = s.above past in
    let so_far : f (first_least_to f 1) ≡ f 0 = ap f (first_zero f one four e t more) in
    least_kept f 1 (omega arith) ∙ first_zero f one four e t more
