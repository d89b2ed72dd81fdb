-- The numbers that digits spell.
use Rattle.std.proofs.Common.{◌≡◌, ℕ, ◌<◌, ◌^◌, ◌&&◌, true, false, leb, List, length, refl, inl, inr, None, Result, Ok}
use Rattle.std.proofs.Common.{Err, arith, rules}
use Rattle.std.specs.Str.{all_ascii_digits}
use Rattle.std.specs.Str.Parse.{ParsesUnsigned}
use Rattle.std.specs.Result.{result_ok, OkIff}
use Rattle.std.proofs.lemmas.Bool.{and_parts, cases_Bool, leb-true, le-leb, and_from}
use Rattle.std.proofs.lemmas.Str.Parse.{IsNumeralModel, numerals_by_fold, parse_digits}
use Rattle.dirac_command_line.specs.Options.{is_digits, number_after, number_in_digits}

-- digits and their number, in the words of `parse`
own : IsNumeralModel (λ ds. all_ascii_digits ds ≡ true) (number_after 0)
own = numerals_by_fold _ (search rules) number_after (search rules)

-- the number of digits, from what `parse` says of them
from_cases : {E : Type 0} (text : List ℕ) (r : Result ℕ E) → is_digits text ≡ true
    → OkIff r ((0 < length text) × (number_after 0 text < 2 ^ 32)) (number_after 0 text)
    → result_ok r ≡ number_in_digits text
unfolding number_in_digits
from_cases text (Ok n) good is =
    let small : leb (number_after 0 text) 4294967295 ≡ true = le-leb _ _ (omega (arith, is.0.1)) in
    let both : (is_digits text && leb (number_after 0 text) 4294967295) ≡ true = and_from _ _ good small in
    rw both (rw is.1 refl)
from_cases text (Err e) good is =
    let parts = and_parts (all_ascii_digits text) (leb 1 (length text) && leb (length text) 10) good in
    let lengths = and_parts (leb 1 (length text)) (leb (length text) 10) parts.1 in
    let some = leb-true 1 (length text) lengths.0 in
    elim (cases_Bool (leb (number_after 0 text) 4294967295)) [
      | inl small ↦ absurd (is (omega arith, omega (arith, leb-true _ _ small)))
      | inr large ↦ rw (good, large) refl
    ]

-- what `parse` gives of digits
pub parsed : {E : Type 0} (text : List ℕ) (r : Result ℕ E) → is_digits text ≡ true → ParsesUnsigned 32 10 text r
    → result_ok r ≡ number_in_digits text
parsed text r good parses =
    let parts = and_parts (all_ascii_digits text) (leb 1 (length text) && leb (length text) 10) good in
    from_cases text r good (parse_digits own 32 text r parses parts.0)

-- what is no digits has no number
pub no_number : (text : List ℕ) → is_digits text ≡ false → number_in_digits text ≡ None
unfolding number_in_digits
no_number text bad = rw bad refl
