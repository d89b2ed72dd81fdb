-- What a read of generated pictures gives.
use Rattle.std.proofs.Common.{◌≡◌, ℕ, ◌+◌, ◌<◌, ◌≤◌, ◌^◌, List, ◌++◌, length, take, drop, length-append, length-drop, sym, ap, ◌∙◌, append_assoc, arith, Some}
use Rattle.std.specs.Prelude.{min}
use Rattle.std.proofs.lemmas.List.{length-take-le}
use Rattle.dirac_io.specs.Reading.{GivesFront}
use Rattle.dirac_io.specs.Memory.{count_left}
use Rattle.dirac_io.proofs.Parts.{copied_front}
use Rattle.dirac_types.specs.declared.settings.Settings.{Settings}
use Rattle.dirac_types.specs.Settings.{IsAccepted}
use Rattle.dirac_generator.specs.Generated.{generated_from, picture_count}
use Rattle.dirac_generator.proofs.Lengths.{pictures_length, count_fits, times_bounded}

-- a list that is written over keeps its bytes' number
pub still_some : (n : ℕ) (xs ys : List ℕ) → 1 ≤ n → n ≤ length ys → length (take n (xs ++ drop (length xs) ys)) ≡ 0 → ⊥
still_some n xs ys some within none =
    let all = length-append xs (drop (length xs) ys) in let behind = length-drop (length xs) ys in
    absurd (omega (arith, length-take-le n (xs ++ drop (length xs) ys) (omega arith)))

-- what is held is no longer than all pictures
pub held_bounded : (t : Settings) (items : List ℕ) (from count number : ℕ) → IsAccepted t → length items ≡ picture_count t → count + number ≤ 1000
    → length (drop from items ++ generated_from t count number) < 2 ^ 63
held_bounded t items from count number is size fits =
    let all = length-append (drop from items) (generated_from t count number) in
    let rest = length-drop from items in let further = pictures_length t count number in
    let bound = (count_fits t is).1 in let product = times_bounded count (picture_count t) 28311552 (omega arith) bound in omega arith

pub gives : (n from : ℕ) (items tail before rest copied buf : List ℕ) → drop from items ++ tail ≡ before → rest ≡ drop from items → 0 < length buf → 0 < length rest → length (drop from items ++ tail) < 2 ^ 63
    → n ≡ min (length buf) (length rest) → copied ≡ take n rest
    → GivesFront n (copied ++ drop n buf) (Some before) (Some (drop (from + n) items ++ tail)) (count_left before) (count_left (drop (from + n) items ++ tail))
gives n from items tail before rest copied buf is_before is_rest some_room some_rest bounded is_n is_copied =
    let same : length rest ≡ length (drop from items) = ap length is_rest in
    let within : n ≤ length (drop from items) = omega arith in
    let copied_length : length copied ≡ n = ap length is_copied ∙ length-take-le n rest (omega arith) in
    record {
      some = omega arith;
      room = omega (arith, length-append copied (drop n buf), length-drop n buf);
      given =
          sym is_before ∙ ap (λ l. l ++ tail) (copied_front n from items copied (drop n buf) within (is_copied ∙ ap (take n) is_rest))
          ∙ append_assoc (take n (copied ++ drop n buf)) (drop (from + n) items) tail;
      lower = omega (arith, ap length is_before, length-append (drop from items) tail, length-append (drop (from + n) items) tail, length-drop from items, length-drop (from + n) items);
    }
