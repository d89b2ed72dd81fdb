-- The pictures that are the generated ones, counted one by one.
use Rattle.std.proofs.Common.{if◌then◌else◌, ◌≡◌, ℕ, suc, ◌+◌, ◌-◌, ◌<◌, List, length, take, drop, sym, ap, ap₂, ◌∙◌, arith}
use Rattle.std.specs.Prelude.{bytes_eq, min}
use Rattle.std.proofs.lemmas.List.{take_min, drop_min}
use Rattle.dirac_types.specs.declared.settings.Settings.{Settings}
use Rattle.dirac_generator.specs.Generated.{generated, exact_from, picture_count}

add_up : (exact here there rest all further : ℕ) → here ≡ there → further ≡ there + rest → exact + further ≡ all → (exact + here) + rest ≡ all
add_up exact here there rest all further same opened before = omega arith

-- one more picture: its own part of the count, and the rest
pub one_picture : (t : Settings) (count number all exact component : ℕ) (rest first others picture : List ℕ) → number < count → exact + exact_from t (count - number) number rest ≡ all
    → picture ≡ generated t number → first ≡ take (picture_count t) rest → others ≡ drop (picture_count t) rest → component ≡ (if bytes_eq first picture then 1 else 0)
    → (exact + component) + exact_from t (count - (number + 1)) (number + 1) others ≡ all
one_picture t count number all exact component rest first others picture more before made front behind is =
    let next : count - number ≡ suc (count - (number + 1)) = omega arith in
    add_up exact component (if bytes_eq (take (picture_count t) rest) (generated t number) then 1 else 0) (exact_from t (count - (number + 1)) (number + 1) others) all (exact_from t (count - number) number rest)
    (is ∙ ap₂ (λ (a b : List ℕ). if bytes_eq a b then 1 else 0) front made)
    (ap (λ (k : ℕ). exact_from t k number rest) next
    ∙ ap (λ (l : List ℕ). (if bytes_eq (take (picture_count t) rest) (generated t number) then 1 else 0) + exact_from t (count - (number + 1)) (number + 1) l) (sym behind))
    before

-- a front that is cut off where the list is shorter
pub front_of : (size n : ℕ) (rest front : List ℕ) → n ≡ min size (length rest) → front ≡ take n rest → front ≡ take size rest
front_of size n rest front is cut = cut ∙ ap (λ (k : ℕ). take k rest) is ∙ take_min size rest

pub behind_of : (size n : ℕ) (rest behind : List ℕ) → n ≡ min size (length rest) → behind ≡ drop n rest → behind ≡ drop size rest
behind_of size n rest behind is cut = cut ∙ ap (λ (k : ℕ). drop k rest) is ∙ drop_min size rest
