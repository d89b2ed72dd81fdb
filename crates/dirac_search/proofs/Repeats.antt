-- Candidates that come again change no choice.
use Rattle.std.proofs.Common.{◌≡◌, ℕ, zero, suc, ◌+◌, ◌<◌, ◌≤◌, List, [], ◌∷◌, ◌++◌, length, take, get_or, length-append, refl, ap, sym, ◌∙◌, arith, subst}
use Rattle.std.specs.List.{All, flat_map}
use Rattle.std.proofs.Math.Seq.{take-suc}
use Rattle.std.proofs.lemmas.Bool.{le-ltb}
use Rattle.std.proofs.lemmas.Grind.{flat_map-append}
use Rattle.std.proofs.lemmas.List.{append-nil, get_or_append_left, get_or-take, length-take-le}
use Rattle.dirac_common.specs.declared.formats.Vector.{Vector}
use Rattle.dirac_search.specs.Candidates.{around, no_motion}
use Rattle.dirac_costs.specs.Least.{first_least}
use Rattle.dirac_costs.proofs.Least.{first_least_min, first_least_more}

-- others that cost no less aren't taken
others_kept : (cost : Vector → ℕ) (v : Vector) (ys : List Vector) → All (λ y. cost v ≤ cost y) ys → first_least cost v ys ≡ v
others_kept cost v [] all = refl
others_kept cost v (y ∷ ys) all =
    let first : cost v ≤ cost y = all 0 y (omega arith) in
    rw (le-ltb (cost y) (cost v) first) (others_kept cost v ys (λ k d l. all (suc k) d (omega arith)))

all_left : (P : Vector → Type 0) (xs ys : List Vector) → All P (xs ++ ys) → All P xs
all_left P xs ys all k d l = subst P (get_or_append_left xs ys d k l) (all k d (omega (arith, length-append xs ys)))

all_right : (P : Vector → Type 0) (xs ys : List Vector) → All P (xs ++ ys) → All P ys
all_right P [] ys all = all
all_right P (x ∷ xs) ys all = all_right P xs ys (λ k d l. all (suc k) d (omega arith))

-- what holds of all lists together holds of each
flat_part : (P : Vector → Type 0) (f : Vector → List Vector) (xs : List Vector) (j : ℕ) (d : Vector) → All P (flat_map f xs) → j < length xs → All P (f (get_or xs j d))
flat_part P f [] j d all l = absurd (omega arith)
flat_part P f (x ∷ xs) zero d all l = all_left P (f x) (flat_map f xs) all
flat_part P f (x ∷ xs) (suc j) d all l = flat_part P f xs j d (all_right P (f x) (flat_map f xs) all) (omega arith)

-- the candidates round a centre
abbrev pub round : Vector → List Vector
round c = around c 1

next_round : (cost : Vector → ℕ) (cs : List Vector) (k n : ℕ) (d : Vector) → k < length cs → n ≡ k + 1
    → first_least cost no_motion (flat_map round (take n cs)) ≡ first_least cost (first_least cost no_motion (flat_map round (take k cs))) (round (get_or cs k d))
next_round cost cs k n d l en =
    let next : n ≡ suc k = omega arith in
    ap (λ m. first_least cost no_motion (flat_map round (take m cs))) next ∙ ap (λ xs. first_least cost no_motion (flat_map round xs)) (take-suc cs k d l)
    ∙ ap (first_least cost no_motion) (flat_map-append round (take k cs) (get_or cs k d ∷ []) ∙ ap (λ xs. flat_map round (take k cs) ++ xs) (append-nil (round (get_or cs k d))))
    ∙ first_least_more cost no_motion (flat_map round (take k cs)) (round (get_or cs k d))

-- a new centre
pub round_new : (cost : Vector → ℕ) (cs list now : List Vector) (k n : ℕ) (c d : Vector) → first_least cost no_motion list ≡ first_least cost no_motion (flat_map round (take k cs))
    → k < length cs → n ≡ k + 1 → c ≡ get_or cs k d → now ≡ list ++ round c → first_least cost no_motion now ≡ first_least cost no_motion (flat_map round (take n cs))
round_new cost cs list now k n c d same l en ec e =
    ap (first_least cost no_motion) e ∙ first_least_more cost no_motion list (round c)
    ∙ ap (λ (v : Vector). first_least cost v (round c)) same
    ∙ ap (λ (u : Vector). first_least cost (first_least cost no_motion (flat_map round (take k cs))) (round u)) ec
    ∙ sym (next_round cost cs k n d l en)

-- a centre that was there before
pub round_again : (cost : Vector → ℕ) (cs list : List Vector) (k n j : ℕ) (d : Vector) → first_least cost no_motion list ≡ first_least cost no_motion (flat_map round (take k cs))
    → k < length cs → n ≡ k + 1 → j < k → get_or cs j d ≡ get_or cs k d → first_least cost no_motion list ≡ first_least cost no_motion (flat_map round (take n cs))
round_again cost cs list k n j d same l en before again =
    let least = first_least cost no_motion (flat_map round (take k cs)) in
    let P = λ (y : Vector). cost least ≤ cost y in
    let front : length (take k cs) ≡ k = length-take-le k cs (omega arith) in
    let centre : get_or (take k cs) j d ≡ get_or cs k d = get_or-take k cs j d before ∙ again in
    let all = flat_part P round (take k cs) j d (first_least_min cost no_motion (flat_map round (take k cs))).1 (omega (arith, front)) in
    same ∙ sym (next_round cost cs k n d l en ∙ others_kept cost least (round (get_or cs k d)) (subst (λ (u : Vector). All P (round u)) centre all))
