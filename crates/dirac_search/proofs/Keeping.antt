-- What is chosen among the candidates that may be taken.
use Rattle.std.proofs.Common.{◌≡◌, ℕ, pos, ◌^◌, ◌==◌, ◌<◌, ◌≤◌, unsigned_abs, Bool, true, false, if◌then◌else◌, nat_lt, List, [], ◌∷◌, ◌++◌, ◌+◌, cond, take, get_or, length, suc, refl, ap, ap₂, sym, ◌∙◌, arith, inl, inr}
use Rattle.std.specs.List.{All, filter}
use Rattle.std.proofs.lemmas.Bool.{cases_Bool, eqb-true, le-ltb, ltb-true}
use Rattle.std.proofs.lemmas.Int.{unsigned_abs-mul}
use Rattle.std.proofs.Math.Seq.{take-suc}
use Rattle.std.proofs.lemmas.List.{append-nil}
use Rattle.std.proofs.lemmas.List.Elements.{All-filter, filter-append}
use Rattle.std.proofs.lemmas.Nat.{mul-le}
use Rattle.dirac_common.specs.declared.formats.Vector.{Vector}
use Rattle.dirac_types.specs.declared.settings.Settings.{Settings}
use Rattle.dirac_costs.specs.Least.{first_least}
use Rattle.dirac_inside.specs.Inside.{keeps_inside, vector_times}
use Rattle.dirac_inside.specs.Ranges.{AreBlocks, HasTheInside, IsBounded, is_in}
use Rattle.dirac_inside.specs.declared.range.VectorRange.{VectorRange}
use Rattle.dirac_search.specs.declared.stage.Stage.{Stage}
use Rattle.dirac_search.specs.declared.stage.Stage.TheVariants as stage
use Rattle.dirac_search.specs.Candidates.{IsWithinReach, no_motion}
use Rattle.dirac_search.specs.Choices.{ChoosesAs}
use Rattle.dirac_search.specs.Costs.{level_of_stage}
use Rattle.dirac_search.specs.Fields.{IsSearch, IsStage}
use Rattle.dirac_search.specs.Given.{Searched}
use Rattle.dirac_search.specs.Kept.{searched_blocks, candidates_kept, precision_of, stage_keeps}

-- what holds of all holds of those that may be taken
pub kept_all : (P : Vector → Type 0) (g : Searched) (s : Settings) (st : Stage) (i j : ℕ) (vs : List Vector) → All P vs → All P (candidates_kept g s st i j vs)
unfolding candidates_kept
kept_all P g s st i j vs all = elim (cases_Bool (s.alike == 0)) [
  | inl every ↦ rw every all
  | inr some ↦ rw some (All-filter (stage_keeps g s st i j) P vs all)
]

-- the cost of those that pass a test, and for the others a cost that none is above
abbrev passing_cost : (Vector → Bool) → (Vector → ℕ) → ℕ → Vector → ℕ
passing_cost p cost n v = if p v then cost v else n

-- whichever of two goes on
by_test : (f g : Vector → ℕ) (v w : Vector) (xs ys : List Vector) (t : Bool) → (t ≡ true → first_least f w xs ≡ first_least g w ys) → (t ≡ false → first_least f v xs ≡ first_least g v ys)
    → first_least f (if t then w else v) xs ≡ first_least g (if t then w else v) ys
by_test f g v w xs ys true h k = h refl
by_test f g v w xs ys false h k = k refl

passing_is : (p : Vector → Bool) (cost : Vector → ℕ) (n : ℕ) (v : Vector) → p v ≡ true → passing_cost p cost n v ≡ cost v
passing_is p cost n v e = ap (λ (t : Bool). if t then cost v else n) e

failing_is : (p : Vector → Bool) (cost : Vector → ℕ) (n : ℕ) (v : Vector) → p v ≡ false → passing_cost p cost n v ≡ n
failing_is p cost n v e = ap (λ (t : Bool). if t then cost v else n) e

-- to leave the others out is to give them this cost
filtered_least : (p : Vector → Bool) (cost : Vector → ℕ) (n : ℕ) (v : Vector) (xs : List Vector) → cost v ≤ n → passing_cost p cost n v ≡ cost v
    → first_least cost v (filter p xs) ≡ first_least (passing_cost p cost n) v xs
filtered_least p cost n v [] l e = refl
filtered_least p cost n v (w ∷ ws) l e =
    let f = passing_cost p cost n in
    elim (cases_Bool (p w)) [
      | inl passes ↦
          ap (λ (t : Bool). first_least cost v (cond t (w ∷ filter p ws) (filter p ws))) passes
          ∙ by_test cost f v w (filter p ws) ws (nat_lt (cost w) (cost v))
          (λ less. filtered_least p cost n w ws (omega (arith, l, ltb-true (cost w) (cost v) less)) (passing_is p cost n w passes))
          (λ more. filtered_least p cost n v ws l e)
          ∙ sym (ap₂ (λ (a b : ℕ). first_least f (if nat_lt a b then w else v) ws) (passing_is p cost n w passes) e)
      | inr fails ↦
          ap (λ (t : Bool). first_least cost v (cond t (w ∷ filter p ws) (filter p ws))) fails
          ∙ filtered_least p cost n v ws l e
          ∙ sym (ap₂ (λ (a b : ℕ). first_least f (if nat_lt a b then w else v) ws) (failing_is p cost n w fails) e
          ∙ ap (λ (t : Bool). first_least f (if t then w else v) ws) (le-ltb n (cost v) l))
    ]

-- the vector of no motion has its own cost, whether it passes or not
first_passes : (p : Vector → Bool) (cost : Vector → ℕ) (v : Vector) → passing_cost p cost (cost v) v ≡ cost v
first_passes p cost v = elim (cases_Bool (p v)) [
  | inl passes ↦ rw passes refl
  | inr fails ↦ rw fails refl
]

-- among what is kept of two lists every cost chooses the same, where it does among the lists
pub kept_chooses : (g : Searched) (s : Settings) (st : Stage) (i j : ℕ) (xs ys : List Vector) → ChoosesAs xs ys → ChoosesAs (candidates_kept g s st i j xs) (candidates_kept g s st i j ys)
unfolding candidates_kept
kept_chooses g s st i j xs ys same cost = elim (cases_Bool (s.alike == 0)) [
  | inl every ↦ rw every (same cost)
  | inr some ↦ rw some
      (let p = stage_keeps g s st i j in
      let n = cost no_motion in
      let own = first_passes p cost no_motion in
      filtered_least p cost n no_motion xs (omega arith) own ∙ same (passing_cost p cost n) ∙ sym (filtered_least p cost n no_motion ys (omega arith) own))
]

-- tests that answer the same keep the same
pub filter_as : (p q : Vector → Bool) (xs : List Vector) → All (λ v. p v ≡ q v) xs → filter p xs ≡ filter q xs
filter_as p q [] all = refl
filter_as p q (x ∷ xs) all = elim (cases_Bool (q x)) [
  | inl passes ↦ rw (all 0 x (omega arith), passes) (ap (λ (ys : List Vector). x ∷ ys) (filter_as p q xs (λ k d l. all (suc k) d (omega arith))))
  | inr fails ↦ rw (all 0 x (omega arith), fails) (filter_as p q xs (λ k d l. all (suc k) d (omega arith)))
]

-- sixteen times a candidate
pub times_bounded : (n : ℕ) (v : Vector) → n ≤ 16 → IsWithinReach (2 ^ 24) v → IsBounded (vector_times n v)
times_bounded n v few is = record {
  across = omega (arith, unsigned_abs-mul (pos n) v.x, mul-le n (unsigned_abs v.x) 16 (2 ^ 24) few is.across);
  down = omega (arith, unsigned_abs-mul (pos n) v.y, mul-le n (unsigned_abs v.y) 16 (2 ^ 24) few is.down);
}

-- the blocks of what can be searched
pub are_blocks : (g : Searched) (s : Settings) → IsSearch g s → AreBlocks (searched_blocks g s)
are_blocks g s is = record {
  columns = is.x_separation;
  rows = is.y_separation;
  across_ratio = ratio (s.chroma == 0) 1 2 (omega arith, omega arith) (omega arith, omega arith);
  down_ratio = ratio (s.chroma == 2) 2 1 (omega arith, omega arith) (omega arith, omega arith);
} where
  ratio : (b : Bool) (m n : ℕ) → (1 ≤ m) × (m ≤ 2) → (1 ≤ n) × (n ≤ 2) → (1 ≤ (if b then m else n)) × ((if b then m else n) ≤ 2)
  ratio true m n p q = p
  ratio false m n p q = q

-- the vectors of a stage of the settings are as fine as they say at most
pub fine_stage : (g : Searched) (s : Settings) (st : Stage) → IsSearch g s → IsStage s st → precision_of st ≤ 3
fine_stage g s (stage.Coarse l) is has = omega arith
fine_stage g s (stage.Finer l) is has = omega arith
fine_stage g s (stage.Sub q) is has = omega (arith, is.precision, has.1)

-- where streams needn't be shown alike all are kept, and else those that pass
pub kept_every : (g : Searched) (s : Settings) (st : Stage) (i j : ℕ) (vs : List Vector) → s.alike ≡ 0 → candidates_kept g s st i j vs ≡ vs
unfolding candidates_kept
kept_every g s st i j vs e = rw e refl

pub kept_passing : (g : Searched) (s : Settings) (st : Stage) (i j : ℕ) (vs : List Vector) → (s.alike ≡ 0 → ⊥) → candidates_kept g s st i j vs ≡ filter (stage_keeps g s st i j) vs
unfolding candidates_kept
kept_passing g s st i j vs some = elim (cases_Bool (s.alike == 0)) [
  | inl none ↦ absurd (some (eqb-true s.alike 0 none))
  | inr asked ↦ rw asked refl
]

-- one vector more
pub filter_more : (p : Vector → Bool) (list xs : List Vector) (k n : ℕ) (d v : Vector) → xs ≡ filter p (take k list) → k < length list → n ≡ k + 1 → v ≡ get_or list k d → p v ≡ true
    → xs ++ v ∷ [] ≡ filter p (take n list)
filter_more p list xs k n d v e l en ev passes =
    let next : n ≡ suc k = omega arith in
    ap (λ (ys : List Vector). ys ++ v ∷ []) e
    ∙ sym (ap (λ m. filter p (take m list)) next ∙ ap (filter p) (take-suc list k d l) ∙ filter-append p (take k list) (get_or list k d ∷ [])
    ∙ ap (λ (w : Vector). filter p (take k list) ++ filter p (w ∷ [])) (sym ev) ∙ ap (λ (b : Bool). filter p (take k list) ++ cond b (v ∷ []) []) passes)

pub filter_same : (p : Vector → Bool) (list xs : List Vector) (k n : ℕ) (d v : Vector) → xs ≡ filter p (take k list) → k < length list → n ≡ k + 1 → v ≡ get_or list k d → p v ≡ false
    → xs ≡ filter p (take n list)
filter_same p list xs k n d v e l en ev fails =
    let next : n ≡ suc k = omega arith in
    e ∙ sym (ap (λ m. filter p (take m list)) next ∙ ap (filter p) (take-suc list k d l) ∙ filter-append p (take k list) (get_or list k d ∷ [])
    ∙ ap (λ (w : Vector). filter p (take k list) ++ filter p (w ∷ [])) (sym ev) ∙ ap (λ (b : Bool). filter p (take k list) ++ cond b (v ∷ []) []) fails ∙ append-nil (filter p (take k list)))

-- the range of a block keeps what keeps inside
pub range_keeps : (g : Searched) (s : Settings) (st : Stage) (i j n : ℕ) (r : VectorRange) (vs : List Vector) → HasTheInside (searched_blocks g s) (precision_of st) i j r → n ≡ 2 ^ level_of_stage st → n ≤ 16
    → All (IsWithinReach (2 ^ 24)) vs → filter (λ v. is_in r (vector_times n v)) vs ≡ filter (stage_keeps g s st i j) vs
unfolding stage_keeps
range_keeps g s st i j n r vs is e few all =
    filter_as (λ v. is_in r (vector_times n v)) (λ v. keeps_inside (searched_blocks g s) (precision_of st) i j (vector_times (2 ^ level_of_stage st) v)) vs
    (λ k d l. is (vector_times n (get_or vs k d)) (times_bounded n (get_or vs k d) few (all k d l))
    ∙ ap (λ m. keeps_inside (searched_blocks g s) (precision_of st) i j (vector_times m (get_or vs k d))) e)
