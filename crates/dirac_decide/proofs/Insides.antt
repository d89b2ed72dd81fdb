-- The best of the candidates that keep inside.
use Rattle.std.proofs.Common.{◌≡◌, ℕ, ℤ, unsigned_abs, zero, suc, ◌+◌, ◌<◌, ◌≤◌, ◌^◌, ◌==◌, Bool, true, false, ◌&&◌, cond, if◌then◌else◌, nat_lt, List, [], ◌∷◌, ◌++◌, length, Option, refl, ap, sym, subst, ◌∙◌, arith, inl, inr}
use Rattle.std.specs.List.{All}
use Rattle.std.proofs.lemmas.Bool.{cases_Bool, eqb-true, lt-ltb, le-ltb}
use Rattle.std.proofs.lemmas.Int.{ints}
use Rattle.std.proofs.lemmas.List.{append-nil}
use Rattle.std.proofs.lemmas.List.FromFn.{filter_of_map_range_with_len_more}
use Rattle.dirac_common.specs.declared.formats.Vector.{Vector}
use Rattle.dirac_vectors.specs.Neighbours.{IsShort}
use Rattle.dirac_vectors.specs.Predictions.{IsShortVector}
use Rattle.dirac_costs.specs.Least.{first_least}
use Rattle.dirac_costs.proofs.Least.{first_least_more}
use Rattle.dirac_inside.specs.Inside.{all_below, vector_times}
use Rattle.dirac_inside.specs.Ranges.{AreBlocks, IsBounded, IsNear, is_in}
use Rattle.dirac_inside.specs.declared.range.VectorRange.{VectorRange}
use Rattle.dirac_inside.proofs.Zeros.{times_one}
use Rattle.dirac_search.specs.Candidates.{no_motion}
use Rattle.dirac_decide.specs.Deciding.{Deciding, IsDeciding, View}
use Rattle.dirac_decide.specs.Insides.{HasTheUnitsInside, IsBestAmong, IsBestWhereSome, IsCosted}
use Rattle.dirac_decide.specs.Units.{best_inside, best_place, best_vector, decided_blocks, candidate, first_or_none, inside_to, unit_keeps, vector_cost}
use Rattle.dirac_decide.specs.declared.best.Best.{Best}
use Rattle.dirac_decide.specs.declared.prediction_unit.PredictionUnit.{PredictionUnit}

-- one more number
pub all_more : (is : ℕ → Bool) (k : ℕ) → all_below is (k + 1) ≡ (all_below is k && is k)
all_more is k = ap (all_below is) (let next : k + 1 ≡ suc k = omega arith in next)

-- one vector more behind some
more_is : (cost : Vector → ℕ) (vs : List Vector) (v : Vector) → 1 ≤ length vs
    → first_or_none cost (vs ++ v ∷ []) ≡ (if nat_lt (cost v) (cost (first_or_none cost vs)) then v else first_or_none cost vs)
more_is cost [] v some = absurd (omega arith)
more_is cost (w ∷ ws) v some = first_least_more cost w ws (v ∷ [])

longer : (vs : List Vector) (v : Vector) → 1 ≤ length (vs ++ v ∷ [])
longer [] v = omega arith
longer (w ∷ ws) v = omega arith

module _ (d : Deciding) (r : View) (u : PredictionUnit) where
  -- it doesn't cost less than the best
  pub best_stays : (vs : List Vector) (v : Vector) (b : Best) → IsBestAmong d r u vs b → b.cost ≤ vector_cost d r u v → IsBestAmong d r u (vs ++ v ∷ []) b
  best_stays vs v b is more =
      let cost = vector_cost d r u in
      let least : cost (first_or_none cost vs) ≤ cost v = omega (arith, more, is.costed.cost, ap cost is.vector) in
      record {
        some = longer vs v;
        vector = is.vector ∙ sym (more_is cost vs v is.some ∙ rw (le-ltb (cost v) (cost (first_or_none cost vs)) least) refl);
        costed = is.costed;
      }

  -- it does
  pub best_taken : (vs : List Vector) (b next : Best) → IsBestAmong d r u vs b → IsCosted d r u next → next.cost < b.cost → IsBestAmong d r u (vs ++ next.vector ∷ []) next
  best_taken vs b next is costed less =
      let cost = vector_cost d r u in
      let below : cost next.vector < cost (first_or_none cost vs) = omega (arith, less, costed.cost, is.costed.cost, ap cost is.vector) in
      record {
        some = longer vs next.vector;
        vector = sym (more_is cost vs next.vector is.some ∙ rw (lt-ltb (cost next.vector) (cost (first_or_none cost vs)) below) refl);
        costed = costed;
      }

  -- the first that keeps inside
  pub best_alone : (vs : List Vector) (b : Best) → vs ≡ [] → IsCosted d r u b → IsBestAmong d r u (vs ++ b.vector ∷ []) b
  best_alone vs b e costed = subst (λ (xs : List Vector). IsBestAmong d r u (xs ++ b.vector ∷ []) b) (sym e) (record { some = omega arith; vector = refl; costed = costed })

  -- one candidate more
  inside_more : (k : ℕ) → unit_keeps d u (candidate r u k) ≡ true → inside_to d r u (k + 1) ≡ inside_to d r u k ++ candidate r u k ∷ []
  inside_more k keeps =
      filter_of_map_range_with_len_more (unit_keeps d u) (candidate r u) 0 k k (omega arith)
      ∙ ap (λ (b : Bool). inside_to d r u k ++ cond b (candidate r u k ∷ []) []) keeps

  inside_same : (k : ℕ) → unit_keeps d u (candidate r u k) ≡ false → inside_to d r u (k + 1) ≡ inside_to d r u k
  inside_same k leaves =
      filter_of_map_range_with_len_more (unit_keeps d u) (candidate r u) 0 k k (omega arith)
      ∙ ap (λ (b : Bool). inside_to d r u k ++ cond b (candidate r u k ∷ []) []) leaves ∙ append-nil (inside_to d r u k)

  pub where_same : (k : ℕ) (o : Option Best) → unit_keeps d u (candidate r u k) ≡ false → IsBestWhereSome d r u (inside_to d r u k) o → IsBestWhereSome d r u (inside_to d r u (k + 1)) o
  where_same k o leaves is = subst (λ (vs : List Vector). IsBestWhereSome d r u vs o) (sym (inside_same k leaves)) is

  pub where_more : (k : ℕ) (b : Best) → unit_keeps d u (candidate r u k) ≡ true → IsBestAmong d r u (inside_to d r u k ++ candidate r u k ∷ []) b → IsBestAmong d r u (inside_to d r u (k + 1)) b
  where_more k b keeps is = subst (λ (vs : List Vector). IsBestAmong d r u vs b) (sym (inside_more k keeps)) is

  -- the best of all candidates
  pub vector_at_zero : d.alike ≡ 0 → best_vector d r u ≡ candidate r u (best_place d r u)
  unfolding best_vector
  vector_at_zero e = rw e refl

  pub vector_inside : (d.alike ≡ 0 → ⊥) → best_vector d r u ≡ best_inside d r u
  unfolding best_vector
  vector_inside some = elim (cases_Bool (d.alike == 0)) [
    | inl none ↦ absurd (some (eqb-true d.alike 0 none))
    | inr other ↦ rw other refl
  ]

-- what holds of all and of no motion holds of the first
pub first_has : (P : Vector → Type 0) (cost : Vector → ℕ) (vs : List Vector) → P no_motion → All P vs → P (first_or_none cost vs)
first_has P cost [] none all = none
first_has P cost (v ∷ vs) none all = least_has v vs (all 0 v (omega arith)) (λ k e l. all (suc k) e (omega arith)) where
  least_has : (w : Vector) (ws : List Vector) → P w → All P ws → P (first_least cost w ws)
  least_has w [] is rest = is
  least_has w (x ∷ xs) is rest = elim (cases_Bool (nat_lt (cost x) (cost w))) [
    | inl less ↦ rw less (least_has x xs (rest 0 x (omega arith)) (λ k e l. rest (suc k) e (omega arith)))
    | inr more ↦ rw more (least_has w xs is (λ k e l. rest (suc k) e (omega arith)))
  ]

-- the blocks of what can be decided from
pub are_blocks : (d : Deciding) → IsDeciding d → AreBlocks (decided_blocks d)
are_blocks d h = record { columns = h.columns.1; rows = h.rows.1; across_ratio = h.across_ratio; down_ratio = h.down_ratio }

-- vectors of 16 bits can be asked
short_near : (v : Vector) → IsShortVector v → IsNear v
short_near v is = record { across = small v.x is.x; down = small v.y is.y } where
  small : (z : ℤ) → IsShort z → unsigned_abs z ≤ 2 ^ 24
  small z s = omega (arith, ints, s.least, s.most)

short_bounded : (v : Vector) → IsShortVector v → IsBounded v
short_bounded v is = let near = short_near v is in record { across = omega (arith, near.across); down = omega (arith, near.down) }

-- the answer of the range of a unit
pub unit_answer : (d : Deciding) (u : PredictionUnit) (range : VectorRange) (v w : Vector) (answer : Bool) → HasTheUnitsInside d u range → IsShortVector v → answer ≡ is_in range (vector_times 1 v) → v ≡ w
    → unit_keeps d u w ≡ answer
unit_answer d u range v w answer is short e same =
    ap (unit_keeps d u) (sym same) ∙ sym (is v (short_bounded v short)) ∙ ap (is_in range) (sym (times_one v)) ∙ sym e
