-- How far the vectors of a field reach.
use Rattle.std.proofs.Common.{◌≡◌, ℕ, ℤ, zero, suc, ◌+◌, ◌-◌, ◌*◌, ◌^◌, ◌≤◌, unsigned_abs, List, [], ◌∷◌, get_or, Some, None, Bool, if◌then◌else◌, add-one, refl, ap, ap₂, sym, ◌∙◌, arith, inl, inr, nat_lt, ◌<◌, subst}
use Rattle.std.specs.List.{All}
use Rattle.std.proofs.lemmas.Int.{ints}
use Rattle.std.proofs.lemmas.Bool.{cases_lt, cases_Bool, le-leb, lt-leb}
use Rattle.dirac_common.specs.declared.formats.Vector.{Vector}
use Rattle.dirac_types.specs.declared.settings.Settings.{Settings}
use Rattle.dirac_vectors.specs.Neighbours.{IsShort}
use Rattle.dirac_vectors.specs.Predictions.{IsShortVector}
use Rattle.dirac_costs.specs.Least.{first_least}
use Rattle.dirac_search.specs.declared.stage.Stage.{Stage}
use Rattle.dirac_search.specs.declared.stage.Stage.TheVariants as stage
use Rattle.dirac_search.specs.Candidates.{IsWithinReach, Vectors, around, finer_candidates, no_motion, sub_candidates}
use Rattle.dirac_search.specs.Costs.{cost_of}
use Rattle.dirac_search.specs.Fields.{HasFormerField, IsFormerField, IsSearch, IsStage, after_finer, after_sub, best_of, stage_field}
use Rattle.dirac_search.specs.Given.{Searched}
use Rattle.dirac_search.specs.Kept.{candidates_kept}
use Rattle.dirac_search.specs.Staged.{stage_behind}
use Rattle.dirac_search.proofs.Keeping.{kept_all}
use Rattle.dirac_search.proofs.Reaches.{rows_all, around_within, later_within, weaker}

-- what holds of all candidates holds of the best
pub first_least_all : (P : Vector → Type 0) (cost : Vector → ℕ) (v : Vector) (ws : List Vector) → P v → All P ws → P (first_least cost v ws)
first_least_all P cost v [] is all = is
first_least_all P cost v (w ∷ ws) is all = elim (cases_Bool (nat_lt (cost w) (cost v))) [
  | inl less ↦ rw less (first_least_all P cost w ws (all 0 w (omega arith)) (λ k d l. all (suc k) d (omega arith)))
  | inr more ↦ rw more (first_least_all P cost v ws is (λ k d l. all (suc k) d (omega arith)))
]

no_motion_within : (m : ℕ) → IsWithinReach m no_motion
no_motion_within m = record { across = omega arith; down = omega arith }

coarse_within : (g : Searched) (s : Settings) (l : ℕ) → s.range ≤ 16 → All (IsWithinReach 16) (stage_field g s (stage.Coarse l) None).vectors
unfolding stage_field best_of
coarse_within g s l few =
    rows_all (IsWithinReach 16) (4 * g.across) (4 * g.down) (best_of g s (stage.Coarse l) None)
    (λ i j _ _. first_least_all (IsWithinReach 16) (cost_of g s.bias (stage.Coarse l) i j) no_motion (candidates_kept g s (stage.Coarse l) i j (around no_motion s.range)) (no_motion_within 16)
    (kept_all (IsWithinReach 16) g s (stage.Coarse l) i j (around no_motion s.range)
    (weaker (0 + s.range) 16 (around no_motion s.range) (omega arith) (around_within s.range 0 no_motion (no_motion_within 0)))))

finer_within : (g : Searched) (s : Settings) (l m : ℕ) (f : Vectors) → All (IsWithinReach m) f.vectors → All (IsWithinReach (2 * m + 1)) (stage_field g s (stage.Finer l) (Some f)).vectors
unfolding stage_field best_of
finer_within g s l m f all =
    rows_all (IsWithinReach (2 * m + 1)) (4 * g.across) (4 * g.down) (best_of g s (stage.Finer l) (Some f))
    (λ i j _ _. first_least_all (IsWithinReach (2 * m + 1)) (cost_of g s.bias (stage.Finer l) i j) no_motion (candidates_kept g s (stage.Finer l) i j (finer_candidates (Some f) i j)) (no_motion_within (2 * m + 1))
    (kept_all (IsWithinReach (2 * m + 1)) g s (stage.Finer l) i j (finer_candidates (Some f) i j) (later_within m i j f all).0))

sub_within : (g : Searched) (s : Settings) (q m : ℕ) (f : Vectors) → All (IsWithinReach m) f.vectors → All (IsWithinReach (2 * m + 1)) (stage_field g s (stage.Sub q) (Some f)).vectors
unfolding stage_field best_of
sub_within g s q m f all =
    rows_all (IsWithinReach (2 * m + 1)) (4 * g.across) (4 * g.down) (best_of g s (stage.Sub q) (Some f))
    (λ i j _ _. first_least_all (IsWithinReach (2 * m + 1)) (cost_of g s.bias (stage.Sub q) i j) no_motion (candidates_kept g s (stage.Sub q) i j (sub_candidates (Some f) i j)) (no_motion_within (2 * m + 1))
    (kept_all (IsWithinReach (2 * m + 1)) g s (stage.Sub q) i j (sub_candidates (Some f) i j) (later_within m i j f all).1))

-- how far the vectors reach after so many stages behind the first
abbrev pub reach : ℕ → ℕ
reach zero = 16
reach (suc k) = 2 * reach k + 1

finer_reach : (g : Searched) (s : Settings) (k : ℕ) → s.range ≤ 16 → All (IsWithinReach (reach k)) (after_finer g s k).vectors
finer_reach g s zero few = coarse_within g s s.pyramid few
finer_reach g s (suc k) few = finer_within g s (s.pyramid - suc k) (reach k) (after_finer g s k) (finer_reach g s k few)

sub_reach : (g : Searched) (s : Settings) (q : ℕ) → s.range ≤ 16 → All (IsWithinReach (reach (q + s.pyramid))) (after_sub g s q).vectors
sub_reach g s zero few = subst (λ n. All (IsWithinReach (reach n)) (after_sub g s 0).vectors) (let e : s.pyramid ≡ 0 + s.pyramid = omega arith in e) (finer_reach g s s.pyramid few)
sub_reach g s (suc q) few =
    subst (λ n. All (IsWithinReach (reach n)) (after_sub g s (suc q)).vectors) (let e : suc (q + s.pyramid) ≡ suc q + s.pyramid = omega arith in e)
    (sub_within g s (suc q) (reach (q + s.pyramid)) (after_sub g s q) (sub_reach g s q few))

reach_grows : (n m : ℕ) → n ≤ m → reach n ≤ reach m
reach_grows n zero l = let none : n ≡ 0 = omega arith in rw none (omega arith)
reach_grows n (suc m) l = elim (cases_lt m n) [
  | inl above ↦ let same : n ≡ suc m = omega arith in rw same (omega arith)
  | inr within ↦ omega (arith, reach_grows n m within)
]

-- at most 2,175 after all stages
pub sub_bound : (g : Searched) (s : Settings) (q : ℕ) → s.range ≤ 16 → s.pyramid ≤ 4 → q ≤ 3 → All (IsWithinReach 2175) (after_sub g s q).vectors
sub_bound g s q few levels fine = weaker (reach (q + s.pyramid)) 2175 (after_sub g s q).vectors (reach_grows (q + s.pyramid) 7 (omega arith)) (sub_reach g s q few)

finer_bound : (g : Searched) (s : Settings) (k : ℕ) → s.range ≤ 16 → k ≤ 4 → All (IsWithinReach 2175) (after_finer g s k).vectors
finer_bound g s k few levels = weaker (reach k) 2175 (after_finer g s k).vectors (reach_grows k 7 (omega arith)) (finer_reach g s k few)

-- what a stage leaves can be searched on
former_of : (g : Searched) (f : Vectors) → f.across ≡ g.across → f.down ≡ g.down → All (IsWithinReach 2175) f.vectors → IsFormerField g f
former_of g f a d all = record { across = a; down = d; within = weaker 2175 (2 ^ 22) f.vectors (omega arith) all }

pub finer_former : (g : Searched) (s : Settings) (k : ℕ) → IsSearch g s → k ≤ 4 → IsFormerField g (after_finer g s k)
unfolding stage_field
finer_former g s zero is few = former_of g (after_finer g s zero) refl refl (finer_bound g s zero is.range few)
finer_former g s (suc k) is few = former_of g (after_finer g s (suc k)) refl refl (finer_bound g s (suc k) is.range few)

pub sub_former : (g : Searched) (s : Settings) (q : ℕ) → IsSearch g s → q ≤ 3 → IsFormerField g (after_sub g s q)
unfolding stage_field
sub_former g s zero is fine = finer_former g s s.pyramid is is.pyramid
sub_former g s (suc q) is fine = former_of g (after_sub g s (suc q)) refl refl (sub_bound g s (suc q) is.range is.pyramid fine)

-- the vectors after n stages behind the first
abbrev pub after : Searched → Settings → ℕ → Vectors
after g s zero = stage_field g s (stage.Coarse s.pyramid) None
after g s (suc n) = stage_field g s (stage_behind s (suc n)) (Some (after g s n))

pub after_more : (g : Searched) (s : Settings) (n : ℕ) → after g s (n + 1) ≡ stage_field g s (stage_behind s (n + 1)) (Some (after g s n))
after_more g s n = rw (add-one n) refl

pub behind_finer : (s : Settings) (n : ℕ) → n ≤ s.pyramid → stage_behind s n ≡ stage.Finer (s.pyramid - n)
behind_finer s n l = ap (λ (b : Bool). if b then stage.Finer (s.pyramid - n) else stage.Sub (n - s.pyramid)) (le-leb n s.pyramid l)

pub behind_sub : (s : Settings) (n : ℕ) → s.pyramid < n → stage_behind s n ≡ stage.Sub (n - s.pyramid)
behind_sub s n l = ap (λ (b : Bool). if b then stage.Finer (s.pyramid - n) else stage.Sub (n - s.pyramid)) (lt-leb n s.pyramid l)

after_finer_is : (g : Searched) (s : Settings) (n : ℕ) → n ≤ s.pyramid → after g s n ≡ after_finer g s n
after_finer_is g s zero l = refl
after_finer_is g s (suc n) l = ap₂ (λ (st : Stage) (f : Vectors). stage_field g s st (Some f)) (behind_finer s (suc n) l) (after_finer_is g s n (omega arith))

after_sub_is : (g : Searched) (s : Settings) (q : ℕ) → after g s (s.pyramid + q) ≡ after_sub g s q
after_sub_is g s zero = ap (after g s) (let e : s.pyramid + 0 ≡ s.pyramid = omega arith in e) ∙ after_finer_is g s s.pyramid (omega arith)
after_sub_is g s (suc q) =
    let next : s.pyramid + suc q ≡ suc (s.pyramid + q) = omega arith in
    let last : suc (s.pyramid + q) - s.pyramid ≡ suc q = omega arith in
    ap (after g s) next
    ∙ ap₂ (λ (st : Stage) (f : Vectors). stage_field g s st (Some f)) (behind_sub s (suc (s.pyramid + q)) (omega arith) ∙ ap stage.Sub last) (after_sub_is g s q)

-- after all of them
pub after_all : (g : Searched) (s : Settings) (n : ℕ) → n ≡ s.pyramid + s.precision → after g s n ≡ after_sub g s s.precision
after_all g s n e = ap (after g s) e ∙ after_sub_is g s s.precision

-- each leaves what the next one can be searched on
pub after_former : (g : Searched) (s : Settings) (n : ℕ) → IsSearch g s → n ≤ s.pyramid + 3 → IsFormerField g (after g s n)
after_former g s n is l = elim (cases_lt s.pyramid n) [
  | inl fine ↦
      let whole : s.pyramid + (n - s.pyramid) ≡ n = omega (arith, fine) in
      subst (λ k. IsFormerField g (after g s k)) whole (subst (IsFormerField g) (sym (after_sub_is g s (n - s.pyramid))) (sub_former g s (n - s.pyramid) is (omega (arith, l))))
  | inr few ↦ subst (IsFormerField g) (sym (after_finer_is g s n few)) (finer_former g s n is (omega (arith, few, is.pyramid)))
]

-- and is a stage of the settings
pub behind_staged : (g : Searched) (s : Settings) (n : ℕ) (f : Vectors) → 1 ≤ n → n ≤ s.pyramid + s.precision → IsFormerField g f → IsStage s (stage_behind s n) × HasFormerField g (stage_behind s n) (Some f)
behind_staged g s n f some few is = elim (cases_lt s.pyramid n) [
  | inl fine ↦ subst (λ (st : Stage). IsStage s st × HasFormerField g st (Some f)) (sym (behind_sub s n fine)) ((omega (arith, fine), omega (arith, few)), is)
  | inr whole ↦ subst (λ (st : Stage). IsStage s st × HasFormerField g st (Some f)) (sym (behind_finer s n whole)) (omega (arith, some, whole), is)
]

-- vectors that reach no further have components of 16 bits
short : (v : ℤ) → unsigned_abs v ≤ 2175 → IsShort v
short v few = record { least = omega (arith, ints, few); most = omega (arith, ints, few) }

pub all_short : (xs : List Vector) → All (IsWithinReach 2175) xs → All IsShortVector xs
all_short xs all k d l =
    let is = all k d l in
    record { x = short (get_or xs k d).x is.across; y = short (get_or xs k d).y is.down }
