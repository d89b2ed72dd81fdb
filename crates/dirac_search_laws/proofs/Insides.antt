-- Where streams are to be shown alike, vectors keep inside.
use Rattle.std.proofs.Common.{◌≡◌, ℕ, zero, suc, ◌-◌, ◌*◌, ◌^◌, ◌<◌, ◌≤◌, true, List, ◌∷◌, Option, None, Some, arith, refl, ap, sym, subst, ◌∙◌}
use Rattle.std.specs.List.{All}
use Rattle.std.proofs.lemmas.List.Elements.{filter_passes}
use Rattle.dirac_common.specs.declared.formats.Vector.{Vector}
use Rattle.dirac_types.specs.declared.settings.Settings.{Settings}
use Rattle.dirac_inside.specs.Inside.{keeps_inside, vector_times}
use Rattle.dirac_inside.proofs.Zeros.{times_one, times_zero, zero_keeps}
use Rattle.dirac_search.specs.declared.stage.Stage.{Stage}
use Rattle.dirac_search.specs.declared.stage.Stage.TheVariants as stage
use Rattle.dirac_search.specs.Candidates.{Vectors, further_candidates, no_motion, field_vector}
use Rattle.dirac_search.specs.Costs.{cost_of, level_of_stage}
use Rattle.dirac_search.specs.Fields.{IsSearch, IsStage, after_finer, after_sub, best_of, stage_field}
use Rattle.dirac_search.specs.Given.{Searched}
use Rattle.dirac_search.specs.Kept.{searched_blocks, kept_candidates, precision_of, stage_keeps}
use Rattle.dirac_search.proofs.Bounds.{first_least_all}
use Rattle.dirac_search.proofs.Keeping.{are_blocks, fine_stage, kept_every, kept_passing}
use Rattle.dirac_search_laws.specs.Fields.{AllMayBeTaken, FieldsKeepInside, InsidesMayBeTaken}
use Rattle.dirac_search_laws.proofs.Fields.{vector_is_best}

pub all_may_be_taken : AllMayBeTaken
all_may_be_taken g s st before i j e = ap (λ (vs : List Vector). no_motion ∷ vs) (kept_every g s st i j (further_candidates st s.range before i j) e)

-- no motion keeps inside at each stage
zero_stays : (g : Searched) (s : Settings) (st : Stage) (i j : ℕ) → IsSearch g s → IsStage s st → stage_keeps g s st i j no_motion ≡ true
unfolding stage_keeps
zero_stays g s st i j is has =
    ap (keeps_inside (searched_blocks g s) (precision_of st) i j) (times_zero (2 ^ level_of_stage st)) ∙ zero_keeps (searched_blocks g s) (precision_of st) i j (are_blocks g s is) (fine_stage g s st is has)

pub insides_may_be_taken : InsidesMayBeTaken
insides_may_be_taken g s st before i j is has some =
    let further = further_candidates st s.range before i j in
    ap (λ (vs : List Vector). no_motion ∷ vs) (kept_passing g s st i j further some) ∙ sym (rw (zero_stays g s st i j is has) refl)

-- the best vector keeps inside
best_keeps : (g : Searched) (s : Settings) (st : Stage) (before : Option Vectors) (i j : ℕ) → IsSearch g s → IsStage s st → (s.alike ≡ 0 → ⊥) → stage_keeps g s st i j (best_of g s st before i j) ≡ true
unfolding best_of
best_keeps g s st before i j is has some =
    let further = further_candidates st s.range before i j in
    first_least_all (λ v. stage_keeps g s st i j v ≡ true) (cost_of g s.bias st i j) no_motion (kept_candidates g s st before i j) (zero_stays g s st i j is has)
    (subst (All (λ v. stage_keeps g s st i j v ≡ true)) (sym (kept_passing g s st i j further some)) (filter_passes (stage_keeps g s st i j) further))

-- so does the vector of a block after a stage
after_keeps : (g : Searched) (s : Settings) (st : Stage) (before : Option Vectors) (i j : ℕ) → IsSearch g s → IsStage s st → (s.alike ≡ 0 → ⊥) → i < 4 * g.across → j < 4 * g.down
    → keeps_inside (searched_blocks g s) (precision_of st) i j (vector_times (2 ^ level_of_stage st) (field_vector (stage_field g s st before) i j)) ≡ true
unfolding stage_keeps
after_keeps g s st before i j is has some column row =
    subst (λ (v : Vector). stage_keeps g s st i j v ≡ true) (sym (vector_is_best g s st before i j column row)) (best_keeps g s st before i j is has some)

-- after a stage in whole samples of a level
finer_keeps : (g : Searched) (s : Settings) (k i j : ℕ) → IsSearch g s → (s.alike ≡ 0 → ⊥) → i < 4 * g.across → j < 4 * g.down → k ≤ s.pyramid
    → keeps_inside (searched_blocks g s) 0 i j (vector_times (2 ^ (s.pyramid - k)) (field_vector (after_finer g s k) i j)) ≡ true
finer_keeps g s zero i j is some column row l =
    let level : s.pyramid ≡ s.pyramid - 0 = omega arith in
    subst (λ (n : ℕ). keeps_inside (searched_blocks g s) 0 i j (vector_times (2 ^ n) (field_vector (after_finer g s 0) i j)) ≡ true) level
    (after_keeps g s (stage.Coarse s.pyramid) None i j is refl some column row)
finer_keeps g s (suc k) i j is some column row l =
    after_keeps g s (stage.Finer (s.pyramid - suc k)) (Some (after_finer g s k)) i j is (omega arith) some column row

once : (g : Searched) (s : Settings) (q i j : ℕ) (v : Vector) → keeps_inside (searched_blocks g s) q i j (vector_times 1 v) ≡ true → keeps_inside (searched_blocks g s) q i j v ≡ true
once g s q i j v e = ap (keeps_inside (searched_blocks g s) q i j) (sym (times_one v)) ∙ e

-- after the last one, and those in parts of a sample
sub_keeps : (g : Searched) (s : Settings) (q i j : ℕ) → IsSearch g s → (s.alike ≡ 0 → ⊥) → i < 4 * g.across → j < 4 * g.down → q ≤ s.precision
    → keeps_inside (searched_blocks g s) q i j (field_vector (after_sub g s q) i j) ≡ true
sub_keeps g s zero i j is some column row l =
    let level : s.pyramid - s.pyramid ≡ 0 = omega arith in
    once g s 0 i j (field_vector (after_finer g s s.pyramid) i j)
    (subst (λ (n : ℕ). keeps_inside (searched_blocks g s) 0 i j (vector_times (2 ^ n) (field_vector (after_finer g s s.pyramid) i j)) ≡ true) level
    (finer_keeps g s s.pyramid i j is some column row (omega arith)))
sub_keeps g s (suc q) i j is some column row l =
    once g s (suc q) i j (field_vector (after_sub g s (suc q)) i j)
    (after_keeps g s (stage.Sub (suc q)) (Some (after_sub g s q)) i j is (omega arith, l) some column row)

pub fields_keep_inside : FieldsKeepInside
fields_keep_inside g s is some i j column row = sub_keeps g s s.precision i j is some column row (omega arith)
