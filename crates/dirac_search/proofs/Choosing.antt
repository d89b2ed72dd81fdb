-- Which candidate is taken, and what a stage of the settings has.
use Rattle.std.proofs.Common.{◌≡◌, ℕ, suc, ◌+◌, ◌<◌, ◌≤◌, List, [], ◌∷◌, ◌++◌, length, take, get_or, refl, ap, sym, ◌∙◌, arith, if◌then◌else◌, nat_lt}
use Rattle.std.proofs.Math.Seq.{take-suc}
use Rattle.std.proofs.lemmas.Bool.{lt-ltb, le-ltb}
use Rattle.dirac_common.specs.declared.formats.Vector.{Vector}
use Rattle.dirac_types.specs.declared.settings.Settings.{Settings}
use Rattle.dirac_costs.specs.Least.{first_least}
use Rattle.dirac_costs.proofs.Least.{first_least_more}
use Rattle.dirac_search.specs.declared.stage.Stage.{Stage}
use Rattle.dirac_search.specs.declared.stage.Stage.TheVariants as stage
use Rattle.dirac_search.specs.Costs.{HasPrecision, level_of_stage}
use Rattle.dirac_search.specs.Fields.{IsStage}

-- a stage of these settings stands on a level of theirs
pub stage_level : (s : Settings) (st : Stage) → IsStage s st → level_of_stage st ≤ s.pyramid
stage_level s (stage.Coarse l) is = omega arith
stage_level s (stage.Finer l) is = omega arith
stage_level s (stage.Sub q) is = omega arith

pub stage_precision : (s : Settings) (st : Stage) → IsStage s st → s.precision ≤ 3 → HasPrecision st
stage_precision s (stage.Coarse l) is fine = tt
stage_precision s (stage.Finer l) is fine = tt
stage_precision s (stage.Sub q) is fine = omega (arith, is.1)

-- one candidate more
least_next : (cost : Vector → ℕ) (v : Vector) (list : List Vector) (k n : ℕ) (w d : Vector) → k < length list → n ≡ k + 1 → w ≡ get_or list k d
    → first_least cost v (take n list) ≡ (if nat_lt (cost w) (cost (first_least cost v (take k list))) then w else first_least cost v (take k list))
least_next cost v list k n w d l en e =
    let next : n ≡ suc k = omega arith in
    ap (λ m. first_least cost v (take m list)) next ∙ ap (first_least cost v) (take-suc list k d l) ∙ ap (λ (u : Vector). first_least cost v (take k list ++ u ∷ [])) (sym e)
    ∙ first_least_more cost v (take k list) (w ∷ [])

-- what costs less is taken
pub least_taken : (cost : Vector → ℕ) (v found : Vector) (list : List Vector) (k n : ℕ) (w d : Vector) → k < length list → n ≡ k + 1 → w ≡ get_or list k d → found ≡ first_least cost v (take k list)
    → cost w < cost found → w ≡ first_least cost v (take n list)
least_taken cost v found list k n w d l en e ef less =
    let less' : cost w < cost (first_least cost v (take k list)) = omega (arith, less, ap cost ef) in
    sym (least_next cost v list k n w d l en e ∙ rw (lt-ltb (cost w) (cost (first_least cost v (take k list))) less') refl)

-- what doesn't isn't
pub least_kept : (cost : Vector → ℕ) (v found : Vector) (list : List Vector) (k n : ℕ) (w d : Vector) → k < length list → n ≡ k + 1 → w ≡ get_or list k d → found ≡ first_least cost v (take k list)
    → cost found ≤ cost w → found ≡ first_least cost v (take n list)
least_kept cost v found list k n w d l en e ef more =
    let more' : cost (first_least cost v (take k list)) ≤ cost w = omega (arith, more, ap cost ef) in
    ef ∙ sym (least_next cost v list k n w d l en e ∙ rw (le-ltb (cost w) (cost (first_least cost v (take k list))) more') refl)
