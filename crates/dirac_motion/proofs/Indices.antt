-- The quantiser index has no part in the choice.
use Rattle.std.proofs.Common.{◌≡◌, ℕ, zero, suc, ◌-◌, List, Option, Some, None, refl, ap, ap₂, ◌∙◌}
use Rattle.std.specs.Prelude.{option_map}
use Rattle.dirac_common.specs.declared.picture.Picture.{Picture}
use Rattle.dirac_types.specs.declared.settings.Settings.{Settings}
use Rattle.dirac_sequence.specs.Written.{sequence_of}
use Rattle.dirac_content.specs.Content.{named, up_of}
use Rattle.dirac_upconvert.specs.SubSamples.{Up}
use Rattle.dirac_search.specs.Candidates.{Vectors}
use Rattle.dirac_search.specs.Fields.{after_finer, after_sub, best_of, stage_field}
use Rattle.dirac_search.specs.Given.{Searched}
use Rattle.dirac_search.specs.Kept.{candidates_kept, stage_keeps}
use Rattle.dirac_search.specs.declared.stage.Stage.{Stage}
use Rattle.dirac_search.specs.declared.stage.Stage.TheVariants as stage
use Rattle.dirac_decide.specs.Deciding.{View, deciding}
use Rattle.dirac_decide.specs.Splits.{decided}
use Rattle.dirac_plan.specs.declared.planned.Planned.{Planned}
use Rattle.dirac_motion.specs.Chosen.{at_index, blocks_among, chosen, searched_in, view_in}

stage_same : (g : Searched) (s : Settings) (k : ℕ) (st : Stage) (before : Option Vectors) → stage_field g (at_index s k) st before ≡ stage_field g s st before
unfolding stage_field best_of candidates_kept stage_keeps
stage_same g s k st before = refl

finer_same : (g : Searched) (s : Settings) (k n : ℕ) → after_finer g (at_index s k) n ≡ after_finer g s n
finer_same g s k zero = stage_same g s k (stage.Coarse s.pyramid) None
finer_same g s k (suc n) =
    stage_same g s k (stage.Finer (s.pyramid - suc n)) (Some (after_finer g (at_index s k) n))
    ∙ ap (λ f. stage_field g s (stage.Finer (s.pyramid - suc n)) (Some f)) (finer_same g s k n)

sub_same : (g : Searched) (s : Settings) (k n : ℕ) → after_sub g (at_index s k) n ≡ after_sub g s n
sub_same g s k zero = finer_same g s k s.pyramid
sub_same g s k (suc n) =
    stage_same g s k (stage.Sub (suc n)) (Some (after_sub g (at_index s k) n))
    ∙ ap (λ f. stage_field g s (stage.Sub (suc n)) (Some f)) (sub_same g s k n)

view_same : (s : Settings) (k : ℕ) (p r : Picture) → view_in (at_index s k) p r ≡ view_in s p r
view_same s k p r = ap (λ (f : Vectors). with_field (up_of r.y) f) (sub_same (searched_in s p r) s k s.precision) where
  with_field : Up → Vectors → View
  with_field up f = record { up = up; field = f }

deciding_same : (s : Settings) (k : ℕ) (p : Picture) (first : View) (second : Option View) → deciding (at_index s k) p first second ≡ deciding s p first second
unfolding sequence_of
deciding_same s k p first second = refl

views_same : (s : Settings) (k : ℕ) (p : Picture) (o : Option Picture) → option_map (view_in (at_index s k) p) o ≡ option_map (view_in s p) o
views_same s k p None = refl
views_same s k p (Some r) = ap Some (view_same s k p r)

blocks_same : (s : Settings) (k : ℕ) (p : Picture) (first second : Option Picture) → blocks_among (at_index s k) p first second ≡ blocks_among s p first second
blocks_same s k p None second = refl
blocks_same s k p (Some first) second =
    ap decided (deciding_same s k p (view_in (at_index s k) p first) (option_map (view_in (at_index s k) p) second))
    ∙ ap₂ (λ (v : View) (w : Option View). decided (deciding s p v w)) (view_same s k p first) (views_same s k p second)

pub chosen_same : (s : Settings) (k : ℕ) (refs : List Picture) (q : Planned) (p : Picture) → chosen (at_index s k) refs q p ≡ chosen s refs q p
unfolding chosen
chosen_same s k refs q p = blocks_same s k p (named refs q.ref1) (named refs q.ref2)
