-- The number of workers changes no field.
use Rattle.std.proofs.Common.{◌≡◌, ℕ, zero, suc, ◌-◌, Option, None, Some, refl, ap, ◌∙◌}
use Rattle.dirac_types.specs.declared.settings.Settings.{Settings}
use Rattle.dirac_search.specs.declared.stage.Stage.{Stage}
use Rattle.dirac_search.specs.declared.stage.Stage.TheVariants as stage
use Rattle.dirac_search.specs.Candidates.{Vectors}
use Rattle.dirac_search.specs.Fields.{after_finer, after_sub, best_of, field, stage_field}
use Rattle.dirac_search.specs.Given.{Searched}
use Rattle.dirac_search.specs.Kept.{candidates_kept, stage_keeps}

-- the same settings with that many workers
abbrev by : Settings → ℕ → Settings
by s w = record s { workers = w }

stage_same : (g : Searched) (s : Settings) (w : ℕ) (st : Stage) (before : Option Vectors) → stage_field g (by s w) st before ≡ stage_field g s st before
unfolding stage_field best_of candidates_kept stage_keeps
stage_same g s w st before = refl

finer_same : (g : Searched) (s : Settings) (w k : ℕ) → after_finer g (by s w) k ≡ after_finer g s k
finer_same g s w zero = stage_same g s w (stage.Coarse s.pyramid) None
finer_same g s w (suc k) =
    stage_same g s w (stage.Finer (s.pyramid - suc k)) (Some (after_finer g (by s w) k))
    ∙ ap (λ (f : Vectors). stage_field g s (stage.Finer (s.pyramid - suc k)) (Some f)) (finer_same g s w k)

sub_same : (g : Searched) (s : Settings) (w q : ℕ) → after_sub g (by s w) q ≡ after_sub g s q
sub_same g s w zero = finer_same g s w s.pyramid
sub_same g s w (suc q) =
    stage_same g s w (stage.Sub (suc q)) (Some (after_sub g (by s w) q))
    ∙ ap (λ (f : Vectors). stage_field g s (stage.Sub (suc q)) (Some f)) (sub_same g s w q)

pub field_same : (g : Searched) (s : Settings) (workers : ℕ) → field g (record s { workers = workers }) ≡ field g s
field_same g s w = sub_same g s w s.precision
