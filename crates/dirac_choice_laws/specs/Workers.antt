-- The number of workers changes nothing.
use Rattle.std.specs.Prelude.{◌≡◌, ℕ, List, Option}
use Rattle.dirac_common.specs.declared.picture.Picture.{Picture}
use Rattle.dirac_types.specs.declared.settings.Settings.{Settings}
use Rattle.dirac_plan.specs.declared.planned.Planned.{Planned}
use Rattle.dirac_motion.specs.Chosen.{chosen}
use Rattle.dirac_encode_laws.specs.Encoding.{encoding_under}
use Rattle.dirac_encode_laws.specs.Fit.{rule_of}

-- settings with another number of workers
abbrev pub with_workers : Settings → ℕ → Settings
with_workers t workers = record t { workers = workers }

-- the same blocks are chosen for a picture
abbrev pub WorkersChangeNoBlocks : Type 0
WorkersChangeNoBlocks =
    (t : Settings) (workers : ℕ) (refs : List Picture) (q : Planned) (p : Picture)
    → chosen (with_workers t workers) refs q p ≡ chosen t refs q p

-- the encoding of raw pictures is the same, where there is a budget for units and where there is none
abbrev pub WorkersChangeNothing : Type 0
WorkersChangeNothing =
    (budget : Option ℕ) (t : Settings) (workers : ℕ) (bytes : List ℕ)
    → encoding_under (rule_of budget) (with_workers t workers) bytes ≡ encoding_under (rule_of budget) t bytes
