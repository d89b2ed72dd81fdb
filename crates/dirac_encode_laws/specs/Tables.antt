-- What is asked of the block tables that are chosen.
use Rattle.std.specs.Prelude.{◌≡◌, true, false, List}
use Rattle.std.specs.List.{AllByRecursion}
use Rattle.dirac_common.specs.declared.picture.Picture.{Picture}
use Rattle.dirac_types.specs.declared.settings.Settings.{Settings}
use Rattle.dirac_types.specs.Settings.{IsAccepted}
use Rattle.dirac_picture.specs.Grammar.{are_listed, is_intra}
use Rattle.dirac_plan.specs.declared.planned.Planned.{Planned}
use Rattle.dirac_encode_laws.specs.Coded.{IsSource}
use Rattle.dirac_motion.specs.Chosen.{IsChosen, chosen}
use Rattle.dirac_plan_laws.specs.Headers.{IsPlanned, header_of}

-- what the choice of blocks promises of the tables that it chooses
abbrev pub TablesAreChosen : Type 0
TablesAreChosen =
    (t : Settings) (refs : List Picture) (q : Planned) (p : Picture)
    → IsAccepted t → AllByRecursion (IsSource t) refs → IsSource t p → IsPlanned q
    → are_listed refs (header_of q) ≡ true → is_intra q.code ≡ false → IsChosen t q.code (chosen t refs q p)
