-- What is chosen for the inter pictures of a stream costs least.
use Rattle.std.specs.Prelude.{◌≡◌, ℕ, ⊤, false, List, [], ◌∷◌, Option, Some, option_map}
use Rattle.dirac_common.specs.declared.picture.Picture.{Picture}
use Rattle.dirac_types.specs.declared.settings.Settings.{Settings}
use Rattle.dirac_types.specs.Settings.{IsAccepted}
use Rattle.dirac_block_table.specs.Tables.{BlockTable}
use Rattle.dirac_picture.specs.Grammar.{is_intra}
use Rattle.dirac_content.specs.Content.{named}
use Rattle.dirac_decide.specs.Deciding.{Deciding, deciding}
use Rattle.dirac_motion.specs.Chosen.{searched_in, view_in}
use Rattle.dirac_sources.specs.Sources.{sources}
use Rattle.dirac_encode_laws.specs.Coding.{IndexRule, Job, Made, jobs_of, made_under, refs_after}
use Rattle.dirac_encode_laws.specs.Payloads.{motion_with}
use Rattle.dirac_search_laws.specs.Fields.{IsLeastField}
use Rattle.dirac_decide_laws.specs.Tables.{IsLeastTable}

-- what the blocks of a picture are decided from, with one reference or two: the vectors that are tried for a block are
-- those of the fields of these references
abbrev pub decided_among : Settings → Picture → Picture → Option Picture → Deciding
decided_among t p first second = deciding t p (view_in t p first) (option_map (view_in t p) second)

-- a block table of a picture costs least: splits, modes and vectors of all that are tried, and in the field of each
-- reference the vector of each block among its candidates
pub record CostsLeast (t : Settings) (p first : Picture) (second : Option Picture) (table : BlockTable) : Type 0 where
  pub decided : IsLeastTable (decided_among t p first second) table
  pub first_field : IsLeastField (searched_in t p first) t
  pub second_field : (r : Picture) → second ≡ Some r → IsLeastField (searched_in t p r) t

-- with these pictures listed a planned source has become an inter picture whose first reference is listed and whose
-- block table costs least
pub record IsLeastInter (t : Settings) (refs : List Picture) (j : Job) (m : Made) : Type 0 where
  pub first : Picture
  pub is_named : named refs j.planned.ref1 ≡ Some first
  pub table : BlockTable
  pub is_coded : m.coded.motion ≡ Some (motion_with t table)
  pub least : CostsLeast t j.source first (named refs j.planned.ref2) table

-- under a rule for the indices, with what is listed by then, each planned inter picture has a first reference that is
-- listed and a block table that costs least
abbrev pub AreLeastInters : IndexRule → Settings → List Picture → List Job → Type 0
AreLeastInters f t refs [] = ⊤
AreLeastInters f t refs (j ∷ jobs) =
    (is_intra j.planned.code ≡ false → IsLeastInter t refs j (made_under f t refs j))
    × AreLeastInters f t (refs_after refs (made_under f t refs j)) jobs

-- under every rule for the indices each inter picture that raw pictures become has a first reference that is listed and
-- a block table that costs least
abbrev pub InterPicturesCostLeast : Type 0
InterPicturesCostLeast =
    (f : IndexRule) (t : Settings) (bytes : List ℕ) → IsAccepted t
    → AreLeastInters f t [] (jobs_of t (sources t bytes))
