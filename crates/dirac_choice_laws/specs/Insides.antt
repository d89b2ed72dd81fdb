-- Block tables that are chosen where streams are to be shown alike.
use Rattle.std.specs.Prelude.{◌≡◌, ℕ, ⊤, false, List, [], ◌∷◌, IfSome}
use Rattle.dirac_common.specs.Ratios.{ratio_across, ratio_down}
use Rattle.dirac_common.specs.declared.picture.Picture.{Picture}
use Rattle.dirac_types.specs.declared.settings.Settings.{Settings}
use Rattle.dirac_types.specs.Settings.{IsAccepted}
use Rattle.dirac_inside.specs.declared.picture_blocks.PictureBlocks.{PictureBlocks}
use Rattle.dirac_sequence_header.specs.Sizes.{picture_height}
use Rattle.dirac_sequence.specs.Written.{sequence_of}
use Rattle.dirac_parameters.specs.Grids.{grid_of}
use Rattle.dirac_inside_laws.specs.Kept.{VectorsKeepInside}
use Rattle.dirac_picture.specs.Grammar.{is_intra}
use Rattle.dirac_plan.specs.declared.planned.Planned.{Planned}
use Rattle.dirac_motion.specs.Chosen.{IsChoosing, chosen}
use Rattle.dirac_sources.specs.Sources.{sources}
use Rattle.dirac_encode_laws.specs.Coding.{IndexRule, Job, Made, jobs_of, made_under, refs_after}

-- the blocks of the pictures of settings, and the sizes of their planes
abbrev pub blocks_of_pictures : Settings → PictureBlocks
blocks_of_pictures s = record {
  grid = grid_of s.blocks;
  width = (sequence_of s).width;
  height = picture_height (sequence_of s);
  across_ratio = ratio_across (sequence_of s).chroma;
  down_ratio = ratio_down (sequence_of s).chroma;
}

-- where streams are to be shown alike, all vectors of the table that is chosen for an inter picture keep inside
abbrev pub ChosenTablesKeepInside : Type 0
ChosenTablesKeepInside =
    (s : Settings) (refs : List Picture) (q : Planned) (p : Picture)
    → IsChoosing s refs q p → is_intra q.code ≡ false → (s.alike ≡ 0 → ⊥)
    → VectorsKeepInside (blocks_of_pictures s) s.precision (chosen s refs q p)

-- all vectors of a coded picture keep inside; an intra picture has none
abbrev pub HasVectorsInside : Settings → Made → Type 0
HasVectorsInside t m =
    IfSome m.coded.motion (λ motion. VectorsKeepInside (blocks_of_pictures t) t.precision motion.blocks)

-- all vectors of each picture that planned sources become under a rule, with what is listed by then, keep inside
abbrev pub HaveVectorsInside : IndexRule → Settings → List Picture → List Job → Type 0
HaveVectorsInside f t refs [] = ⊤
HaveVectorsInside f t refs (j ∷ jobs) =
    HasVectorsInside t (made_under f t refs j) × HaveVectorsInside f t (refs_after refs (made_under f t refs j)) jobs

-- where the settings ask for streams that are shown alike, all vectors of all pictures that raw pictures become keep
-- inside, under every rule
abbrev pub CodedVectorsKeepInside : Type 0
CodedVectorsKeepInside =
    (f : IndexRule) (t : Settings) (bytes : List ℕ) → IsAccepted t → t.alike ≡ 1
    → HaveVectorsInside f t [] (jobs_of t (sources t bytes))
