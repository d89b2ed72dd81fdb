-- Where streams are to be shown alike, the vectors that are chosen keep inside.
use Rattle.std.proofs.Common.{◌≡◌, ℕ, zero, suc, ◌+◌, ◌<◌, Bool, true, false, if◌then◌else◌, min, List, [], ◌∷◌, length, map, Option, None, Some, arith, refl, sym, subst}
use Rattle.std.specs.Prelude.{IfSome, drop, option_map}
use Rattle.std.specs.List.{AllByRecursion}
use Rattle.dirac_common.specs.Ratios.{ratio_across, ratio_down}
use Rattle.dirac_common.specs.declared.picture.Picture.{Picture}
use Rattle.dirac_types.specs.Settings.{IsAccepted}
use Rattle.dirac_types.specs.declared.settings.Settings.{Settings}
use Rattle.dirac_inside.specs.Ranges.{AreBlocks}
use Rattle.dirac_inside.specs.declared.picture_blocks.PictureBlocks.{PictureBlocks}
use Rattle.dirac_sequence_header.specs.Sizes.{picture_height}
use Rattle.dirac_sequence.specs.Written.{sequence_of}
use Rattle.dirac_parameters.specs.Grids.{grid_of}
use Rattle.dirac_inside_laws.specs.Kept.{VectorsKeepInside}
use Rattle.dirac_block_table.specs.Tables.{BlockTable}
use Rattle.dirac_picture.specs.Grammar.{is_intra}
use Rattle.dirac_picture.specs.declared.coded.CodedMotion.{CodedMotion}
use Rattle.dirac_content.specs.Content.{named}
use Rattle.dirac_decide.specs.Deciding.{deciding}
use Rattle.dirac_decide.specs.Units.{decided_blocks}
use Rattle.dirac_decide.proofs.Accepted.{across_within, down_within, grid_within, precision_within}
use Rattle.dirac_decide_laws.proofs.Insides.{tables_inside}
use Rattle.dirac_plan.specs.Plan.{plan}
use Rattle.dirac_plan.specs.declared.planned.Planned.{Planned}
use Rattle.dirac_plan_laws.specs.Plans.{PlansCanBeCoded}
use Rattle.dirac_motion.specs.Chosen.{at_index, blocks_among, blocks_from, chosen, view_in}
use Rattle.dirac_motion.proofs.Indices.{chosen_same}
use Rattle.dirac_sources.specs.Sources.{pictures_in, raw_length, sources, whole_pictures}
use Rattle.dirac_encode_laws.specs.Coded.{motion_with}
use Rattle.dirac_encode_laws.specs.Coding.{IndexRule, job_of, made_under, refs_after}
use Rattle.dirac_encode_laws.proofs.Sourcing.{picture_at}
use Rattle.dirac_choice_laws.specs.Insides.{ChosenTablesKeepInside, CodedVectorsKeepInside, HaveVectorsInside, blocks_of_pictures}
use Rattle.dirac_choice_laws.proofs.Pictures.{few}

-- ---- what is chosen

-- the luma of a picture has the size that settings give
record IsSized (s : Settings) (p : Picture) : Type 0 where
  across : p.y.width ≡ (sequence_of s).width
  down : p.y.height ≡ picture_height (sequence_of s)

-- the blocks of a picture whose luma has this width and height
abbrev sized : Settings → ℕ → ℕ → PictureBlocks
sized s width height = record {
  grid = grid_of s.blocks;
  width = width;
  height = height;
  across_ratio = ratio_across (sequence_of s).chroma;
  down_ratio = ratio_down (sequence_of s).chroma;
}

from_inside : (s : Settings) (p first : Picture) (second : Option Picture) → IsAccepted s → IsSized s p → (s.alike ≡ 0 → ⊥)
    → VectorsKeepInside (blocks_of_pictures s) s.precision (blocks_from s p first second)
from_inside s p first second a is some =
    let d = deciding s p (view_in s p first) (option_map (view_in s p) second) in
    let grid = grid_within s.blocks in
    let chroma = (sequence_of s).chroma in
    let blocks : AreBlocks (decided_blocks d) = record { columns = grid.columns.1; rows = grid.rows.1; across_ratio = across_within chroma; down_ratio = down_within chroma } in
    subst (λ (n : ℕ). VectorsKeepInside (sized s n (picture_height (sequence_of s))) s.precision (blocks_from s p first second)) is.across
    (subst (λ (n : ℕ). VectorsKeepInside (sized s p.y.width n) s.precision (blocks_from s p first second)) is.down
    (tables_inside d (record { blocks = blocks; precision = precision_within s a }) some))

among_inside : (s : Settings) (p : Picture) (first second : Option Picture) → IsAccepted s → IsSized s p → (s.alike ≡ 0 → ⊥)
    → VectorsKeepInside (blocks_of_pictures s) s.precision (blocks_among s p first second)
among_inside s p None second a is some = λ i j column row. absurd (omega (arith, column))
among_inside s p (Some first) second a is some = from_inside s p first second a is some

pub chosen_inside : ChosenTablesKeepInside
unfolding chosen
chosen_inside s refs q p is inter some =
    among_inside s p (named refs q.ref1) (named refs q.ref2) is.accepted (record { across = is.source.y.across; down = is.source.y.down }) some

-- ---- what is coded

-- the vectors of a picture's motion keep inside, whichever index the rule gives
motion_inside : (t : Settings) (refs : List Picture) (q : Planned) (p : Picture) (index : ℕ) (intra : Bool) → IsAccepted t → IsSized t p → (t.alike ≡ 0 → ⊥)
    → IfSome (if intra then None else Some (motion_with t (chosen (at_index t index) refs q p))) (λ (m : CodedMotion). VectorsKeepInside (blocks_of_pictures t) t.precision m.blocks)
unfolding chosen
motion_inside t refs q p index true a is some = tt
motion_inside t refs q p index false a is some =
    subst (λ (b : BlockTable). VectorsKeepInside (blocks_of_pictures t) t.precision b) (sym (chosen_same t index refs q p))
    (among_inside t p (named refs q.ref1) (named refs q.ref2) a is some)

-- the vectors of pictures that are coded one after another keep inside
all_inside : (f : IndexRule) (t : Settings) (pictures refs : List Picture) (qs : List Planned) → IsAccepted t → (t.alike ≡ 0 → ⊥)
    → AllByRecursion (IsSized t) pictures → AllByRecursion (λ (q : Planned). q.number < length pictures) qs
    → HaveVectorsInside f t refs (map (job_of pictures) qs)
all_inside f t pictures refs [] a some are below = tt
all_inside f t pictures refs (q ∷ qs) a some are below =
    let j = job_of pictures q in
    let is : IsSized t j.source = picture_at (IsSized t) pictures q.number are below.0 in
    (motion_inside t refs q j.source (f t refs j) (is_intra q.code) a is some, all_inside f t pictures (refs_after refs (made_under f t refs j)) qs a some are below.1)

sized_in : (t : Settings) (count number : ℕ) (bytes : List ℕ) → AllByRecursion (IsSized t) (pictures_in t count number bytes)
unfolding pictures_in sequence_of
sized_in t zero number bytes = tt
sized_in t (suc count) number bytes = (record { across = refl; down = refl }, sized_in t count (number + 1) (drop (raw_length t) bytes))

asked : (t : Settings) → t.alike ≡ 1 → t.alike ≡ 0 → ⊥
asked t one none = omega (arith, one, none)

pub coded_inside : PlansCanBeCoded → CodedVectorsKeepInside
coded_inside plans f t bytes a alike =
    let pictures = sources t bytes in
    all_inside f t pictures [] (plan (length pictures) t) a (asked t alike) (sized_in t (min (whole_pictures t bytes) t.pictures) 0 bytes) (plans t (length pictures) a (few t bytes a)).below
