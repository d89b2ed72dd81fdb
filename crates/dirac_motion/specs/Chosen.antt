-- The block table that is chosen for a planned picture.
use Rattle.std.specs.Prelude.{◌≡◌, ℕ, nat_le, if◌then◌else◌, true, false, List, Option, Some, None, option_map}
use Rattle.dirac_sequence_header.specs.Sizes.{picture_height}
use Rattle.std.specs.List.{All}
use Rattle.dirac_types.specs.declared.settings.Settings.{Settings}
use Rattle.dirac_common.specs.declared.picture.Picture.{Picture}
use Rattle.dirac_types.specs.Settings.{IsAccepted}
use Rattle.dirac_sequence.specs.Written.{sequence_of}
use Rattle.dirac_header.specs.Codes.{references_of}
use Rattle.dirac_header.specs.Prediction.{grid_of}
use Rattle.dirac_header.specs.Written.{HasReferences}
use Rattle.dirac_block_table.specs.Filling.{empty_table}
use Rattle.dirac_block_table.specs.Tables.{BlockTable, IsBlockTable}
use Rattle.dirac_picture.specs.Grammar.{is_intra, superblocks_over}
use Rattle.dirac_content.specs.Content.{AreReferences, IsPicture, named, up_of}
use Rattle.dirac_pyramid.specs.Pyramid.{pyramid_of}
use Rattle.dirac_search.specs.Fields.{field}
use Rattle.dirac_search.specs.Given.{Searched}
use Rattle.dirac_decide.specs.Deciding.{View}
use Rattle.dirac_decide.specs.Modes.{HasDcSamples}
use Rattle.dirac_decide.specs.Splits.{decided_by}
use Rattle.dirac_plan.specs.declared.planned.Planned.{Planned}
use Rattle.dirac_plan_laws.specs.Headers.{header_of}

-- what is searched for a picture in a reference
abbrev pub searched_in : Settings → Picture → Picture → Searched
searched_in s p r = record {
  source = pyramid_of p.y s.pyramid;
  reference = pyramid_of r.y s.pyramid;
  up = up_of r.y;
  grid = grid_of s.blocks;
  across = superblocks_over p.y.width (grid_of s.blocks).xbsep;
  down = superblocks_over p.y.height (grid_of s.blocks).ybsep;
}

-- a reference with the vectors that are found in it
abbrev pub view_in : Settings → Picture → Picture → View
view_in s p r = record { up = up_of r.y; field = field (searched_in s p r) s }

-- the block table of a picture with one reference or two
abbrev pub blocks_from : Settings → Picture → Picture → Option Picture → BlockTable
blocks_from s p first second = decided_by s p (view_in s p first) (option_map (view_in s p) second)

-- the block table of a picture with the references that were looked up for it; without a first one it has no blocks
abbrev pub blocks_among : Settings → Picture → Option Picture → Option Picture → BlockTable
blocks_among s p None second = empty_table 0 0 0
blocks_among s p (Some first) second = blocks_from s p first second

-- the block table that is chosen for a planned picture, with these pictures listed
unfoldable pub chosen : Settings → List Picture → Planned → Picture → BlockTable
chosen s refs q p = blocks_among s p (named refs q.ref1) (named refs q.ref2)

-- the block table that is chosen for a planned picture, if it is an inter picture
abbrev pub chosen_unless_intra : Settings → List Picture → Planned → Picture → Option BlockTable
chosen_unless_intra s refs q p = if is_intra q.code then None else Some (chosen s refs q p)

-- settings with another quantiser index
abbrev pub at_index : Settings → ℕ → Settings
at_index s index = record s { index = index }

-- at each quantiser index this is what is chosen for a planned picture: a block table, or none for an intra picture
abbrev pub IsChosenAtEachIndex : Settings → List Picture → Planned → Picture → Option BlockTable → Type 0
IsChosenAtEachIndex s refs q p o = (index : ℕ) → o ≡ chosen_unless_intra (at_index s index) refs q p

-- accepted settings, and a planned picture of theirs whose references are listed and of theirs too
pub record IsChoosing (s : Settings) (refs : List Picture) (q : Planned) (p : Picture) : Type 0 where
  pub accepted : IsAccepted s
  pub source : IsPicture (sequence_of s) p
  pub references : AreReferences (sequence_of s) refs (header_of q)
  pub header : HasReferences q.code (header_of q)
  pub predicted : is_intra q.code ≡ false → nat_le 1 (references_of q.code) ≡ true

-- a block table for a picture of this code: its superblocks cover the picture, it has the code's references, and its DC
-- values are samples
pub record IsChosen (s : Settings) (code : ℕ) (b : BlockTable) : Type 0 where
  pub across : b.across ≡ superblocks_over (sequence_of s).width (grid_of s.blocks).xbsep
  pub down : b.down ≡ superblocks_over (picture_height (sequence_of s)) (grid_of s.blocks).ybsep
  pub refs : b.refs ≡ references_of code
  pub table : IsBlockTable b
  pub dcs : All HasDcSamples b.blocks

-- the tables that are chosen fit their pictures
abbrev pub ChosenTablesFit : Type 0
ChosenTablesFit =
    (s : Settings) (refs : List Picture) (q : Planned) (p : Picture)
    → IsChoosing s refs q p → is_intra q.code ≡ false → IsChosen s q.code (chosen s refs q p)
