-- The sequences of a stream, where just some of its pictures are kept.
-- Inner: for the proofs of this crate.
use Rattle.std.specs.Prelude.{ℕ, suc, ◌==◌, if◌then◌else◌, Bool, true, List, ◌++◌, ◌∷◌, [], Option, None, Some}
use Rattle.dirac_common.specs.declared.codes.TheConstants.{END_OF_SEQUENCE, SEQUENCE_HEADER}
use Rattle.dirac_units.specs.Cut.{UnitText}
use Rattle.dirac_units.specs.Info.{is_picture}
use Rattle.dirac_edit_laws.specs.Cut.{is_between}
use Rattle.dirac_edit_laws.specs.Texts.{PictureText, SequenceText, closed_off, opened_by, picture_text_at, points_up_to}
use Rattle.dirac_edit_laws.specs.Texts.{with_picture_text}
use Rattle.dirac_edit.specs.declared.bounds.Part.{Part}

-- the pictures of a part, or all
abbrev pub keeps : Option Part → PictureText → Bool
keeps None p = true
keeps (Some part) p = is_between part.from part.to p

-- a picture joins the open sequence, if it is kept
abbrev pub with_kept : Option Part → Option SequenceText → PictureText → Option SequenceText
with_kept part now p = if keeps part p then with_picture_text now p else now

-- the sequences that ended, the one that is open, and how many points there were
pub record Walked : Type 0 where
  pub ended : List SequenceText
  pub now : Option SequenceText
  pub points : ℕ

-- before the first unit
abbrev pub walk_begun : Walked
walk_begun = record { ended = []; now = None; points = 0 }

-- behind the last one
abbrev pub all_of : Walked → List SequenceText
all_of w = w.ended ++ closed_off w.now

-- behind the unit of this index
abbrev pub walked : Option Part → ℕ → Walked → UnitText → Walked
walked part index w u =
    if u.info.code == SEQUENCE_HEADER then record w { now = opened_by w.now u.payload }
    else if u.info.code == END_OF_SEQUENCE then record w { ended = all_of w; now = None }
    else if is_picture u.info.code then
    record w {
      now = with_kept part w.now (picture_text_at index (points_up_to w.points u) u);
      points = points_up_to w.points u;
    }
    else w

-- behind these units, of which the first has this index
unfoldable pub walked_from : Option Part → ℕ → Walked → List UnitText → Walked
walked_from part index w [] = w
walked_from part index w (u ∷ units) = walked_from part (suc index) (walked part index w u) units

-- the sequences of a stream with the pictures that are kept
abbrev pub kept_of : Option Part → List UnitText → List SequenceText
kept_of part units = all_of (walked_from part 0 walk_begun units)
