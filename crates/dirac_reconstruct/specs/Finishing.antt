-- What a coded picture is written and shown from.
use Rattle.std.specs.Prelude.{◌≡◌, List, Option, Some, IfSome}
use Rattle.dirac_common.specs.declared.picture.Picture.{Picture}
use Rattle.dirac_sequence_header.specs.declared.sequence.Sequence.{Sequence}
use Rattle.dirac_picture.specs.declared.coded.CodedPicture.{CodedPicture}
use Rattle.dirac_picture.specs.Writable.{IsWritten}
use Rattle.dirac_content.specs.Content.{named}
use Rattle.dirac_rebuild.specs.Rebuilding.{CanBeRebuilt}
use Rattle.dirac_reconstruct.specs.declared.showing.Compensated.{Compensated}
use Rattle.dirac_reconstruct.specs.declared.showing.Finishing.{Finishing}
use Rattle.dirac_reconstruct.specs.Predicted.{ArePredictions}

-- these are the predictions of a coded picture
pub record ArePredicted (s : Sequence) (refs : List Picture) (c : CodedPicture) (x : Compensated) : Type 0 where
  pub motion : c.motion ≡ Some x.motion
  pub planes : ArePredictions s (named refs c.header.ref1) (named refs c.header.ref2) x.motion x.predictions

-- a coded picture that can be written and rebuilt, with its predictions where they are at hand
pub record CanBeFinished (s : Sequence) (refs : List Picture) (c : CodedPicture) (o : Option Compensated) : Type 0 where
  pub rebuilt : CanBeRebuilt c s refs
  pub written : IfSome c.residual (IsWritten s)
  pub predicted : IfSome o (ArePredicted s refs c)

-- what is finished can be
abbrev pub IsFinishable : Finishing → Type 0
IsFinishable f = CanBeFinished f.sequence.now f.refs.now f.coded.now f.compensated.now
