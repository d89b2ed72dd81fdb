-- What holds of a sequence and a list of references when any picture may be decoded with them.
-- Inner: for the proofs of this crate.
use Rattle.std.specs.Prelude.{List}
use Rattle.std.specs.List.{All}
use Rattle.dirac_common.specs.declared.picture.Picture.{Picture}
use Rattle.dirac_sequence_header.specs.declared.sequence.Sequence.{Sequence}
use Rattle.dirac_sequence_header.specs.Lawful.{IsSequence}
use Rattle.dirac_content.specs.Content.{IsPicture}

-- pictures of any parse code may stand in a sequence, with these pictures listed
pub record CanAllBeDecoded (s : Sequence) (refs : List Picture) : Type 0 where
  pub sequence : IsSequence s
  pub listed : All (IsPicture s) refs
