-- When a coded picture can be rebuilt.
use Rattle.std.specs.Prelude.{List}
use Rattle.dirac_common.specs.declared.picture.Picture.{Picture}
use Rattle.dirac_sequence_header.specs.declared.sequence.Sequence.{Sequence}
use Rattle.dirac_sequence_header.specs.Lawful.{IsSequence}
use Rattle.dirac_picture.specs.declared.coded.CodedPicture.{CodedPicture}
use Rattle.dirac_picture.specs.Fits.{FitsSequence}
use Rattle.dirac_content.specs.Content.{AreReferences}

-- a coded picture of this sequence, with its references among these
abbrev pub CanBeRebuilt : CodedPicture → Sequence → List Picture → Type 0
CanBeRebuilt coded s refs = IsSequence s × FitsSequence coded.code s coded × AreReferences s refs coded.header
