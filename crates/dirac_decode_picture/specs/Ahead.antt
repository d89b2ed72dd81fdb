-- Pictures that were decoded before they are asked for.
use Rattle.std.specs.Prelude.{◌≡◌, ℕ, true, List, Option, Ok, is_ok, IfSome}
use Rattle.std.specs.List.{All}
use Rattle.dirac_common.specs.declared.picture.Picture.{Picture}
use Rattle.dirac_sequence_header.specs.declared.sequence.Sequence.{Sequence}
use Rattle.dirac_picture.specs.declared.coded.CodedPicture.{CodedPicture}
use Rattle.dirac_picture.specs.Grammar.{picture_read}
use Rattle.dirac_content.specs.Content.{IsPicture}
use Rattle.dirac_decode_picture.specs.declared.ahead.DecodedAhead.{DecodedAhead}
use Rattle.dirac_decode_picture.specs.declared.decoded_picture.DecodedPicture.{DecodedPicture}
use Rattle.dirac_decode_picture.specs.Payload.{StandsFor}

-- what a payload is decoded to while these pictures are listed (what `DecodesPayload` says of it, but so that it has
-- one proof alone, as an invariant must)
pub record IsDecodedAs (payload : List ℕ) (code : ℕ) (s : Sequence) (refs : List Picture)
    (d : DecodedPicture) : Type 0 where
  pub read : is_ok (picture_read code s refs payload) ≡ true
  pub value : (coded : CodedPicture) → picture_read code s refs payload ≡ Ok coded → StandsFor coded s refs d
  pub fits : IsPicture s d.picture

-- what a picture was decoded to ahead is what its payload is decoded to while these pictures are listed
abbrev pub IsDecodedFrom : List Picture → DecodedAhead → Type 0
IsDecodedFrom refs a = IsDecodedAs a.payload.items a.code a.sequence refs a.decoded

-- each picture that was decoded ahead is that; none stands in place of one that was refused
abbrev pub AreDecodedFrom : List Picture → List (Option DecodedAhead) → Type 0
AreDecodedFrom refs items = All (λ a. IfSome a (IsDecodedFrom refs)) items
