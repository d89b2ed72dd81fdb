-- The pictures of a part are read and rebuilt as in the whole.
use Rattle.std.specs.Prelude.{◌≡◌, ℕ, List, Ok, true}
use Rattle.dirac_common.specs.declared.picture.Picture.{Picture}
use Rattle.dirac_sequence_header.specs.declared.sequence.Sequence.{Sequence}
use Rattle.dirac_picture.specs.declared.coded.CodedPicture.{CodedPicture}
use Rattle.dirac_picture.specs.Grammar.{are_listed, picture_read}
use Rattle.dirac_content.specs.Content.{rebuilt}
use Rattle.dirac_edit_laws.specs.Restricted.{IsRestricted}

-- with the list of the part a payload is read as with the list of the whole, and rebuilt to the same picture
pub record IsAlike (s : Sequence) (whole part : List Picture) (code : ℕ) (payload : List ℕ) (coded : CodedPicture)
    : Type 0 where
  pub read : picture_read code s part payload ≡ Ok coded
  pub same : rebuilt s part coded ≡ rebuilt s whole coded

-- a picture whose references are listed in the part
abbrev pub ClosedPicturesAreAlike : Type 0
ClosedPicturesAreAlike =
    (s : Sequence) (whole part : List Picture) (code : ℕ) (payload : List ℕ) (coded : CodedPicture)
    → IsRestricted whole part
    → picture_read code s whole payload ≡ Ok coded → are_listed part coded.header ≡ true
    → IsAlike s whole part code payload coded

-- what is read with the list of a part is read with the list of the whole, and its references are of the part
pub record IsReadInBoth (s : Sequence) (whole part : List Picture) (code : ℕ) (payload : List ℕ) (coded : CodedPicture)
    : Type 0 where
  pub read : picture_read code s whole payload ≡ Ok coded
  pub closed : are_listed part coded.header ≡ true
  pub same : rebuilt s part coded ≡ rebuilt s whole coded

abbrev pub PicturesOfPartsAreOfTheWhole : Type 0
PicturesOfPartsAreOfTheWhole =
    (s : Sequence) (whole part : List Picture) (code : ℕ) (payload : List ℕ) (coded : CodedPicture)
    → IsRestricted whole part
    → picture_read code s part payload ≡ Ok coded → IsReadInBoth s whole part code payload coded
