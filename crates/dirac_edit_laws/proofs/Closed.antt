-- A closed part shows the pictures of the whole.
use Rattle.std.proofs.Common.{◌≡◌, ◌≤◌, if◌then◌else◌, true, false, List, [], ◌∷◌, None, Some, Ok, length, refl, sym, ◌∙◌, ap, subst}
use Rattle.dirac_common.specs.declared.picture.Picture.{Picture}
use Rattle.dirac_sequence_header.specs.declared.sequence.Sequence.{Sequence}
use Rattle.dirac_refs.specs.References.{as_reference}
use Rattle.dirac_refs.proofs.Listed.{few_committed}
use Rattle.dirac_picture.specs.declared.coded.CodedPicture.{CodedPicture}
use Rattle.dirac_picture.specs.Grammar.{are_listed, picture_read}
use Rattle.dirac_content.specs.Content.{rebuilt}
use Rattle.dirac_edit_laws.specs.Alike.{IsAlike}
use Rattle.dirac_edit_laws.specs.Cut.{open_from}
use Rattle.dirac_edit_laws.specs.Laws.{ClosedPartsShowTheWhole, PartsBeginAnywhere}
use Rattle.dirac_edit_laws.specs.Rebuilt.{AreRead, RebuiltText, list_behind, rebuilt_from, rebuilt_on, rebuilt_text}
use Rattle.dirac_edit_laws.specs.Restricted.{IsRestricted}
use Rattle.dirac_edit_laws.specs.Texts.{PictureText}
use Rattle.dirac_edit_laws.proofs.Alike.{closed_alike}
use Rattle.dirac_edit_laws.proofs.Restricted.{keeps_committed, none_yet}

-- a picture that was read, and those behind it
pub one_rebuilt : (s : Sequence) (list : List Picture) (p : PictureText) (pictures : List PictureText) (coded : CodedPicture) → picture_read p.code s list p.payload ≡ Ok coded
    → rebuilt_from s list (p ∷ pictures) ≡ rebuilt_text s list p coded ∷ rebuilt_from s (list_behind list (rebuilt_text s list p coded)) pictures
unfolding rebuilt_from
one_rebuilt s list p pictures coded is = ap (rebuilt_on s list p (λ next. rebuilt_from s next pictures)) is

-- a closed list: its first picture's references are listed, and the rest is closed
pub record OpensLater (list : List Picture) (r : RebuiltText) (rebuilt : List RebuiltText) : Type 0 where
  pub closed : are_listed list r.coded.header ≡ true
  pub later : open_from (list_behind list r) rebuilt ≡ None

pub opens_later : (list : List Picture) (r : RebuiltText) (rs : List RebuiltText) → open_from list (r ∷ rs) ≡ None → OpensLater list r rs
unfolding open_from
opens_later list r rs is =
    elim (are_listed list r.coded.header) as (λ b. are_listed list r.coded.header ≡ b → (if b then open_from (list_behind list r) rs else Some r.text.index) ≡ None → OpensLater list r rs) [
      | true ↦ λ e none. record { closed = e; later = none }
      | false ↦ λ e bad. absurd cc
    ] refl is

-- a picture of the part, in the part and in the whole
pub record IsAlikeBehind (s : Sequence) (whole inside : List Picture) (p : PictureText) (coded : CodedPicture) : Type 0 where
  pub read : picture_read p.code s inside p.payload ≡ Ok coded
  pub same : rebuilt_text s inside p coded ≡ rebuilt_text s whole p coded
  pub behind : IsRestricted (list_behind whole (rebuilt_text s whole p coded)) (list_behind inside (rebuilt_text s whole p coded))
  pub few : length (list_behind whole (rebuilt_text s whole p coded)) ≤ 8

pub alike_behind : (s : Sequence) (whole inside : List Picture) (p : PictureText) (coded : CodedPicture) → IsRestricted whole inside → length whole ≤ 8 → picture_read p.code s whole p.payload ≡ Ok coded
    → are_listed inside coded.header ≡ true → IsAlikeBehind s whole inside p coded
alike_behind s whole inside p coded r few is closed =
    let alike : IsAlike s whole inside p.code p.payload coded = closed_alike s whole inside p.code p.payload coded r is closed in
    let q = rebuilt s whole coded in
    record {
      read = alike.read;
      same = ap (λ (x : Picture). let t : RebuiltText = record { text = p; coded = coded; picture = x } in t) alike.same;
      behind = keeps_committed whole inside coded.header.retire (as_reference coded.code q) r few;
      few = few_committed whole coded.header.retire (as_reference coded.code q) few;
    }

-- one picture more
abbrev with_text : RebuiltText → List RebuiltText → List RebuiltText
with_text r rs = r ∷ rs

pub closed_parts : ClosedPartsShowTheWhole
unfolding AreRead rebuilt_from
closed_parts s [] whole inside r few all closed = (tt, refl)
closed_parts s (p ∷ pictures) whole inside r few all closed =
    let coded = all.0 in
    let one = rebuilt_text s whole p coded in
    let behind = rebuilt_from s (list_behind whole one) pictures in
    let there = one_rebuilt s whole p pictures coded all.1 in
    let opens : OpensLater inside one behind = opens_later inside one behind (ap (open_from inside) (sym there) ∙ closed) in
    let alike : IsAlikeBehind s whole inside p coded = alike_behind s whole inside p coded r few all.1 opens.closed in
    let rest = closed_parts s pictures (list_behind whole one) (list_behind inside one) alike.behind alike.few all.2 opens.later in
    let mine : RebuiltText → List RebuiltText = λ t. t ∷ rebuilt_from s (list_behind inside t) pictures in (
      (coded, alike.read, subst (λ (t : RebuiltText). AreRead s (list_behind inside t) pictures) (sym alike.same) rest.0),
      one_rebuilt s inside p pictures coded alike.read ∙ ap mine alike.same ∙ ap (with_text one) rest.1 ∙ sym there,
    )

pub anywhere : PartsBeginAnywhere
anywhere whole = none_yet whole
