-- The pictures of a sequence as a decoder of all of it rebuilds them, and the order in which it shows them.
use Rattle.std.specs.Prelude.{◌≡◌, ℕ, List, [], ◌∷◌, map, Result, Ok, Err}
use Rattle.std.specs.List.{flat_map}
use Rattle.dirac_common.specs.declared.faults.Refusal.{Refusal}
use Rattle.dirac_common.specs.declared.picture.Picture.{Picture}
use Rattle.dirac_sequence_header.specs.declared.sequence.Sequence.{Sequence}
use Rattle.dirac_sequence_header.specs.Grammar.{sequence_read}
use Rattle.dirac_refs.specs.declared.waiting.Waiting.{Waiting}
use Rattle.dirac_refs.specs.Delivery.{in_delivery_order, key_of}
use Rattle.dirac_refs.specs.References.{as_reference, committed}
use Rattle.dirac_picture.specs.declared.coded.CodedPicture.{CodedPicture}
use Rattle.dirac_picture.specs.Grammar.{picture_read}
use Rattle.dirac_content.specs.Content.{rebuilt}
use Rattle.dirac_edit_laws.specs.Texts.{PictureText, SequenceText}

-- a picture's unit, the coded picture that it reads to, and the picture that this is rebuilt to
pub record RebuiltText : Type 0 where
  pub text : PictureText
  pub coded : CodedPicture
  pub picture : Picture

-- a coded picture of this sequence, rebuilt with these pictures listed
abbrev pub rebuilt_text : Sequence → List Picture → PictureText → CodedPicture → RebuiltText
rebuilt_text s list p coded = record { text = p; coded = coded; picture = rebuilt s list coded }

-- the list behind it
abbrev pub list_behind : List Picture → RebuiltText → List Picture
list_behind list r = committed list r.coded.header.retire (as_reference r.coded.code r.picture)

-- a picture that was read, and those behind it
abbrev pub rebuilt_on : Sequence → List Picture → PictureText → (List Picture → List RebuiltText)
    → Result CodedPicture Refusal → List RebuiltText
rebuilt_on s list p rest (Ok coded) =
    let r = rebuilt_text s list p coded in
    r ∷ rest (list_behind list r)
rebuilt_on s list p rest (Err refusal) = []

-- these pictures, with these listed before the first; one that is refused ends them
unfoldable pub rebuilt_from : Sequence → List Picture → List PictureText → List RebuiltText
rebuilt_from s list [] = []
rebuilt_from s list (p ∷ pictures) =
    rebuilt_on s list p (λ next. rebuilt_from s next pictures) (picture_read p.code s list p.payload)

-- the pictures of the sequence whose header was read
abbrev pub rebuilt_behind : List PictureText → Result Sequence Refusal → List RebuiltText
rebuilt_behind pictures (Ok s) = rebuilt_from s [] pictures
rebuilt_behind pictures (Err refusal) = []

-- the pictures of a sequence, in coding order
unfoldable pub rebuilt_of : SequenceText → List RebuiltText
rebuilt_of s = rebuilt_behind s.pictures (sequence_read s.header)

-- the picture alone
abbrev pub rebuilt_picture : RebuiltText → Picture
rebuilt_picture r = r.picture

-- a picture with its key, counted from this number
abbrev pub waiting_from : ℕ → Picture → Waiting
waiting_from first p = record { key = key_of first p.number; picture = p }

-- pictures in coding order with their keys, which count from the first one's number
abbrev pub with_keys : List Picture → List Waiting
with_keys [] = []
with_keys (p ∷ pictures) = map (waiting_from p.number) (p ∷ pictures)

-- pictures of a sequence, in the order of delivery
abbrev pub in_order : List Picture → List Picture
in_order pictures = in_delivery_order (with_keys pictures)

-- what a sequence shows
abbrev pub sequence_shown : SequenceText → List Picture
sequence_shown s = in_order (map rebuilt_picture (rebuilt_of s))

-- what sequences show, one after another
abbrev pub all_shown : List SequenceText → List Picture
all_shown sequences = flat_map sequence_shown sequences

-- each of these pictures is read, with these pictures listed before the first
unfoldable pub AreRead : Sequence → List Picture → List PictureText → Type 0
AreRead s list [] = Unit {0}
AreRead s list (p ∷ pictures) =
    (coded : CodedPicture) × (picture_read p.code s list p.payload ≡ Ok coded)
    × AreRead s (list_behind list (rebuilt_text s list p coded)) pictures

-- a sequence whose header and pictures are read
pub record IsRead (t : SequenceText) : Type 0 where
  pub sequence : Sequence
  pub header : sequence_read t.header ≡ Ok sequence
  pub pictures : AreRead sequence [] t.pictures
