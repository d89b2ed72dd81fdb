-- Parts that are open, told from the headers of their pictures: a reference is looked for by its number alone.
-- Inner: for the proofs of this crate.
use Rattle.std.specs.Prelude.{ℕ, pos, if◌then◌else◌, List, [], ◌∷◌, Option, None, Some, Result, Ok, Err}
use Rattle.dirac_common.specs.declared.faults.Refusal.{Refusal}
use Rattle.dirac_common.specs.declared.picture.Picture.{Picture}
use Rattle.dirac_common.specs.Table.{Table}
use Rattle.dirac_bits.specs.Answers.{value_of}
use Rattle.dirac_bits.specs.Cursor.{start}
use Rattle.dirac_bits.specs.Syntax.{read}
use Rattle.dirac_header.specs.declared.header.PictureHeader.{PictureHeader}
use Rattle.dirac_header.specs.Header.{header}
use Rattle.dirac_refs.specs.References.{as_reference, committed}
use Rattle.dirac_picture.specs.Grammar.{are_listed}
use Rattle.dirac_edit_laws.specs.Cut.{first_answer}
use Rattle.dirac_edit_laws.specs.Texts.{PictureText, SequenceText}

-- the header that the payload of a picture begins with
abbrev pub header_in : PictureText → Result PictureHeader Refusal
header_in p = value_of (read (header p.code) (start p.payload))

-- one sample
abbrev pub dot : Table
dot = record { width = 1; height = 1; values = pos 0 ∷ [] }

-- a picture of this number, which is all that a list of references is asked for here
abbrev pub numbered : ℕ → Picture
numbered number = record { number = number; y = dot; u = dot; v = dot }

-- the list of references behind a picture with this header; none where one that it names isn't listed
abbrev pub list_behind_header : List Picture → ℕ → Result PictureHeader Refusal → Option (List Picture)
list_behind_header list code (Ok head) =
    if are_listed list head then Some (committed list head.retire (as_reference code (numbered head.number))) else None
list_behind_header list code (Err refusal) = Some list

-- the index of an open unit, or what is behind it
abbrev pub open_or : ℕ → (List Picture → Option ℕ) → Option (List Picture) → Option ℕ
open_or index next None = Some index
open_or index next (Some list) = next list

-- the first of these pictures that has a reference which isn't listed behind those before it; these are listed at first
unfoldable pub first_open : List Picture → List PictureText → Option ℕ
first_open list [] = None
first_open list (p ∷ pictures) =
    open_or p.index (λ next. first_open next pictures) (list_behind_header list p.code (header_in p))

-- the first one of sequences; in each nothing is listed before its first picture
unfoldable pub first_open_among : List SequenceText → Option ℕ
first_open_among [] = None
first_open_among (s ∷ sequences) = first_answer (first_open [] s.pictures) (first_open_among sequences)
