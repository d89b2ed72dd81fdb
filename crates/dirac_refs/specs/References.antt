-- The reference pictures of a sequence: a list, oldest first, changed once for each coded picture.
use Rattle.std.specs.Prelude.{ℕ, ◌==◌, nat_le, not, if◌then◌else◌, Bool, true, List, [], ◌∷◌, ◌++◌, Option, None, Some}
use Rattle.std.specs.Prelude.{is_some, length, drop, ◌≤◌}
use Rattle.std.specs.List.{filter}
use Rattle.dirac_common.specs.declared.picture.Picture.{Picture}
use Rattle.dirac_refs.specs.declared.ref_buffer.TheConstants.{MOST_REFERENCES}
use Rattle.dirac_common.specs.Codes.{is_reference}

-- the first listed picture of this number
abbrev pub listed : List Picture → ℕ → Option Picture
listed [] number = None
listed (p ∷ list) number = if p.number == number then Some p else listed list number

-- a reference that a header names is listed
abbrev pub is_listed : List Picture → Option ℕ → Bool
is_listed refs None = true
is_listed refs (Some number) = is_some (listed refs number)

-- a picture, if its code is that of a reference picture
abbrev pub as_reference : ℕ → Picture → Option Picture
as_reference code p = if is_reference code then Some p else None

-- the list without the pictures of this number
abbrev pub without : ℕ → List Picture → List Picture
without number list = filter (λ p. not (p.number == number)) list

-- the list once the retired picture left; where none is retired or none of its number is listed, nothing changes
abbrev pub retire : List Picture → Option ℕ → List Picture
retire list None = list
retire list (Some number) = without number list

-- the list with a picture at its end; where eight are listed the oldest leaves
abbrev pub append : List Picture → Picture → List Picture
append list p = (if nat_le MOST_REFERENCES (length list) then drop 1 list else list) ++ p ∷ []

-- the list with a reference picture, if there is one, at its end, in place of one of its own number
abbrev pub appended : List Picture → Option Picture → List Picture
appended list None = list
appended list (Some p) = append (without p.number list) p

-- the list after a coded picture: what it retires leaves, then it is appended if it is a reference picture
abbrev pub committed : List Picture → Option ℕ → Option Picture → List Picture
committed list retired reference = appended (retire list retired) reference

-- what a coded picture does to the list: the number that it retires, and itself if it is a reference picture
pub record Commit : Type 0 where
  pub retired : Option ℕ
  pub reference : Option Picture

-- the list after these coded pictures, in coding order
abbrev pub refs_from : List Picture → List Commit → List Picture
refs_from list [] = list
refs_from list (c ∷ commits) = refs_from (committed list c.retired c.reference) commits

-- the list of a sequence of which these pictures are coded
abbrev pub refs_of : List Commit → List Picture
refs_of commits = refs_from [] commits

-- the list never has more than eight pictures
abbrev pub RefsAreFew : Type 0
RefsAreFew = (commits : List Commit) → length (refs_of commits) ≤ MOST_REFERENCES
