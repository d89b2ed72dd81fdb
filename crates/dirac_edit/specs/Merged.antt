-- Sequences joined as they are written, one behind another.
-- Inner: for the proofs of this crate.
use Rattle.std.specs.Prelude.{ℕ, ◌+◌, ◌-◌, ◌%◌, ◌^◌, max, nat_le, ◌&&◌, if◌then◌else◌, Bool, List, [], ◌∷◌, ◌++◌}
use Rattle.std.specs.Prelude.{length, drop, map, Option, None, Some}
use Rattle.std.specs.Int.{to_be_bytes, w32}
use borrow.Author.Differences.{up, down}
use Rattle.dirac_common.specs.declared.codes.TheConstants.{SEQUENCE_HEADER}
use Rattle.dirac_content.specs.StreamState.{is_same}
use Rattle.dirac_encode_laws.specs.Stream.{end_unit, unit}
use Rattle.dirac_edit_laws.specs.Joined.{Keyed, first_number, keyed_from, number_in_payload}
use Rattle.dirac_edit_laws.specs.Texts.{PictureText, SequenceText}
use Rattle.dirac_edit.specs.declared.keys.Keys.{Keys}

-- the greatest key above 0, or 0
unfoldable pub above : List Keyed → ℕ
above [] = 0
above (k ∷ keyed) = max (up k.key) (above keyed)

-- how far the least key below 0 is below it, or 0
unfoldable pub below : List Keyed → ℕ
below [] = 0
below (k ∷ keyed) = max (down k.key) (below keyed)

-- where the keys of these pictures lie
abbrev pub keys_among : List PictureText → Keys
keys_among pictures = record {
  first = first_number pictures;
  above = above (map (keyed_from (first_number pictures)) pictures);
  below = below (map (keyed_from (first_number pictures)) pictures);
}

-- what a later sequence is compared with: the header of the sequence that was written last, its first number and its
-- greatest key
pub record Latest : Type 0 where
  pub header : List ℕ
  pub first : ℕ
  pub high : ℕ

-- how far the keys of a later sequence are moved: the least of them comes right behind the greatest of the latest
-- sequence
abbrev pub shift_onto : Latest → Keys → ℕ
shift_onto l k = l.high + 1 + k.below

-- a later sequence with this header and these keys may be appended to the latest one: their headers are equal, and
-- there is room for its moved keys
abbrev pub may_follow : Latest → List ℕ → Keys → Bool
may_follow l header k = is_same header l.header && nat_le (shift_onto l k + k.above) (2 ^ 31 - 1)

-- how far the numbers of a later sequence's pictures are moved, modulo 2 ^ 32
abbrev pub way_onto : Latest → Keys → ℕ
way_onto l k = ((l.first + shift_onto l k) % 2 ^ 32 + (2 ^ 32 - k.first)) % 2 ^ 32

-- a picture whose number is moved so far
abbrev pub moved_on : ℕ → PictureText → PictureText
moved_on way p =
    record p { payload = to_be_bytes w32 ((number_in_payload p.payload + way) % 2 ^ 32) ++ drop 4 p.payload }

-- the units of pictures behind a unit of this length
unfoldable pub units_behind : ℕ → List PictureText → List ℕ
units_behind previous [] = []
units_behind previous (p ∷ pictures) =
    unit p.code previous p.payload ++ units_behind (13 + length p.payload) pictures

-- the length of the last unit of pictures behind a unit of this length
unfoldable pub length_behind : ℕ → List PictureText → ℕ
length_behind previous [] = previous
length_behind previous (p ∷ pictures) = length_behind (13 + length p.payload) pictures

-- the units of a sequence with its own header, behind a unit of this length, up to its end unit
abbrev pub own_bytes : ℕ → SequenceText → List ℕ
own_bytes previous s =
    unit SEQUENCE_HEADER previous s.header ++ units_behind (13 + length s.header) (map (moved_on 0) s.pictures)

-- the length of the last unit of a sequence with its own header, before its end unit
abbrev pub own_length : SequenceText → ℕ
own_length s = length_behind (13 + length s.header) (map (moved_on 0) s.pictures)

-- how far the writing is: the sequence that was written last, and the length of the last unit
pub record WritingProgress : Type 0 where
  pub latest : Option Latest
  pub previous : ℕ

-- what is written of a sequence, and how far the writing is behind it
pub record Added : Type 0 where
  pub bytes : List ℕ
  pub latest : Latest
  pub previous : ℕ

-- what is written of a sequence with its own header, behind these bytes
abbrev pub own_sequence : List ℕ → ℕ → SequenceText → Keys → Added
own_sequence before previous s k = record {
  bytes = before ++ own_bytes previous s;
  latest = record { header = s.header; first = k.first; high = k.above };
  previous = own_length s;
}

-- what is written of a sequence that is appended to the latest one
abbrev pub onto : Latest → ℕ → SequenceText → Keys → Added
onto l previous s k = record {
  bytes = units_behind previous (map (moved_on (way_onto l k)) s.pictures);
  latest = record { header = l.header; first = l.first; high = shift_onto l k + k.above };
  previous = length_behind previous (map (moved_on (way_onto l k)) s.pictures);
}

-- what is written of a sequence behind the latest one; with its own header it stands behind the end unit of the latest
-- one, of 13 bytes
abbrev pub added_behind : Option Latest → ℕ → SequenceText → Keys → Added
added_behind None previous s k = own_sequence [] previous s k
added_behind (Some l) previous s k =
    if may_follow l s.header k then onto l previous s k else own_sequence (end_unit previous) 13 s k

-- what is written of a sequence, where the writing is so far
abbrev pub added : WritingProgress → SequenceText → Added
added p s = added_behind p.latest p.previous s (keys_among s.pictures)

-- how far the writing is behind a sequence
abbrev pub progress_behind : WritingProgress → SequenceText → WritingProgress
progress_behind p s = record { latest = Some (added p s).latest; previous = (added p s).previous }
