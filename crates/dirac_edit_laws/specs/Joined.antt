-- Sequences joined: where keys leave room, one is appended to the one before it, and its pictures get new numbers.
use Rattle.std.specs.Prelude.{ℕ, ℤ, pos, ◌+◌, ◌-◌, ◌%◌, ◌^◌, ◌+ℤ◌, ◌-ℤ◌, int_le, ◌&&◌, if◌then◌else◌, Bool, List, []}
use Rattle.std.specs.Prelude.{◌∷◌, ◌++◌, length, take, drop, map}
use Rattle.std.specs.Int.{cast_unsigned, from_be_bytes, int_max, int_min, to_be_bytes, w32}
use Rattle.dirac_common.specs.declared.codes.TheConstants.{SEQUENCE_HEADER}
use Rattle.dirac_units.specs.Cut.{UnitText}
use Rattle.dirac_refs.specs.Delivery.{key_of}
use Rattle.dirac_content.specs.StreamState.{is_same}
use Rattle.dirac_encode_laws.specs.Stream.{end_unit, unit}
use Rattle.dirac_edit_laws.specs.Texts.{PictureText, SequenceText, sequences, with_pictures}
use Rattle.dirac_edit_laws.specs.Units.{sequences_bytes}

-- the number that a picture's payload begins with
abbrev pub number_in_payload : List ℕ → ℕ
number_in_payload payload = from_be_bytes w32 (take 4 payload)

-- a picture with its key
pub record Keyed : Type 0 where
  pub key : ℤ
  pub picture : PictureText

-- a sequence by its header, the number of its first picture, and its pictures with their keys
pub record Group : Type 0 where
  pub header : List ℕ
  pub first : ℕ
  pub pictures : List Keyed

-- a picture with its key, counted from this number
abbrev pub keyed_from : ℕ → PictureText → Keyed
keyed_from first p = record { key = key_of first (number_in_payload p.payload); picture = p }

-- the number of the first picture
abbrev pub first_number : List PictureText → ℕ
first_number [] = 0
first_number (p ∷ pictures) = number_in_payload p.payload

-- a sequence of its own
abbrev pub group_of : SequenceText → Group
group_of s = record {
  header = s.header;
  first = first_number s.pictures;
  pictures = map (keyed_from (first_number s.pictures)) s.pictures;
}

-- the greatest and the least key; each sequence's first picture has key 0, so none of them is beyond 0
abbrev pub high : List Keyed → ℤ
high [] = pos 0
high (k ∷ pictures) = int_max k.key (high pictures)

abbrev pub low : List Keyed → ℤ
low [] = pos 0
low (k ∷ pictures) = int_min k.key (low pictures)

-- how far the later keys are moved: the least of them comes right behind the greatest of the former ones
abbrev pub shift : Group → Group → ℤ
shift former later = (high former.pictures +ℤ pos 1) -ℤ low later.pictures

-- equal header payloads, and no key passes 2 ^ 31 - 1
abbrev pub may_merge : Group → Group → Bool
may_merge former later =
    is_same later.header former.header
    && int_le (shift former later +ℤ high later.pictures) (pos (2 ^ 31 - 1))

-- a key moved by this much
abbrev pub moved_key : ℤ → Keyed → Keyed
moved_key by k = record { key = k.key +ℤ by; picture = k.picture }

-- the later sequence appended to the former
abbrev pub merged : Group → Group → Group
merged former later = record {
  header = former.header;
  first = former.first;
  pictures = former.pictures ++ map (moved_key (shift former later)) later.pictures;
}

-- each sequence may be merged with the one before it, which may itself be merged
unfoldable pub groups_behind : Group → List Group → List Group
groups_behind now [] = now ∷ []
groups_behind now (g ∷ groups) =
    if may_merge now g then groups_behind (merged now g) groups else now ∷ groups_behind g groups

abbrev pub groups_of : List Group → List Group
groups_of [] = []
groups_of (g ∷ groups) = groups_behind g groups

-- the number of a key: the first number plus the key, modulo 2 ^ 32
abbrev pub new_number : ℕ → ℤ → ℕ
new_number first key = (first + cast_unsigned w32 key) % 2 ^ 32

-- a picture with its new number
abbrev pub renumbered : ℕ → Keyed → PictureText
renumbered first k =
    record k.picture { payload = to_be_bytes w32 (new_number first k.key) ++ drop 4 k.picture.payload }

-- a sequence with its new numbers
abbrev pub renumbered_text : Group → SequenceText
renumbered_text g = record { header = g.header; pictures = map (renumbered g.first) g.pictures }

-- the sequences that these become
abbrev pub joined_sequences : List SequenceText → List SequenceText
joined_sequences sequences = map renumbered_text (groups_of (map group_of (with_pictures sequences)))

-- where no sequence has a picture: the first header and an end unit, or an end unit alone
abbrev pub bare : List SequenceText → List ℕ
bare [] = end_unit 0
bare (s ∷ sequences) = unit SEQUENCE_HEADER 0 s.header ++ end_unit (13 + length s.header)

-- the bytes of joined sequences; where there are none, those of a stream without pictures
abbrev pub bytes_or_bare : List SequenceText → List SequenceText → List ℕ
bytes_or_bare all [] = bare all
bytes_or_bare all (s ∷ sequences) = sequences_bytes 0 (s ∷ sequences)

-- the bytes of a stream whose sequences are joined
abbrev pub joined_bytes : List UnitText → List ℕ
joined_bytes units = bytes_or_bare (sequences units) (joined_sequences (sequences units))
