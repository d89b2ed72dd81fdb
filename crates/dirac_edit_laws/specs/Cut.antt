-- A part of a stream, from one point up to another, as a stream of its own.
use Rattle.std.specs.Prelude.{ℕ, nat_le, nat_lt, ◌&&◌, ◌||◌, if◌then◌else◌, Bool, List, [], ◌∷◌, map, Option, None}
use Rattle.std.specs.Prelude.{Some}
use Rattle.std.specs.List.{filter, flat_map}
use Rattle.dirac_common.specs.declared.picture.Picture.{Picture}
use Rattle.dirac_units.specs.Cut.{UnitText}
use Rattle.dirac_picture.specs.Grammar.{are_listed}
use Rattle.dirac_edit_laws.specs.Texts.{PictureText, SequenceText, sequences, with_pictures}
use Rattle.dirac_edit_laws.specs.Units.{sequences_bytes}
use Rattle.dirac_edit_laws.specs.Rebuilt.{RebuiltText, in_order, list_behind, rebuilt_picture, rebuilt_of}

-- the point up to which is cut: this one, by default the number of points
abbrev pub end_point : Option ℕ → ℕ → ℕ
end_point None points = points
end_point (Some to) points = to

-- a second point that isn't there: at most the first one, or above the number of points
abbrev pub wrong_end : ℕ → Option ℕ → ℕ → Option ℕ
wrong_end from None points = None
wrong_end from (Some to) points = if nat_le to from || nat_lt points to then Some to else None

-- the first of two points that isn't there, among that many: the first must be below their number
abbrev pub wrong_point : ℕ → Option ℕ → ℕ → Option ℕ
wrong_point from to points = if nat_le points from then Some from else wrong_end from to points

-- a picture of the part from point a up to, and without, point b: the last point up to it is one of these
abbrev pub is_between : ℕ → ℕ → PictureText → Bool
is_between a b p = nat_lt a p.points && nat_le p.points b

-- a sequence's pictures that are of the part
abbrev pub restricted : ℕ → ℕ → SequenceText → SequenceText
restricted a b s = record { header = s.header; pictures = filter (is_between a b) s.pictures }

-- the part, sequence by sequence, where it has pictures
abbrev pub part_of : ℕ → ℕ → List UnitText → List SequenceText
part_of a b units = with_pictures (map (restricted a b) (sequences units))

-- the bytes of the cut from point a to point b
abbrev pub cut_bytes : List UnitText → ℕ → ℕ → List ℕ
cut_bytes units a b = sequences_bytes 0 (part_of a b units)

-- the part's pictures of a sequence, as a decoder of all of it rebuilds them
abbrev pub part_rebuilt : ℕ → ℕ → SequenceText → List RebuiltText
part_rebuilt a b s = filter (λ (r : RebuiltText). is_between a b r.text) (rebuilt_of s)

-- what the part of a sequence shows: keys count from its own first picture
abbrev pub part_shown_of : ℕ → ℕ → SequenceText → List Picture
part_shown_of a b s = in_order (map rebuilt_picture (part_rebuilt a b s))

-- what the part shows, sequence by sequence
abbrev pub part_shown : List UnitText → ℕ → ℕ → List Picture
part_shown units a b = flat_map (part_shown_of a b) (sequences units)

-- the unit of the first picture that has a reference which isn't in the list of those before it, with these listed at
-- first
unfoldable pub open_from : List Picture → List RebuiltText → Option ℕ
open_from list [] = None
open_from list (r ∷ rebuilt) =
    if are_listed list r.coded.header then open_from (list_behind list r) rebuilt else Some r.text.index

-- the first answer, else the second
abbrev pub first_answer : Option ℕ → Option ℕ → Option ℕ
first_answer None second = second
first_answer (Some unit) second = Some unit

-- the first such unit of the part; in each sequence nothing is listed before the part's first picture
unfoldable pub open_among : ℕ → ℕ → List SequenceText → Option ℕ
open_among a b [] = None
open_among a b (s ∷ sequences) = first_answer (open_from [] (part_rebuilt a b s)) (open_among a b sequences)

-- the unit at which the cut from point a to point b is open, if there is one
abbrev pub open_cut : List UnitText → ℕ → ℕ → Option ℕ
open_cut units a b = open_among a b (sequences units)
