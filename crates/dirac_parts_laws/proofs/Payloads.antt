-- The payload of a picture whose numbers are moved on: another number first, and all else stays.
use Rattle.std.proofs.Common.{◌≡◌, ◌<◌, ◌+◌, ◌-◌, ◌/◌, ◌%◌, ◌^◌, if◌then◌else◌, Bool, true, false, ℕ, ℤ, suc, List, [], ◌∷◌, ◌++◌, length, drop, Option, None, Some, option_map, refl, sym, ◌∙◌, ap, ap₂, subst, arith, append_assoc, length-append}
use Rattle.std.specs.Prelude.{replicate}
use Rattle.std.specs.Int.{to_be_bytes, w32}
use Rattle.dirac_common.specs.Bits.{bits_of, byte_bits, number_from}
use Rattle.dirac_common.specs.Bytes.{bytes_in, bytes_of}
use Rattle.dirac_common.specs.Numbers as numbers
use Rattle.dirac_common.specs.Numbers.{literal, uint}
use Rattle.dirac_arith.specs.Interval.{Decision}
use Rattle.dirac_arith.specs.Written.{flush}
use Rattle.dirac_bits.specs.Writing.{gap, up_to_byte}
use Rattle.dirac_bits.proofs.Literals.{number_from-byte}
use Rattle.dirac_sequence_header.specs.declared.sequence.Sequence.{Sequence}
use Rattle.dirac_sequence_header.specs.Sizes.{picture_height}
use Rattle.dirac_header.specs.declared.header.PictureHeader.{PictureHeader}
use Rattle.dirac_parameters.specs.declared.transform.Transform.{Transform}
use Rattle.dirac_header.specs.Codes.{is_reference}
use Rattle.dirac_header.specs.Written.{centred, header_bits, offset_to, prediction_bits, reference_bits, retired_offset, retirement_bits, transform_bits}
use Rattle.dirac_blocks.specs.Decisions.{block_decisions, least_numbers}
use Rattle.dirac_block_table.specs.Tables.{BlockTable}
use Rattle.dirac_blocks.specs.Written.{with_lists}
use Rattle.dirac_coeffs.specs.declared.layout.BandLayout.{BandLayout}
use Rattle.dirac_coeffs.specs.declared.layout.CodedBand.{CodedBand}
use Rattle.dirac_coeffs.specs.Written.{block_of, is_zero_band, with_band}
use Rattle.dirac_picture.specs.declared.coded.CodedMotion.{CodedMotion}
use Rattle.dirac_picture.specs.declared.coded.CodedPicture.{CodedPicture}
use Rattle.dirac_picture.specs.declared.coded.CodedResidual.{CodedResidual}
use Rattle.dirac_picture.specs.Bands.{layout_of, parent_values}
use Rattle.dirac_picture.specs.Grammar.{chroma_height, chroma_width, is_intra}
use Rattle.dirac_picture.specs.Written.{payload_by, with_bands, with_coded, with_coefficients, with_flag, with_motion_by, with_residual, with_table}
use Rattle.dirac_parts_laws.specs.Payloads.{PayloadsKeepAllButNumbers, coded_behind, header_behind}

-- ---- runs of bits that begin with other bits and go on alike

record GoAlike (x y xs ys : List Bool) : Type 0 where
  pub rest : List Bool
  pub first : xs ≡ x ++ rest
  pub second : ys ≡ y ++ rest

-- their fronts have one length
abbrev AreLong : List Bool → List Bool → Type 0
AreLong x y = length x ≡ length y

same_length : (x y xs ys : List Bool) → AreLong x y → GoAlike x y xs ys → length xs ≡ length ys
same_length x y xs ys long a =
    ap length a.first ∙ length-append x a.rest ∙ ap (λ n. n + length a.rest) long ∙ sym (length-append y a.rest) ∙ sym (ap length a.second)

on : (x y xs ys z : List Bool) → GoAlike x y xs ys → GoAlike x y (xs ++ z) (ys ++ z)
on x y xs ys z a = record {
  rest = a.rest ++ z;
  first = ap (λ l. l ++ z) a.first ∙ append_assoc x a.rest z;
  second = ap (λ l. l ++ z) a.second ∙ append_assoc y a.rest z;
}

gaps : (x y xs ys : List Bool) → AreLong x y → GoAlike x y xs ys → gap xs ≡ gap ys
gaps x y xs ys long a = ap (λ n. replicate ((8 - n % 8) % 8) false) (same_length x y xs ys long a)

to_byte : (x y xs ys : List Bool) → AreLong x y → GoAlike x y xs ys → GoAlike x y (up_to_byte xs) (up_to_byte ys)
to_byte x y xs ys long a =
    subst (λ (g : List Bool). GoAlike x y (xs ++ gap xs) (ys ++ g)) (gaps x y xs ys long a) (on x y xs ys (gap xs) a)

-- with bits behind them that a gap begins
behind_gap : (x y xs ys : List Bool) (f : List Bool → List Bool) → AreLong x y → GoAlike x y xs ys → GoAlike x y (xs ++ f (gap xs)) (ys ++ f (gap ys))
behind_gap x y xs ys f long a =
    subst (λ (g : List Bool). GoAlike x y (xs ++ f (gap xs)) (ys ++ f g)) (gaps x y xs ys long a) (on x y xs ys (f (gap xs)) a)

-- ---- what is written behind them

lists_on : (ds : List (List Decision)) (x y xs ys : List Bool) → AreLong x y → GoAlike x y xs ys → GoAlike x y (with_lists ds xs) (with_lists ds ys)
lists_on [] x y xs ys long a = a
lists_on (d ∷ ds) x y xs ys long a =
    let block = flush d in
    let n = uint (length block) in
    let here = to_byte x y (xs ++ n) (ys ++ n) long (on x y xs ys n a) in
    lists_on ds x y (up_to_byte (xs ++ n) ++ bits_of block) (up_to_byte (ys ++ n) ++ bits_of block) long (on x y (up_to_byte (xs ++ n)) (up_to_byte (ys ++ n)) (bits_of block) here)

band_on : (layout : BandLayout) (parent : List ℤ) (b : CodedBand) (x y xs ys : List Bool) → AreLong x y → GoAlike x y xs ys → GoAlike x y (with_band layout parent b xs) (with_band layout parent b ys)
band_on layout parent b x y xs ys long a =
    let begin = to_byte x y xs ys long a in
    let block = block_of layout parent b.index b.table.values b.indices in
    let n = uint (length block) in
    let i = uint b.index in
    let us = up_to_byte xs in
    let vs = up_to_byte ys in
    elim (is_zero_band b.table.values) as (λ z. GoAlike x y (if z then us ++ uint 0 else up_to_byte ((us ++ n) ++ i) ++ bits_of block) (if z then vs ++ uint 0 else up_to_byte ((vs ++ n) ++ i) ++ bits_of block)) [
      | true ↦ on x y us vs (uint 0) begin
      | false ↦
          let front = on x y (us ++ n) (vs ++ n) i (on x y us vs n begin) in
          on x y (up_to_byte ((us ++ n) ++ i)) (up_to_byte ((vs ++ n) ++ i)) (bits_of block) (to_byte x y ((us ++ n) ++ i) ((vs ++ n) ++ i) long front)
    ]

bands_on : (bands : List CodedBand) (t : Transform) (width height : ℕ) (before : List CodedBand) (x y xs ys : List Bool) → AreLong x y → GoAlike x y xs ys → GoAlike x y (with_bands t width height before bands xs) (with_bands t width height before bands ys)
bands_on [] t width height before x y xs ys long a = a
bands_on (b ∷ bands) t width height before x y xs ys long a =
    let layout = layout_of t width height (length before) in
    let parent = parent_values before in
    bands_on bands t width height (before ++ b ∷ []) x y (with_band layout parent b xs) (with_band layout parent b ys) long (band_on layout parent b x y xs ys long a)

residual_on : (s : Sequence) (r : CodedResidual) (x y xs ys : List Bool) → AreLong x y → GoAlike x y xs ys → GoAlike x y (with_residual s r xs) (with_residual s r ys)
residual_on s r x y xs ys long a =
    let t = r.transform in
    let w = chroma_width s in
    let h = chroma_height s in
    let us = xs ++ transform_bits t in
    let vs = ys ++ transform_bits t in
    let first = bands_on r.y t s.width (picture_height s) [] x y us vs long (on x y xs ys (transform_bits t) a) in
    let us' = with_bands t s.width (picture_height s) [] r.y us in
    let vs' = with_bands t s.width (picture_height s) [] r.y vs in
    let second = bands_on r.u t w h [] x y us' vs' long first in
    bands_on r.v t w h [] x y (with_bands t w h [] r.u us') (with_bands t w h [] r.u vs') long second

flag_on : (code : ℕ) (none : Bool) (x y xs ys : List Bool) → GoAlike x y xs ys → GoAlike x y (with_flag code none xs) (with_flag code none ys)
flag_on code none x y xs ys a =
    elim (is_intra code) as (λ b. GoAlike x y (if b then xs else xs ++ none ∷ []) (if b then ys else ys ++ none ∷ [])) [
      | true ↦ a
      | false ↦ on x y xs ys (none ∷ []) a
    ]

coefficients_on : (s : Sequence) (code : ℕ) (r : Option CodedResidual) (x y xs ys : List Bool) → AreLong x y → GoAlike x y xs ys → GoAlike x y (with_coefficients s code r xs) (with_coefficients s code r ys)
coefficients_on s code None x y xs ys long a = flag_on code true x y xs ys a
coefficients_on s code (Some r) x y xs ys long a = residual_on s r x y (with_flag code false xs) (with_flag code false ys) long (flag_on code false x y xs ys a)

prediction_on : (index precision : ℕ) (x y xs ys : List Bool) → AreLong x y → GoAlike x y xs ys → GoAlike x y (xs ++ prediction_bits xs index precision) (ys ++ prediction_bits ys index precision)
prediction_on index precision x y xs ys long a =
    behind_gap x y xs ys (λ g. g ++ numbers.uint index ++ numbers.uint precision ++ (false ∷ []) ++ numbers.uint 0 ++ (false ∷ [])) long a

table_on : (index precision : ℕ) (table : BlockTable) (x y xs ys : List Bool) → AreLong x y → GoAlike x y xs ys → GoAlike x y (with_table index precision table xs) (with_table index precision table ys)
table_on index precision table x y xs ys long a =
    let us = xs ++ prediction_bits xs index precision in
    let vs = ys ++ prediction_bits ys index precision in
    lists_on (block_decisions table (least_numbers table)) x y (up_to_byte us) (up_to_byte vs) long (to_byte x y us vs long (prediction_on index precision x y xs ys long a))

motion_on : (index precision : ℕ) (m : Option CodedMotion) (x y xs ys : List Bool) → AreLong x y → GoAlike x y xs ys → GoAlike x y (with_motion_by index precision m xs) (with_motion_by index precision m ys)
motion_on index precision None x y xs ys long a = a
motion_on index precision (Some m) x y xs ys long a = table_on index precision m.blocks x y xs ys long a

-- ---- the header

offset_behind : (by n r : ℕ) → n + by < 2 ^ 32 → offset_to (n + by) (r + by) ≡ offset_to n r
offset_behind by n r small =
    let same : (r + by + (2 ^ 32 - (n + by))) % 2 ^ 32 ≡ (r + (2 ^ 32 - n)) % 2 ^ 32 = omega arith in
    ap centred same

reference_behind : (by n : ℕ) (r : Option ℕ) → n + by < 2 ^ 32 → reference_bits (n + by) (option_map (λ m. m + by) r) ≡ reference_bits n r
reference_behind by n None small = refl
reference_behind by n (Some r) small = ap numbers.sint (offset_behind by n r small)

retired_behind : (by n : ℕ) (r : Option ℕ) → n + by < 2 ^ 32 → retired_offset (n + by) (option_map (λ m. m + by) r) ≡ retired_offset n r
retired_behind by n None small = refl
retired_behind by n (Some r) small = offset_behind by n r small

-- what stands behind a header's number
abbrev behind_number : ℕ → PictureHeader → List Bool
behind_number code h = reference_bits h.number h.ref1 ++ reference_bits h.number h.ref2 ++ retirement_bits (is_reference code) h.number h.retire

header_parts : (code : ℕ) (h : PictureHeader) → header_bits [] code h ≡ literal h.number ++ behind_number code h
header_parts code h =
    let n = literal h.number in
    let first = reference_bits h.number h.ref1 in
    let second = reference_bits h.number h.ref2 in
    let third = retirement_bits (is_reference code) h.number h.retire in
    ap (λ l. l ++ third) (append_assoc n first second) ∙ append_assoc n (first ++ second) third

fields_behind : (by code : ℕ) (h : PictureHeader) → h.number + by < 2 ^ 32 → behind_number code (header_behind by h) ≡ behind_number code h
fields_behind by code h small =
    let n = h.number in
    ap₂ (λ (a b : List Bool). a ++ b ++ retirement_bits (is_reference code) (n + by) (option_map (λ m. m + by) h.retire)) (reference_behind by n h.ref1 small) (reference_behind by n h.ref2 small)
    ∙ ap (λ (z : ℤ). reference_bits n h.ref1 ++ reference_bits n h.ref2 ++ (if is_reference code then numbers.sint z else [])) (retired_behind by n h.retire small)

-- ---- the bytes

byte_again : (b : ℕ) → b < 256 → number_from 0 (byte_bits b []) ≡ b
byte_again b small = number_from-byte 0 b [] small ∙ omega arith

bytes_front : (v : ℕ) (rest : List Bool) → bytes_of (literal v ++ rest) ≡ to_be_bytes w32 v ++ bytes_of rest
unfolding bytes_in
bytes_front v rest =
    let a = v / 16777216 % 256 in
    let b = v / 65536 % 256 in
    let c = v / 256 % 256 in
    let d = v % 256 in
    let count : length (literal v ++ rest) / 8 ≡ suc (suc (suc (suc (length rest / 8)))) = omega (arith, length-append (literal v) rest, (let long : length (literal v) ≡ 32 = refl in long)) in
    let tail = bytes_of rest in
    ap (λ n. bytes_in n (literal v ++ rest)) count
    ∙ ap₂ (λ (p q : ℕ). p ∷ q ∷ number_from 0 (byte_bits c []) ∷ number_from 0 (byte_bits d []) ∷ tail) (byte_again a (omega arith)) (byte_again b (omega arith))
    ∙ ap₂ (λ (p q : ℕ). a ∷ b ∷ p ∷ q ∷ tail) (byte_again c (omega arith)) (byte_again d (omega arith))

-- ---- the law

-- a coded picture's bits, from its number on
abbrev bits_by : Sequence → ℕ → ℕ → CodedPicture → List Bool
bits_by s index precision c = up_to_byte (with_coded s index precision c [])

all_alike : (s : Sequence) (index precision by : ℕ) (c : CodedPicture) → c.header.number + by < 2 ^ 32
    → GoAlike (literal (c.header.number + by)) (literal c.header.number) (bits_by s index precision (coded_behind by c)) (bits_by s index precision c)
all_alike s index precision by c small =
    let n = c.header.number in
    let x = literal (n + by) in
    let y = literal n in
    let long : AreLong x y = refl in
    let fields = behind_number c.code c.header in
    let begin : GoAlike x y (header_bits [] c.code (header_behind by c.header)) (header_bits [] c.code c.header) = record {
      rest = fields;
      first = header_parts c.code (header_behind by c.header) ∙ ap (λ l. x ++ l) (fields_behind by c.code c.header small);
      second = header_parts c.code c.header;
    } in
    let us = header_bits [] c.code (header_behind by c.header) in
    let vs = header_bits [] c.code c.header in
    let us' = with_motion_by index precision c.motion us in
    let vs' = with_motion_by index precision c.motion vs in
    let moves = motion_on index precision c.motion x y us vs long begin in
    let last = coefficients_on s c.code c.residual x y (up_to_byte us') (up_to_byte vs') long (to_byte x y us' vs' long moves) in
    to_byte x y (with_coded s index precision (coded_behind by c) []) (with_coded s index precision c []) long last

-- the bits of a picture behind its own number
own_front : (s : Sequence) (index precision : ℕ) (c : CodedPicture) → GoAlike (literal c.header.number) (literal c.header.number) (bits_by s index precision c) (bits_by s index precision c)
own_front s index precision c =
    let y = literal c.header.number in
    let long : AreLong y y = refl in
    let vs = header_bits [] c.code c.header in
    let begin : GoAlike y y vs vs = record { rest = behind_number c.code c.header; first = header_parts c.code c.header; second = header_parts c.code c.header } in
    let vs' = with_motion_by index precision c.motion vs in
    let moves = motion_on index precision c.motion y y vs vs long begin in
    let last = coefficients_on s c.code c.residual y y (up_to_byte vs') (up_to_byte vs') long (to_byte y y vs' vs' long moves) in
    to_byte y y (with_coded s index precision c []) (with_coded s index precision c []) long last

-- it begins with the picture's number
pub payload_begins : (s : Sequence) (index precision : ℕ) (c : CodedPicture) → payload_by s index precision c ≡ to_be_bytes w32 c.header.number ++ drop 4 (payload_by s index precision c)
unfolding payload_by
payload_begins s index precision c =
    let n = c.header.number in
    let a = own_front s index precision c in
    let here : payload_by s index precision c ≡ to_be_bytes w32 n ++ bytes_of a.rest = ap bytes_of a.second ∙ bytes_front n a.rest in
    here ∙ ap (λ (l : List ℕ). to_be_bytes w32 n ++ drop 4 l) (sym here)

pub payloads_keep : PayloadsKeepAllButNumbers
unfolding payload_by
payloads_keep s index precision by c range =
    let n = c.header.number in
    let a = all_alike s index precision by c range.number in
    let here : payload_by s index precision c ≡ to_be_bytes w32 n ++ bytes_of a.rest = ap bytes_of a.second ∙ bytes_front n a.rest in
    let there : payload_by s index precision (coded_behind by c) ≡ to_be_bytes w32 (n + by) ++ bytes_of a.rest = ap bytes_of a.first ∙ bytes_front (n + by) a.rest in
    there ∙ ap (λ (l : List ℕ). to_be_bytes w32 (n + by) ++ drop 4 l) (sym here)
