-- The payload of a picture whose numbers are moved on.
use Rattle.std.specs.Prelude.{◌≡◌, ℕ, ◌+◌, ◌++◌, drop, option_map}
use Rattle.std.specs.Int.{to_be_bytes, w32}
use Rattle.dirac_sequence_header.specs.declared.sequence.Sequence.{Sequence}
use Rattle.dirac_header.specs.declared.header.PictureHeader.{PictureHeader}
use Rattle.dirac_header.specs.Written.{NumbersHave32Bits}
use Rattle.dirac_picture.specs.declared.coded.CodedPicture.{CodedPicture}
use Rattle.dirac_picture.specs.Written.{payload_by}

-- a header whose numbers are moved on by so much
abbrev pub header_behind : ℕ → PictureHeader → PictureHeader
header_behind by h = record {
  number = h.number + by;
  ref1 = option_map (λ n. n + by) h.ref1;
  ref2 = option_map (λ n. n + by) h.ref2;
  retire = option_map (λ n. n + by) h.retire;
}

-- a coded picture with such a header
abbrev pub coded_behind : ℕ → CodedPicture → CodedPicture
coded_behind by c =
    record { code = c.code; header = header_behind by c.header; motion = c.motion; residual = c.residual }

-- its payload has another number in its first four bytes, and is else the same
abbrev pub PayloadsKeepAllButNumbers : Type 0
PayloadsKeepAllButNumbers =
    (s : Sequence) (index precision by : ℕ) (c : CodedPicture) → NumbersHave32Bits (header_behind by c.header)
    → payload_by s index precision (coded_behind by c)
    ≡ to_be_bytes w32 (c.header.number + by) ++ drop 4 (payload_by s index precision c)
