-- The picture header, field after field: picture header, Dirac specification, section 11.
use Rattle.std.specs.Prelude.{ℕ, ℤ, pos, ◌+ℤ◌, ◌^◌, nat_le, if◌then◌else◌, Bool, Option, Some, None, unsigned_abs}
use Rattle.std.specs.Int.{int_rem_euclid}
use Rattle.std.specs.Ordering.{int_eq}
use Rattle.dirac_bits.specs.Syntax.{Syntax, done, ◌>>=◌, sint, literal, align}
use Rattle.dirac_header.specs.declared.header.PictureHeader.{PictureHeader}
use Rattle.dirac_header.specs.Codes.{is_reference, references_of}

-- the picture number that lies so far from this one, modulo 2 ^ 32
abbrev pub moved_by : ℕ → ℤ → ℕ
moved_by number offset = unsigned_abs (int_rem_euclid (pos number +ℤ offset) (pos (2 ^ 32)))

-- a reference, where the code has it
unfoldable pub reference : Bool → ℕ → Syntax (Option ℕ)
reference there number = if there then (sint >>= λ offset. done (Some (moved_by number offset))) else done None

-- the picture that an offset retires; 0 retires none
abbrev pub retired_by : ℕ → ℤ → Option ℕ
retired_by number offset = if int_eq offset (pos 0) then None else Some (moved_by number offset)

-- the retired picture, which reference pictures name
unfoldable pub retirement : Bool → ℕ → Syntax (Option ℕ)
retirement there number = if there then (sint >>= λ offset. done (retired_by number offset)) else done None

-- the picture header of a picture with this parse code
unfoldable pub header : ℕ → Syntax PictureHeader
header code = do
  aligned ← align
  number ← literal
  first ← reference (nat_le 1 (references_of code)) number
  second ← reference (nat_le 2 (references_of code)) number
  retire ← retirement (is_reference code) number
  done (record { number = number; ref1 = first; ref2 = second; retire = retire })
