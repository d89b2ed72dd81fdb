-- A header as the standard's table writes it: this field, then that.
use Rattle.std.specs.Prelude.{ℕ, ℤ, Bool, List, nat_le, ◌&&◌, if◌then◌else◌, Result, Ok, Err}
use Rattle.dirac_common.specs.declared.faults.Cause.{Cause}
use Rattle.dirac_common.specs.declared.faults.Refusal.{Refusal}
use Rattle.dirac_common.specs.Chain.{◌>>=◌ as ◌>>◌}
use Rattle.dirac_bits.specs.Cursor.{Cursor, place, aligned}
use Rattle.dirac_bits.specs.Fields.{flag_at, uint_at, sint_at, literal_at, block_read_at}

-- the fields of a header and, behind the last, the value that they spell; which field comes next may depend on those
-- before
pub data Syntax (A : Type 0) : Type 0 where
  done : A → Syntax A
  flag_then : (Bool → Syntax A) → Syntax A
  uint_then : (ℕ → Syntax A) → Syntax A
  sint_then : (ℤ → Syntax A) → Syntax A
  literal_then : (ℕ → Syntax A) → Syntax A
  block_then : ℕ → (List ℕ → Syntax A) → Syntax A
  align_then : Syntax A → Syntax A
  here_then : (ℕ → Syntax A) → Syntax A
  refuse : ℕ → Cause → Syntax A

infixl 10 ◌>>=◌
-- these fields, and then those that their value asks for
abbrev pub ◌>>=◌ : {A B : Type 0} → Syntax A → (A → Syntax B) → Syntax B
(done x) >>= f = f x
(flag_then g) >>= f = flag_then (λ b. g b >>= f)
(uint_then g) >>= f = uint_then (λ n. g n >>= f)
(sint_then g) >>= f = sint_then (λ z. g z >>= f)
(literal_then g) >>= f = literal_then (λ n. g n >>= f)
(block_then len g) >>= f = block_then len (λ bytes. g bytes >>= f)
(align_then s) >>= f = align_then (s >>= f)
(here_then g) >>= f = here_then (λ at. g at >>= f)
(refuse at cause) >>= f = refuse at cause

-- one bit
abbrev pub flag : Syntax Bool
flag = flag_then (λ b. done b)

-- an unsigned number
abbrev pub uint : Syntax ℕ
uint = uint_then (λ n. done n)

-- a signed number
abbrev pub sint : Syntax ℤ
sint = sint_then (λ z. done z)

-- four bytes, most significant first
abbrev pub literal : Syntax ℕ
literal = literal_then (λ n. done n)

-- a block of that many bytes
abbrev pub block : ℕ → Syntax (List ℕ)
block len = block_then len (λ bytes. done bytes)

-- a gap of any bits up to the next byte
abbrev pub align : Syntax (Unit {0})
align = align_then (done tt)

-- no field: the byte of the next bit, at which a rule may be broken
abbrev pub here : Syntax ℕ
here = here_then (λ at. done at)

-- the header's value and the place behind it, or the first field that breaks a rule
abbrev pub read : {A : Type 0} → Syntax A → Cursor → Result (A × Cursor) Refusal
read (done x) c = Ok (x, c)
read (flag_then f) c = flag_at c >> λ b. read (f b.0) b.1
read (uint_then f) c = uint_at c >> λ n. read (f n.0) n.1
read (sint_then f) c = sint_at c >> λ z. read (f z.0) z.1
read (literal_then f) c = literal_at c >> λ n. read (f n.0) n.1
read (block_then len f) c = block_read_at len c >> λ bytes. read (f bytes.0) bytes.1
read (align_then s) c = read s (aligned c)
read (here_then f) c = read (f (place c)) c
read (refuse at cause) c = Err (record { at = at; cause = cause })

-- a number that this rule allows; else it is refused at its first bit
abbrev pub number_field : Cause → (ℕ → Bool) → Syntax ℕ
number_field cause allows = do
  at ← here
  n ← uint
  if allows n then done n else refuse at cause

-- from the first number to the second
abbrev pub between : ℕ → ℕ → ℕ → Bool
between low high n = nat_le low n && nat_le n high

-- these fields behind a custom flag; without it the default
abbrev pub custom : {A : Type 0} → A → Syntax A → Syntax A
custom default s = do
  own ← flag
  if own then s else done default
