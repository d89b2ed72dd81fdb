-- Blocks: bytes one after another.
use Rattle.std.proofs.Common.{◌≡◌, ℕ, zero, suc, ◌+◌, ◌-◌, ◌*◌, ◌<◌, ◌≤◌, ◌^◌, Bool, List, [], ◌∷◌, length, get_or, refl, ap, subst, ◌∙◌, arith, inl, inr, Result, Ok, Err}
use Rattle.std.specs.Prelude.{slice_range}
use Rattle.std.specs.List.{AllByRecursion}
use Rattle.std.proofs.lemmas.Bool.{cases_lt}
use Rattle.std.proofs.lemmas.List.{drop_more}
use Rattle.dirac_common.specs.declared.faults.Cause.{Cause}
use Rattle.dirac_common.specs.declared.faults.Cause.TheVariants.{UnitShort}
use Rattle.dirac_common.specs.Bits.{byte_bits, bits_of, number_from}
use Rattle.dirac_bits.specs.Cursor.{Cursor, skip, bits_left, Passes}
use Rattle.dirac_bits.specs.Fields.{bits_on, bytes_on, from, block_read_at}
use Rattle.dirac_bits.proofs.Passing.{same_answer, length-bits_left, none_passed, passes_none, passes_join, passes_front}
use Rattle.dirac_bits.proofs.Spelled.{from_ok}
use Rattle.dirac_bits.proofs.Literals.{bits_on_spelled, bits_on_read, bits_on_short, number_from-byte, byte_left, next_byte, none_left}

-- a byte of eight bits that are passed
byte_spelled : (b : ℕ) (c m : Cursor) → b < 256 → Passes c (byte_bits b []) m → (bits_on 8 c ≡ Ok (byte_bits b [], m)) × (number_from 0 (byte_bits b []) ≡ b)
byte_spelled b c m below p = (bits_on_spelled (byte_bits b []) c m p, number_from-byte 0 b [] below ∙ omega arith)

bytes_spelled : (bytes : List ℕ) (c d : Cursor) → AllByRecursion (λ b. b < 2 ^ 8) bytes → Passes c (bits_of bytes) d → bytes_on (length bytes) c ≡ Ok (bytes, d)
unfolding bytes_on
bytes_spelled [] c d below p = rw (none_passed c d p) refl
bytes_spelled (b ∷ bytes) c d below p =
    let parts = passes_front (byte_bits b []) (bits_of bytes) c d p in
    let m = skip 8 c in
    let first = byte_spelled b c m below.0 parts.0 in
    rw (first.0, bytes_spelled bytes m d below.1 parts.1, first.1) refl

pub block_spelled : (bytes : List ℕ) (len : ℕ) (c d : Cursor) → length bytes ≡ len → AllByRecursion (λ b. b < 2 ^ 8) bytes → Passes c (bits_of bytes) d → block_read_at len c ≡ Ok (bytes, d)
unfolding block_read_at
block_spelled bytes len c d count below p = rw (← count) (ap (from c) (bytes_spelled bytes c d below p))

-- a block that was read
pub record Block (len : ℕ) (c : Cursor) (bytes : List ℕ) (d : Cursor) : Type 0 where
  pub count : length bytes ≡ len
  pub below : AllByRecursion (λ b. b < 2 ^ 8) bytes
  pub passes : Passes c (bits_of bytes) d

-- eight bits that were read, as a byte
record OneByte (c : Cursor) (bits : List Bool) (m : Cursor) : Type 0 where
  pub below : number_from 0 bits < 256
  pub passes : Passes c (byte_bits (number_from 0 bits) []) m

byte_read : (c : Cursor) (bits : List Bool) (m : Cursor) → bits_on 8 c ≡ Ok (bits, m) → OneByte c bits m
byte_read c bits m e =
    let taken = bits_on_read 8 c bits m e in
    let byte = next_byte 0 bits taken.count in
    let whole : bits ≡ byte_bits byte.byte [] = byte.parts ∙ ap (λ r. byte_bits byte.byte r) (none_left byte.rest byte.count) in
    let number : number_from 0 bits ≡ byte.byte = ap (λ b. number_from 0 b) whole ∙ number_from-byte 0 byte.byte [] byte.below ∙ omega arith in
    record {
      below = omega (arith, byte.below, number);
      passes = rw number (subst (λ (b : List Bool). Passes c b m) whole taken.passes);
    }

more_bytes : (n : ℕ) (bits : List Bool) (c m : Cursor) (bytes : List ℕ) (d : Cursor) (r : Result (List ℕ × Cursor) Cause) → bits_on 8 c ≡ Ok (bits, m) → bytes_on n m ≡ r
    → bytes_on (suc n) c ≡ Ok (bytes, d) → ((xs : List ℕ) (e : Cursor) → bytes_on n m ≡ Ok (xs, e) → Block n m xs e) → Block (suc n) c bytes d
unfolding bytes_on
more_bytes n bits c m bytes d (Ok x) next is whole more =
    let first = byte_read c bits m next in
    let others = more x.0 x.1 is in
    let same = same_answer (number_from 0 bits ∷ x.0) bytes x.1 d (bytes_on (suc n) c) (rw (next, is) refl) whole in
    let here : Block (suc n) c (number_from 0 bits ∷ x.0) x.1 =
    record {
      count = omega (arith, others.count);
      below = (first.below, others.below);
      passes = passes_join (byte_bits (number_from 0 bits) []) (bits_of x.0) c m x.1 first.passes others.passes;
    } in
    subst (λ (y : List ℕ). Block (suc n) c y d) same.0 (subst (λ (e : Cursor). Block (suc n) c (number_from 0 bits ∷ x.0) e) same.1 here)
more_bytes n bits c m bytes d (Err cause) next is whole more =
    let none = rw (next, is) at whole in
    absurd cc

first_byte : (n : ℕ) (c : Cursor) (bytes : List ℕ) (d : Cursor) (r : Result (List Bool × Cursor) Cause) → bits_on 8 c ≡ r
    → bytes_on (suc n) c ≡ Ok (bytes, d) → ((m : Cursor) (xs : List ℕ) (e : Cursor) → bytes_on n m ≡ Ok (xs, e) → Block n m xs e) → Block (suc n) c bytes d
unfolding bytes_on
first_byte n c bytes d (Ok x) is whole more = more_bytes n x.0 c x.1 bytes d (bytes_on n x.1) is refl whole (more x.1)
first_byte n c bytes d (Err cause) is whole more =
    let none = rw is at whole in
    absurd cc

bytes_read : (n : ℕ) (c : Cursor) (bytes : List ℕ) (d : Cursor) → bytes_on n c ≡ Ok (bytes, d) → Block n c bytes d
unfolding bytes_on
bytes_read zero c bytes d e =
    let same = same_answer [] bytes c d (bytes_on 0 c) refl e in
    let here : Block 0 c [] c = record { count = refl; below = tt; passes = passes_none c } in
    subst (λ (y : List ℕ). Block 0 c y d) same.0 (subst (λ (m : Cursor). Block 0 c [] m) same.1 here)
bytes_read (suc n) c bytes d e = first_byte n c bytes d (bits_on 8 c) refl e (λ m. bytes_read n m)

pub block_read : (bytes : List ℕ) (len : ℕ) (c d : Cursor) → block_read_at len c ≡ Ok (bytes, d) → Block len c bytes d
unfolding block_read_at
block_read bytes len c d e = bytes_read len c bytes d (from_ok c (bytes_on len c) bytes d e)

-- ---- blocks of whole bytes

byte_passed : (byte at : ℕ) (bytes : List ℕ) → at ≡ 8 * byte → byte < length bytes
    → let c : Cursor = record { bytes = bytes; at = at } in
    let d : Cursor = record { bytes = bytes; at = at + 8 } in
    Passes c (byte_bits (get_or bytes byte 0) []) d
unfolding bits_left
byte_passed byte at bytes e inside = record { same_bytes = refl; moved = refl; front = byte_left byte at bytes e inside }

-- a range begins with its first item
range_first : (bytes : List ℕ) (byte n : ℕ) → byte < length bytes → slice_range bytes byte (byte + suc n) ≡ get_or bytes byte 0 ∷ slice_range bytes (byte + 1) (byte + 1 + n)
range_first bytes byte n inside =
    let whole : byte + suc n - byte ≡ suc n = omega arith in
    let others : byte + 1 + n - (byte + 1) ≡ n = omega arith in
    rw (whole, others, drop_more bytes byte 0 inside) refl

-- bytes where they are there
pub bytes_are : (n byte at : ℕ) (bytes : List ℕ) → at ≡ 8 * byte → byte + n ≤ length bytes → ((i : ℕ) → get_or bytes i 0 < 256)
    → bytes_on n (record { bytes = bytes; at = at }) ≡ Ok (slice_range bytes byte (byte + n), record { bytes = bytes; at = at + 8 * n })
unfolding bytes_on
bytes_are zero byte at bytes e inside below =
    let none : byte + 0 - byte ≡ 0 = omega arith in
    let same : at + 8 * 0 ≡ at = omega arith in
    rw (none, same) refl
bytes_are (suc n) byte at bytes e inside below =
    let c : Cursor = record { bytes = bytes; at = at } in
    let m : Cursor = record { bytes = bytes; at = at + 8 } in
    let first = byte_spelled (get_or bytes byte 0) c m (below byte) (byte_passed byte at bytes e (omega arith)) in
    let more = bytes_are n (byte + 1) (at + 8) bytes (omega arith) (omega arith) below in
    let last : at + 8 * suc n ≡ at + 8 + 8 * n = omega arith in
    rw (first.0, more, first.1, range_first bytes byte n (omega arith), last) refl

-- and where they aren't
pub bytes_short : (n byte at : ℕ) (bytes : List ℕ) → at ≡ 8 * byte → byte ≤ length bytes → length bytes < byte + n → ((i : ℕ) → get_or bytes i 0 < 256)
    → bytes_on n (record { bytes = bytes; at = at }) ≡ Err UnitShort
unfolding bytes_on
bytes_short zero byte at bytes e inside few below = absurd (omega arith)
bytes_short (suc n) byte at bytes e inside few below =
    let c : Cursor = record { bytes = bytes; at = at } in
    let m : Cursor = record { bytes = bytes; at = at + 8 } in
    elim (cases_lt byte (length bytes)) [
      | inl lt ↦
          let first = byte_spelled (get_or bytes byte 0) c m (below byte) (byte_passed byte at bytes e lt) in
          rw (first.0, bytes_short n (byte + 1) (at + 8) bytes (omega arith) (omega arith) (omega arith) below) refl
      | inr le ↦ rw (bits_on_short 8 c (omega (arith, length-bits_left c))) refl
    ]
