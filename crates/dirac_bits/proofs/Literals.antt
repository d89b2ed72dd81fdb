-- Literals: the bits of four bytes.
use Rattle.std.proofs.Common.{◌≡◌, ℕ, zero, suc, ◌+◌, ◌*◌, ◌/◌, ◌%◌, ◌<◌, ◌≤◌, ◌^◌, ◌==◌, Bool, true, false, List, [], ◌∷◌, length, get_or, drop, refl, sym, ap, subst, ◌∙◌, arith, Result, Ok, Err}
use Rattle.dirac_common.specs.declared.faults.Cause.{Cause}
use Rattle.dirac_common.specs.declared.faults.Cause.TheVariants.{UnitShort}
use Rattle.dirac_common.specs.Bits.{is_bit_set, byte_bits, bits_of, bit_value, number_from}
use Rattle.dirac_common.specs.Numbers.{literal}
use Rattle.dirac_common.specs.Chain.{◌>>=◌}
use Rattle.dirac_bits.specs.Cursor.{Cursor, skip, bits_left, first_bit_of, bit_next, Passes}
use Rattle.dirac_bits.specs.Fields.{bits_on, number_from_bits, literal_on, literal_at}
use Rattle.dirac_bits.proofs.Bits.{drop_byte}
use Rattle.dirac_bits.proofs.Passing.{same_answer, left_behind, length-bits_left, passes_bit, bit_passed, none_passed, passes_none, passes_join}
use Rattle.dirac_bits.proofs.Spelled.{from_ok}

-- ---- so many bits

pub bits_on_spelled : (bits : List Bool) (c d : Cursor) → Passes c bits d → bits_on (length bits) c ≡ Ok (bits, d)
unfolding bits_on
bits_on_spelled [] c d p = rw (none_passed c d p) refl
bits_on_spelled (b ∷ bits) c d p =
    let next = passes_bit b bits c d p in
    rw (next.0, bits_on_spelled bits (skip 1 c) d next.1) refl

-- so many bits that were read
pub record Taken (n : ℕ) (c : Cursor) (bits : List Bool) (d : Cursor) : Type 0 where
  pub count : length bits ≡ n
  pub passes : Passes c bits d

more_cases : (n : ℕ) (b : Bool) (c e : Cursor) (bits : List Bool) (d : Cursor) (r : Result (List Bool × Cursor) Cause) → bit_next c ≡ Ok (b, e) → bits_on n e ≡ r
    → bits_on (suc n) c ≡ Ok (bits, d) → ((xs : List Bool) (m : Cursor) → bits_on n e ≡ Ok (xs, m) → Taken n e xs m) → Taken (suc n) c bits d
unfolding bits_on
more_cases n b c e bits d (Ok x) next is whole more =
    let taken = more x.0 x.1 is in
    let same = same_answer (b ∷ x.0) bits x.1 d (bits_on (suc n) c) (rw (next, is) refl) whole in
    let here : Taken (suc n) c (b ∷ x.0) x.1 =
    record { count = omega (arith, taken.count); passes = passes_join (b ∷ []) x.0 c e x.1 (bit_passed b c e next) taken.passes } in
    subst (λ (y : List Bool). Taken (suc n) c y d) same.0 (subst (λ (m : Cursor). Taken (suc n) c (b ∷ x.0) m) same.1 here)
more_cases n b c e bits d (Err cause) next is whole more =
    let none = rw (next, is) at whole in
    absurd cc

bit_cases : (n : ℕ) (c : Cursor) (bits : List Bool) (d : Cursor) (next : Result (Bool × Cursor) Cause) → bit_next c ≡ next
    → bits_on (suc n) c ≡ Ok (bits, d) → ((e : Cursor) (xs : List Bool) (m : Cursor) → bits_on n e ≡ Ok (xs, m) → Taken n e xs m) → Taken (suc n) c bits d
unfolding bits_on
bit_cases n c bits d (Ok x) is whole more = more_cases n x.0 c x.1 bits d (bits_on n x.1) is refl whole (more x.1)
bit_cases n c bits d (Err cause) is whole more =
    let none = rw is at whole in
    absurd cc

pub bits_on_read : (n : ℕ) (c : Cursor) (bits : List Bool) (d : Cursor) → bits_on n c ≡ Ok (bits, d) → Taken n c bits d
unfolding bits_on
bits_on_read zero c bits d e =
    let same = same_answer [] bits c d (bits_on 0 c) refl e in
    let here : Taken 0 c [] c = record { count = refl; passes = passes_none c } in
    subst (λ (y : List Bool). Taken 0 c y d) same.0 (subst (λ (m : Cursor). Taken 0 c [] m) same.1 here)
bits_on_read (suc n) c bits d e = bit_cases n c bits d (bit_next c) refl e (λ m. bits_on_read n m)

-- too few are left
short_cases : (n : ℕ) (c : Cursor) (left : List Bool) → bits_left c ≡ left → length left < suc n
    → ((e : Cursor) → length (bits_left e) < n → bits_on n e ≡ Err UnitShort) → bits_on (suc n) c ≡ Err UnitShort
unfolding bits_on bit_next
short_cases n c [] is few more =
    let next : bit_next c ≡ Err UnitShort = ap (λ bits. first_bit_of bits c) is in
    rw is refl
short_cases n c (b ∷ left) is few more =
    let behind : bits_left (skip 1 c) ≡ left = left_behind 1 c ∙ ap (λ bits. drop 1 bits) is in
    rw (is, more (skip 1 c) (omega (arith, ap length behind))) refl

pub bits_on_short : (n : ℕ) (c : Cursor) → length (bits_left c) < n → bits_on n c ≡ Err UnitShort
bits_on_short zero c few = absurd (omega arith)
bits_on_short (suc n) c few = short_cases n c (bits_left c) refl few (bits_on_short n)

-- ---- bytes

-- a bit of a byte as a number
bit_value-set : (b i : ℕ) → bit_value (is_bit_set b i) ≡ b / 2 ^ i % 2
bit_value-set b i = rest (b / 2 ^ i % 2) (omega arith) where
  rest : (r : ℕ) → r < 2 → bit_value (r == 1) ≡ r
  rest zero h = refl
  rest (suc zero) h = refl
  rest (suc (suc r)) h = absurd (omega arith)

-- the bits of a byte behind others
pub number_from-byte : (high b : ℕ) (rest : List Bool) → b < 256 → number_from high (byte_bits b rest) ≡ number_from (256 * high + b) rest
number_from-byte high b rest below =
    let v : ℕ → ℕ = λ i. bit_value (is_bit_set b i) in
    let e : 2 * (2 * (2 * (2 * (2 * (2 * (2 * (2 * high + v 7) + v 6) + v 5) + v 4) + v 3) + v 2) + v 1) + v 0 ≡ 256 * high + b =
    omega (arith, bit_value-set b 7, bit_value-set b 6, bit_value-set b 5, bit_value-set b 4, bit_value-set b 3, bit_value-set b 2, bit_value-set b 1, bit_value-set b 0) in
    ap (λ n. number_from n rest) e

-- the bits of the next byte
pub byte_left : (byte at : ℕ) (bytes : List ℕ) → at ≡ 8 * byte → byte < length bytes
    → drop at (bits_of bytes) ≡ byte_bits (get_or bytes byte 0) (drop (at + 8) (bits_of bytes))
byte_left byte at [] e inside = absurd (omega arith)
byte_left zero at (b ∷ bytes) e inside =
    let first : at ≡ 0 = omega arith in
    rw first refl
byte_left (suc byte) at (b ∷ bytes) e inside =
    let rest : 8 * byte ≡ 8 * byte = refl in
    drop_byte at (8 * byte) b bytes (omega arith)
    ∙ byte_left byte (8 * byte) bytes rest (omega arith)
    ∙ ap (λ bits. byte_bits (get_or bytes byte 0) bits) (sym (drop_byte (at + 8) (8 * byte + 8) b bytes (omega arith)))

-- ---- four bytes

-- the number of four bytes
pub four_bytes : (a b c d : ℕ) → a < 256 → b < 256 → c < 256 → d < 256
    → number_from 0 (byte_bits a (byte_bits b (byte_bits c (byte_bits d [])))) ≡ 16777216 * a + 65536 * b + 256 * c + d
four_bytes a b c d below-a below-b below-c below-d =
    number_from-byte 0 a (byte_bits b (byte_bits c (byte_bits d []))) below-a
    ∙ number_from-byte (256 * 0 + a) b (byte_bits c (byte_bits d [])) below-b
    ∙ number_from-byte (256 * (256 * 0 + a) + b) c (byte_bits d []) below-c
    ∙ number_from-byte (256 * (256 * (256 * 0 + a) + b) + c) d [] below-d
    ∙ omega arith

-- the bits of the next four bytes
pub four_left : (byte at : ℕ) (bytes : List ℕ) → at ≡ 8 * byte → byte + 4 ≤ length bytes
    → let c : Cursor = record { bytes = bytes; at = at } in
    let d : Cursor = record { bytes = bytes; at = at + 32 } in
    Passes c (byte_bits (get_or bytes byte 0) (byte_bits (get_or bytes (byte + 1) 0) (byte_bits (get_or bytes (byte + 2) 0) (byte_bits (get_or bytes (byte + 3) 0) [])))) d
unfolding bits_left
four_left byte at bytes e inside =
    let last : at + 8 + 8 + 8 + 8 ≡ at + 32 = omega arith in
    record {
      same_bytes = refl;
      moved = refl;
      front =
          byte_left byte at bytes e (omega arith)
          ∙ ap (λ bits. byte_bits (get_or bytes byte 0) bits)
          (byte_left (byte + 1) (at + 8) bytes (omega arith) (omega arith)
          ∙ ap (λ bits. byte_bits (get_or bytes (byte + 1) 0) bits)
          (byte_left (byte + 2) (at + 8 + 8) bytes (omega arith) (omega arith)
          ∙ ap (λ bits. byte_bits (get_or bytes (byte + 2) 0) bits)
          (byte_left (byte + 3) (at + 8 + 8 + 8) bytes (omega arith) (omega arith)
          ∙ ap (λ i. byte_bits (get_or bytes (byte + 3) 0) (drop i (bits_of bytes))) last)));
    }

-- a literal where four bytes are left
pub literal_is : (byte at : ℕ) (bytes : List ℕ) → at ≡ 8 * byte → byte + 4 ≤ length bytes → ((i : ℕ) → get_or bytes i 0 < 256)
    → literal_on (record { bytes = bytes; at = at })
    ≡ Ok (16777216 * get_or bytes byte 0 + 65536 * get_or bytes (byte + 1) 0 + 256 * get_or bytes (byte + 2) 0 + get_or bytes (byte + 3) 0, record { bytes = bytes; at = at + 32 })
unfolding literal_on
literal_is byte at bytes e inside below =
    let a = get_or bytes byte 0 in
    let b = get_or bytes (byte + 1) 0 in
    let c = get_or bytes (byte + 2) 0 in
    let d = get_or bytes (byte + 3) 0 in
    let here : Cursor = record { bytes = bytes; at = at } in
    let behind : Cursor = record { bytes = bytes; at = at + 32 } in
    let bits = byte_bits a (byte_bits b (byte_bits c (byte_bits d []))) in
    let taken : bits_on 32 here ≡ Ok (bits, behind) = bits_on_spelled bits here behind (four_left byte at bytes e inside) in
    let number = four_bytes a b c d (below byte) (below (byte + 1)) (below (byte + 2)) (below (byte + 3)) in
    rw taken (ap (λ n. Ok (n, behind)) number)

-- and where they aren't
pub literal_short : (byte at : ℕ) (bytes : List ℕ) → at ≡ 8 * byte → length bytes < byte + 4
    → literal_on (record { bytes = bytes; at = at }) ≡ Err UnitShort
unfolding literal_on
literal_short byte at bytes e few =
    let here : Cursor = record { bytes = bytes; at = at } in
    rw (bits_on_short 32 here (omega (arith, length-bits_left here))) refl

-- ---- literals and their spellings

-- eight bits as a byte
pub record Byte (n : ℕ) (bits : List Bool) : Type 0 where
  pub byte : ℕ
  pub rest : List Bool
  pub below : byte < 256
  pub parts : bits ≡ byte_bits byte rest
  pub count : length rest ≡ n

bit_value-below : (x : Bool) → bit_value x < 2
bit_value-below true = omega arith
bit_value-below false = omega arith

bit_is : (n : ℕ) (x : Bool) → n ≡ bit_value x → (n == 1) ≡ x
bit_is n true e = rw e refl
bit_is n false e = rw e refl

eight_bits : (x7 x6 x5 x4 x3 x2 x1 x0 : Bool) (rest : List Bool) (n : ℕ) → length rest ≡ n → Byte n (x7 ∷ x6 ∷ x5 ∷ x4 ∷ x3 ∷ x2 ∷ x1 ∷ x0 ∷ rest)
eight_bits x7 x6 x5 x4 x3 x2 x1 x0 rest n count =
    let v7 = bit_value-below x7 in
    let v6 = bit_value-below x6 in
    let v5 = bit_value-below x5 in
    let v4 = bit_value-below x4 in
    let v3 = bit_value-below x3 in
    let v2 = bit_value-below x2 in
    let v1 = bit_value-below x1 in
    let v0 = bit_value-below x0 in
    let b : ℕ =
    128 * bit_value x7 + 64 * bit_value x6 + 32 * bit_value x5 + 16 * bit_value x4 + 8 * bit_value x3 + 4 * bit_value x2 + 2 * bit_value x1 + bit_value x0 in
    let e7 : is_bit_set b 7 ≡ x7 = bit_is (b / 128 % 2) x7 (omega arith) in
    let e6 : is_bit_set b 6 ≡ x6 = bit_is (b / 64 % 2) x6 (omega arith) in
    let e5 : is_bit_set b 5 ≡ x5 = bit_is (b / 32 % 2) x5 (omega arith) in
    let e4 : is_bit_set b 4 ≡ x4 = bit_is (b / 16 % 2) x4 (omega arith) in
    let e3 : is_bit_set b 3 ≡ x3 = bit_is (b / 8 % 2) x3 (omega arith) in
    let e2 : is_bit_set b 2 ≡ x2 = bit_is (b / 4 % 2) x2 (omega arith) in
    let e1 : is_bit_set b 1 ≡ x1 = bit_is (b / 2 % 2) x1 (omega arith) in
    let e0 : is_bit_set b 0 ≡ x0 = bit_is (b / 1 % 2) x0 (omega arith) in
    record { byte = b; rest = rest; below = omega arith; parts = sym (rw (e7, e6, e5, e4, e3, e2, e1, e0) refl); count = count }

pub next_byte : (n : ℕ) (bits : List Bool) → length bits ≡ 8 + n → Byte n bits
next_byte n (x7 ∷ x6 ∷ x5 ∷ x4 ∷ x3 ∷ x2 ∷ x1 ∷ x0 ∷ rest) count = eight_bits x7 x6 x5 x4 x3 x2 x1 x0 rest n (omega arith)
next_byte n bits count = absurd (omega arith)

pub none_left : (bits : List Bool) → length bits ≡ 0 → bits ≡ []
none_left [] e = refl
none_left (b ∷ bits) e = absurd (omega arith)

-- 32 bits as four bytes
record Four (bits : List Bool) : Type 0 where
  pub a : ℕ
  pub b : ℕ
  pub c : ℕ
  pub d : ℕ
  pub below : (a < 256) × (b < 256) × (c < 256) × (d < 256)
  pub parts : bits ≡ byte_bits a (byte_bits b (byte_bits c (byte_bits d [])))

bytes_of : (bits : List Bool) → length bits ≡ 32 → Four bits
bytes_of bits count =
    let first = next_byte 24 bits count in
    let second = next_byte 16 first.rest first.count in
    let third = next_byte 8 second.rest second.count in
    let fourth = next_byte 0 third.rest third.count in
    let end = none_left fourth.rest fourth.count in
    record {
      a = first.byte;
      b = second.byte;
      c = third.byte;
      d = fourth.byte;
      below = (first.below, second.below, third.below, fourth.below);
      parts =
          first.parts
          ∙ ap (λ r. byte_bits first.byte r)
          (second.parts
          ∙ ap (λ r. byte_bits second.byte r)
          (third.parts ∙ ap (λ r. byte_bits third.byte r) (fourth.parts ∙ ap (λ r. byte_bits fourth.byte r) end)));
    }

literal_of : (v a b c d : ℕ) → a < 256 → b < 256 → c < 256 → d < 256 → v ≡ 16777216 * a + 65536 * b + 256 * c + d
    → literal v ≡ byte_bits a (byte_bits b (byte_bits c (byte_bits d [])))
literal_of v a b c d below-a below-b below-c below-d e =
    let first : v / 16777216 % 256 ≡ a = omega arith in
    let second : v / 65536 % 256 ≡ b = omega arith in
    let third : v / 256 % 256 ≡ c = omega arith in
    let fourth : v % 256 ≡ d = omega arith in
    rw (first, second, third, fourth) refl

pub literal_spelled : (v : ℕ) (c d : Cursor) → v < 2 ^ 32 → Passes c (literal v) d → literal_at c ≡ Ok (v, d)
unfolding literal_at literal_on
literal_spelled v c d below p =
    let taken : bits_on 32 c ≡ Ok (literal v, d) = bits_on_spelled (literal v) c d p in
    let number = four_bytes (v / 16777216 % 256) (v / 65536 % 256) (v / 256 % 256) (v % 256) (omega arith) (omega arith) (omega arith) (omega arith) in
    let same : number_from 0 (literal v) ≡ v = number ∙ omega arith in
    rw taken (ap (λ n. Ok (n, d)) same)

-- a literal that was read
pub record Literal (c : Cursor) (v : ℕ) (d : Cursor) : Type 0 where
  pub below : v < 2 ^ 32
  pub passes : Passes c (literal v) d

literal_cases : (c : Cursor) (v : ℕ) (d : Cursor) (r : Result (List Bool × Cursor) Cause) → bits_on 32 c ≡ r
    → (r >>= number_from_bits) ≡ Ok (v, d) → Literal c v d
literal_cases c v d (Ok x) is whole =
    let taken = bits_on_read 32 c x.0 x.1 is in
    let same = same_answer (number_from 0 x.0) v x.1 d (number_from_bits x) refl whole in
    let four = bytes_of x.0 taken.count in
    let number = ap (λ bits. number_from 0 bits) four.parts ∙ four_bytes four.a four.b four.c four.d four.below.0 four.below.1 four.below.2 four.below.3 in
    let spelled : literal v ≡ x.0 = literal_of v four.a four.b four.c four.d four.below.0 four.below.1 four.below.2 four.below.3 (sym same.0 ∙ number) ∙ sym four.parts in
    record {
      below = omega (arith, same.0, number, four.below.0, four.below.1, four.below.2, four.below.3);
      passes = subst (λ (bits : List Bool). Passes c bits d) (sym spelled) (subst (λ (m : Cursor). Passes c x.0 m) same.1 taken.passes);
    }
literal_cases c v d (Err cause) is whole = absurd cc

pub literal_read : (v : ℕ) (c d : Cursor) → literal_at c ≡ Ok (v, d) → Literal c v d
unfolding literal_at literal_on
literal_read v c d e = literal_cases c v d (bits_on 32 c) refl (from_ok c (bits_on 32 c >>= number_from_bits) v d e)
