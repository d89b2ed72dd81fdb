-- Bits that the bits left begin with.
use Rattle.std.proofs.Common.{◌≡◌, ℕ, ◌+◌, ◌-◌, ◌*◌, ◌/◌, ◌≤◌, Bool, List, [], ◌∷◌, ◌++◌, length, drop, take, refl, sym, ap, subst, ◌∙◌, arith, append_assoc, length-append, length-drop, Result, Ok}
use Rattle.std.proofs.lemmas.List.{drop-drop, drop_at, take-append-drop, length-take}
use Rattle.dirac_common.specs.Bits.{bits_of}
use Rattle.dirac_bits.specs.Cursor.{Cursor, skip, aligned, bits_left, first_bit_of, bit_next, Passes}
use Rattle.dirac_bits.proofs.Bits.{length-bits_of}

-- places in the same bytes at the same bit
pub same_cursor : (c d : Cursor) → c.bytes ≡ d.bytes → c.at ≡ d.at → c ≡ d
same_cursor c d bytes at =
    let make : List ℕ → ℕ → Cursor = λ b a. record { bytes = b; at = a } in
    ap (λ b. make b c.at) bytes ∙ ap (λ a. make d.bytes a) at

-- what is left behind more bits
pub left_behind : (n : ℕ) (c : Cursor) → bits_left (skip n c) ≡ drop n (bits_left c)
unfolding bits_left
left_behind n c = sym (drop-drop n c.at (bits_of c.bytes))

-- how much is left
pub length-bits_left : (c : Cursor) → length (bits_left c) ≡ 8 * length c.bytes - c.at
unfolding bits_left
length-bits_left c = omega (arith, length-drop c.at (bits_of c.bytes), length-bits_of c.bytes)

-- equal answers have equal values and places
pub same_answer : {A E : Type 0} (x y : A) (c d : Cursor) (r : Result (A × Cursor) E) → r ≡ Ok (x, c) → r ≡ Ok (y, d) → (x ≡ y) × (c ≡ d)
same_answer {A} x y c d r e f =
    let first : A × Cursor = (x, c) in
    let second : A × Cursor = (y, d) in
    let both : first ≡ second = cc in
    (ap (λ (p : A × Cursor). p.0) both, ap (λ (p : A × Cursor). p.1) both)

-- no bits
pub passes_none : (c : Cursor) → Passes c [] c
passes_none c = record { same_bytes = refl; moved = omega arith; front = refl }

pub none_passed : (c d : Cursor) → Passes c [] d → d ≡ c
none_passed c d p = same_cursor d c p.same_bytes (omega (arith, p.moved))

-- a front of them
pub passes_front : (a b : List Bool) (c d : Cursor) → Passes c (a ++ b) d → Passes c a (skip (length a) c) × Passes (skip (length a) c) b d
passes_front a b c d p =
    let parts : bits_left c ≡ a ++ (b ++ bits_left d) = p.front ∙ append_assoc a b (bits_left d) in
    let behind : bits_left (skip (length a) c) ≡ b ++ bits_left d =
    left_behind (length a) c ∙ ap (λ bits. drop (length a) bits) parts ∙ drop_at a (b ++ bits_left d) (length a) refl in (
      record { same_bytes = refl; moved = refl; front = parts ∙ ap (λ bits. a ++ bits) (sym behind) },
      record { same_bytes = p.same_bytes; moved = omega (arith, p.moved, length-append a b); front = behind },
    )

-- these and then those
pub passes_join : (a b : List Bool) (c m d : Cursor) → Passes c a m → Passes m b d → Passes c (a ++ b) d
passes_join a b c m d p q = record {
  same_bytes = q.same_bytes ∙ p.same_bytes;
  moved = omega (arith, p.moved, q.moved, length-append a b);
  front = p.front ∙ ap (λ bits. a ++ bits) q.front ∙ sym (append_assoc a b (bits_left d));
}

-- the first of them is the next bit
pub passes_bit : (b : Bool) (bits : List Bool) (c d : Cursor) → Passes c (b ∷ bits) d → (bit_next c ≡ Ok (b, skip 1 c)) × Passes (skip 1 c) bits d
unfolding bit_next
passes_bit b bits c d p = (ap (λ left. first_bit_of left c) p.front, (passes_front (b ∷ []) bits c d p).1)

bit_passed_as : (left : List Bool) (b : Bool) (c d : Cursor) → bits_left c ≡ left → first_bit_of left c ≡ Ok (b, d) → Passes c (b ∷ []) d
bit_passed_as [] b c d is e = absurd cc
bit_passed_as (x ∷ left) b c d is e =
    let both = same_answer x b (skip 1 c) d (first_bit_of (x ∷ left) c) refl e in
    let one : x ≡ b = both.0 in
    let behind : skip 1 c ≡ d = both.1 in
    let rest : bits_left (skip 1 c) ≡ left = left_behind 1 c ∙ ap (λ bits. drop 1 bits) is in
    let here : Passes c (x ∷ []) (skip 1 c) = record { same_bytes = refl; moved = refl; front = is ∙ ap (λ bits. x ∷ bits) (sym rest) } in
    subst (λ (y : Bool). Passes c (y ∷ []) d) one (subst (λ (e : Cursor). Passes c (x ∷ []) e) behind here)

-- the next bit is one of them
pub bit_passed : (b : Bool) (c d : Cursor) → bit_next c ≡ Ok (b, d) → Passes c (b ∷ []) d
unfolding bit_next
bit_passed b c d e = bit_passed_as (bits_left c) b c d refl e

-- what is passed lies in the bytes
pub passes_inside : (bits : List Bool) (c d : Cursor) → Passes c bits d → c.at ≤ 8 * length c.bytes → d.at ≤ 8 * length d.bytes
passes_inside bits c d p inside =
    let all = ap length p.front ∙ length-append bits (bits_left d) in
    let bytes = ap length p.same_bytes in
    omega (arith, p.moved, length-bits_left c, length-bits_left d, all, bytes)

-- the gap up to the next byte
pub passes_gap : (c : Cursor) → c.at ≤ 8 * length c.bytes
    → (gap : List Bool) × (c.at + length gap ≡ 8 * ((c.at + 7) / 8)) × Passes c gap (aligned c)
passes_gap c inside =
    let n = 8 * ((c.at + 7) / 8) - c.at in
    let gap = take n (bits_left c) in
    let size : length gap ≡ n = omega (arith, length-take n (bits_left c), length-bits_left c) in
    let place : c.at + length gap ≡ 8 * ((c.at + 7) / 8) = omega arith in
    let same : skip n c ≡ aligned c = same_cursor (skip n c) (aligned c) refl (omega arith) in
    let passes : Passes c gap (skip n c) = record {
      same_bytes = refl;
      moved = omega arith;
      front = sym (take-append-drop n (bits_left c)) ∙ ap (λ bits. gap ++ bits) (sym (left_behind n c));
    } in
    (gap, place, subst (λ (d : Cursor). Passes c gap d) same passes)
