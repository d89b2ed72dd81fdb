-- A header's bits spell it.
use Rattle.std.proofs.Common.{◌≡◌, ◌≢◌, ℕ, ℤ, pos, ◌+ℤ◌, ◌-ℤ◌, ◌+◌, ◌-◌, ◌%◌, ◌^◌, ◌<◌, ◌≤◌, if◌then◌else◌, Bool, true, false, List, [], ◌++◌, length, Option, Some, None, refl, sym, ap, ◌∙◌, arith, inl, inr, append_assoc, append-nil}
use Rattle.std.specs.Prelude.{nat_le, is_some, IfSome, unsigned_abs}
use Rattle.std.specs.Ordering.{int_eq}
use Rattle.std.proofs.lemmas.Bool.{cases_lt, cases_Bool, lt-ltb}
use Rattle.std.proofs.lemmas.Bool.Decides.{Decides-int_eq}
use Rattle.std.proofs.lemmas.Int.{int_rem_euclid_is, ints}
use Rattle.dirac_common.specs.Numbers as numbers
use Rattle.dirac_bits.specs.Spelling.{Spells, SpelledBehind}
use Rattle.dirac_bits.specs.Syntax.{Syntax, done, ◌>>=◌}
use Rattle.dirac_bits.specs.Writing.{gap}
use Rattle.dirac_header.specs.declared.header.PictureHeader.{PictureHeader}
use Rattle.dirac_header.specs.Codes.{is_reference, references_of}
use Rattle.dirac_header.specs.Header.{moved_by, retired_by, reference, retirement, header}
use Rattle.dirac_header.specs.Written.{centred, offset_to, reference_bits, retirement_bits, header_bits, NumbersHave32Bits, HasReferences, MayRetire}
use Rattle.dirac_bits.proofs.Fields.{spells_then, spells_last, gap_length}

-- the two halves of the numbers modulo 2 ^ 32
centred_low : (a : ℕ) → a < 2 ^ 31 → centred a ≡ pos a
centred_low a low = rw (lt-ltb a (2 ^ 31) low) refl

centred_high : (a : ℕ) → 2 ^ 31 ≤ a → centred a ≡ pos a -ℤ pos (2 ^ 32)
centred_high a high = grind (arith, high)

centred_small : (a : ℕ) → a < 2 ^ 32 → unsigned_abs (centred a) + 1 < 2 ^ 39
centred_small a small = elim (cases_lt a (2 ^ 31)) [
  | inl low ↦ rw (centred_low a low) (omega arith)
  | inr high ↦ rw (centred_high a high) (omega (arith, ints))
]

-- a number moved by one of these
centred_moves : (from a : ℕ) → a < 2 ^ 32 → moved_by from (centred a) ≡ (from + a) % 2 ^ 32
centred_moves from a small = elim (cases_lt a (2 ^ 31)) [
  | inl low ↦ rw (centred_low a low) refl
  | inr high ↦
      rw (centred_high a high)
      (ap unsigned_abs (int_rem_euclid_is (pos from +ℤ (pos a -ℤ pos (2 ^ 32))) (pos (2 ^ 32)) (2 ^ 32) 1 (from + a) (omega arith) refl (omega (arith, ints))))
]

offset_small : (from to : ℕ) → unsigned_abs (offset_to from to) + 1 < 2 ^ 39
offset_small from to = centred_small ((to + (2 ^ 32 - from)) % 2 ^ 32) (omega arith)

-- the offset leads from the one picture to the other
offset_moves : (from to : ℕ) → from < 2 ^ 32 → to < 2 ^ 32 → moved_by from (offset_to from to) ≡ to
offset_moves from to f t = centred_moves from ((to + (2 ^ 32 - from)) % 2 ^ 32) (omega arith) ∙ omega arith

reference_spelled : (there : Bool) (number : ℕ) (ref : Option ℕ) (k : ℕ) → number < 2 ^ 32 → IfSome ref (λ n. n < 2 ^ 32) → is_some ref ≡ there
    → Spells (reference there number) ref k (reference_bits number ref)
unfolding reference
reference_spelled true number (Some r) k small fits is =
    (offset_to number r, [], offset_small number r, sym (append-nil (numbers.sint (offset_to number r))), (ap Some (offset_moves number r small fits), refl))
reference_spelled false number None k small fits is = (refl, refl)
reference_spelled true number None k small fits is = absurd cc
reference_spelled false number (Some r) k small fits is = absurd cc

-- an offset to another picture isn't 0
other_retired : (number r : ℕ) (z : ℤ) → number < 2 ^ 32 → r ≢ number → moved_by number z ≡ r → retired_by number z ≡ Some r
other_retired number r z small other e =
    elim (cases_Bool (int_eq z (pos 0))) [
      | inl same ↦
          let zero_is : z ≡ pos 0 = (Decides-int_eq z (pos 0)).0 same in
          let stays : (number + 0) % 2 ^ 32 ≡ r = ap (λ w. moved_by number w) (sym zero_is) ∙ e in
          absurd (omega arith)
      | inr differ ↦ ap (λ (t : Bool). if t then None else Some (moved_by number z)) differ ∙ ap Some e
    ]

retirement_spelled : (there : Bool) (number : ℕ) (retire : Option ℕ) (k : ℕ) → number < 2 ^ 32 → IfSome retire (λ n. n < 2 ^ 32) → MayRetire there number retire
    → Spells (retirement there number) retire k (retirement_bits there number retire)
unfolding retirement
retirement_spelled true number None k small fits may = (pos 0, [], omega arith, sym (append-nil (numbers.sint (pos 0))), (refl, refl))
retirement_spelled true number (Some r) k small fits may = (
  offset_to number r,
  [],
  offset_small number r,
  sym (append-nil (numbers.sint (offset_to number r))),
  (other_retired number r (offset_to number r) small may.1 (offset_moves number r small fits), refl),
)
retirement_spelled false number None k small fits may = (refl, refl)
retirement_spelled false number (Some r) k small fits may =
    let never : false ≡ true = may.0 in
    absurd cc

fields_spelled : (before : List Bool) (code : ℕ) (h : PictureHeader) → NumbersHave32Bits h → HasReferences code h → MayRetire (is_reference code) h.number h.retire
    → Spells (header code) h (length before) (header_bits before code h)
unfolding header
fields_spelled before code h range has may =
    let k = length before + length (gap before) + 32 in
    let bits1 = reference_bits h.number h.ref1 in
    let bits2 = reference_bits h.number h.ref2 in
    let bits3 = retirement_bits (is_reference code) h.number h.retire in
    let make : Option ℕ → Option ℕ → Option ℕ → Syntax PictureHeader = λ a b c. done (record { number = h.number; ref1 = a; ref2 = b; retire = c }) in
    let third = λ (a b : Option ℕ). retirement (is_reference code) h.number >>= make a b in
    let second = λ (a : Option ℕ). reference (nat_le 2 (references_of code)) h.number >>= third a in
    let k2 = k + length bits1 in
    let k3 = k2 + length bits2 in
    let last : Spells (third h.ref1 h.ref2) h k3 bits3 =
    spells_last (retirement (is_reference code) h.number) (make h.ref1 h.ref2) h.retire h k3 bits3 (retirement_spelled (is_reference code) h.number h.retire k3 range.number range.retired may) (refl, refl) in
    let two : Spells (second h.ref1) h k2 (bits2 ++ bits3) =
    spells_then (reference (nat_le 2 (references_of code)) h.number) (third h.ref1) h.ref2 h k2 bits2 bits3 (reference_spelled (nat_le 2 (references_of code)) h.number h.ref2 k2 range.number range.second has.second) last in
    let three = spells_then (reference (nat_le 1 (references_of code)) h.number) second h.ref1 h k bits1 (bits2 ++ bits3) (reference_spelled (nat_le 1 (references_of code)) h.number h.ref1 k range.number range.first has.first) two in
    let number = numbers.literal h.number in
    let parts : header_bits before code h ≡ gap before ++ (number ++ (bits1 ++ (bits2 ++ bits3))) = simp append_assoc in
    (gap before, number ++ (bits1 ++ (bits2 ++ bits3)), gap_length before, parts, (h.number, bits1 ++ (bits2 ++ bits3), range.number, refl, three))

-- the bits behind others, spelled
pub header_spelled : (before after : List Bool) (code : ℕ) (h : PictureHeader) → NumbersHave32Bits h → HasReferences code h → MayRetire (is_reference code) h.number h.retire
    → after ≡ before ++ header_bits before code h → SpelledBehind (header code) h before after
header_spelled before after code h range has may e = record { bits = header_bits before code h; is = e; spells = fields_spelled before code h range has may }
