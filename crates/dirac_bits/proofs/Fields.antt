-- Which bits spell fields one after another.
use Rattle.std.proofs.Common.{◌≡◌, ℕ, ◌+◌, ◌*◌, ◌/◌, ◌%◌, ◌-◌, ◌<◌, ◌≤◌, ◌^◌, if◌then◌else◌, Bool, true, false, List, [], ◌∷◌, ◌++◌, length, refl, sym, ap, subst, ◌∙◌, arith, append_assoc, append-nil, length-append}
use Rattle.std.specs.Prelude.{nat_le}
use Rattle.std.proofs.lemmas.Bool.{and_from, le-leb}
use Rattle.std.proofs.lemmas.List.{length-replicate}
use Rattle.dirac_common.specs.declared.faults.Cause.{Cause}
use Rattle.dirac_common.specs.Bits.{bits_of}
use Rattle.dirac_common.specs.Numbers as numbers
use Rattle.dirac_bits.specs.Spelling.{Spells, SpelledBehind}
use Rattle.dirac_bits.specs.Syntax.{Syntax, done, flag_then, uint_then, sint_then, literal_then, block_then, align_then, here_then, refuse, ◌>>=◌, number_field, between}
use Rattle.dirac_bits.specs.Writing.{gap}

-- the parts of what is spelled, with more bits behind it
longer : (a first rest b : List Bool) → a ≡ first ++ rest → a ++ b ≡ first ++ (rest ++ b)
longer a first rest b e = ap (λ bits. bits ++ b) e ∙ append_assoc first rest b

-- the place behind it
behind : (k n : ℕ) (a first rest : List Bool) → a ≡ first ++ rest → length first ≡ n → k + length a ≡ k + n + length rest
behind k n a first rest e len = omega (arith, ap length e, length-append first rest)

-- fields and then others are spelled by the bits of the first and then those of the others
pub spells_then : {A B : Type 0} (s : Syntax A) (f : A → Syntax B) (y : A) (x : B) (k : ℕ) (a b : List Bool)
    → Spells s y k a → Spells (f y) x (k + length a) b → Spells (s >>= f) x k (a ++ b)
spells_then (done z) f y x k a b e more =
    let none : k + length a ≡ k = omega (arith, ap length e.1) in
    let here = subst (λ n. Spells (f y) x n b) none more in
    let bits : a ++ b ≡ b = ap (λ front. front ++ b) e.1 in
    subst (λ z. Spells (f z) x k (a ++ b)) (sym e.0) (subst (λ (l : List Bool). Spells (f y) x k l) (sym bits) here)
spells_then (flag_then g) f y x k a b e more =
    let place = behind k 1 a (e.0 ∷ []) e.1 e.2 refl in
    (e.0, e.1 ++ b, ap (λ bits. bits ++ b) e.2, spells_then (g e.0) f y x (k + 1) e.1 b e.3 (subst (λ n. Spells (f y) x n b) place more))
spells_then (uint_then g) f y x k a b e more =
    let first = numbers.uint e.0 in
    let place = behind k (length first) a first e.1 e.3 refl in
    (e.0, e.1 ++ b, e.2, longer a first e.1 b e.3, spells_then (g e.0) f y x (k + length first) e.1 b e.4 (subst (λ n. Spells (f y) x n b) place more))
spells_then (sint_then g) f y x k a b e more =
    let first = numbers.sint e.0 in
    let place = behind k (length first) a first e.1 e.3 refl in
    (e.0, e.1 ++ b, e.2, longer a first e.1 b e.3, spells_then (g e.0) f y x (k + length first) e.1 b e.4 (subst (λ n. Spells (f y) x n b) place more))
spells_then (literal_then g) f y x k a b e more =
    let first = numbers.literal e.0 in
    let place = behind k 32 a first e.1 e.3 refl in
    (e.0, e.1 ++ b, e.2, longer a first e.1 b e.3, spells_then (g e.0) f y x (k + 32) e.1 b e.4 (subst (λ n. Spells (f y) x n b) place more))
spells_then (block_then len g) f y x k a b e more =
    let first = bits_of e.0 in
    let place = behind k (length first) a first e.1 e.3 refl in
    (e.0, e.1 ++ b, e.2, longer a first e.1 b e.3, spells_then (g e.0) f y x (k + length first) e.1 b e.4 (subst (λ n. Spells (f y) x n b) place more))
spells_then (align_then s) f y x k a b e more =
    let place = behind k (length e.0) a e.0 e.1 e.3 refl in
    (e.0, e.1 ++ b, e.2, longer a e.0 e.1 b e.3, spells_then s f y x (k + length e.0) e.1 b e.4 (subst (λ n. Spells (f y) x n b) place more))
spells_then (here_then g) f y x k a b e more = spells_then (g (k / 8)) f y x k a b e more
spells_then (refuse at cause) f y x k a b e more = absurd e

-- the last fields
pub spells_last : {A B : Type 0} (s : Syntax A) (f : A → Syntax B) (y : A) (x : B) (k : ℕ) (a : List Bool)
    → Spells s y k a → Spells (f y) x (k + length a) [] → Spells (s >>= f) x k a
spells_last s f y x k a e more = subst (λ (l : List Bool). Spells (s >>= f) x k l) (append-nil a) (spells_then s f y x k a [] e more)

-- the same behind other bits
pub behind_then : {A B : Type 0} (s : Syntax A) (f : A → Syntax B) (y : A) (x : B) (old mid new : List Bool)
    → SpelledBehind s y old mid → SpelledBehind (f y) x mid new → SpelledBehind (s >>= f) x old new
behind_then s f y x old mid new a b =
    let place : length mid ≡ length old + length a.bits = ap length a.is ∙ length-append old a.bits in
    record {
      bits = a.bits ++ b.bits;
      is = b.is ∙ ap (λ (l : List Bool). l ++ b.bits) a.is ∙ append_assoc old a.bits b.bits;
      spells = spells_then s f y x (length old) a.bits b.bits a.spells (subst (λ (n : ℕ). Spells (f y) x n b.bits) place b.spells);
    }

-- a number that the rule of its field allows
pub field_spelled : (cause : Cause) (allows : ℕ → Bool) (n k : ℕ) → n + 1 < 2 ^ 39 → allows n ≡ true → Spells (number_field cause allows) n k (numbers.uint n)
field_spelled cause allows n k small allowed =
    let after = k + length (numbers.uint n) in
    (n, [], small, sym (append-nil (numbers.uint n)), subst (λ t. Spells (if t then done n else refuse (k / 8) cause) n after []) (sym allowed) (refl, refl))

pub between_is : (low high n : ℕ) → low ≤ n → n ≤ high → between low high n ≡ true
between_is low high n above below = and_from (nat_le low n) (nat_le n high) (le-leb low n above) (le-leb n high below)

-- a gap ends where a byte does
pub gap_length : (bits : List Bool) → length bits + length (gap bits) ≡ 8 * ((length bits + 7) / 8)
gap_length bits = omega (arith, length-replicate {A = Bool} ((8 - length bits % 8) % 8) false)

pub gap_length-at : (bits : List Bool) (k : ℕ) → length bits ≡ k → k + length (gap bits) ≡ 8 * ((k + 7) / 8)
gap_length-at bits k e = rw (sym e) (gap_length bits)
