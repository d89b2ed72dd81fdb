-- Reading the decisions of a number.
use mir.Val.{bool_byte}
use Rattle.std.proofs.Common.{◌≡◌, ℕ, ℤ, pos, zero, suc, ◌+◌, ◌-◌, ◌*◌, ◌^◌, ◌<◌, ◌≤◌, ◌⊎◌, inl, inr, Bool, true, false, List, [], ◌∷◌, ◌++◌, length, nat_abs, Result, Ok, Err, IfOk, IfErr, refl, sym, ap, ◌∙◌, arith, subst, length-append, true≢false}
use Rattle.std.proofs.lemmas.Bool.{cases_lt, cases_Bool, false≢true}
use Rattle.std.proofs.lemmas.List.{append-nil, get_or_past}
use Rattle.dirac_common.specs.Bits.{bit_value}
use Rattle.dirac_common.specs.Numbers.{digits_of, signed_value}
use Rattle.dirac_common.specs.declared.faults.Cause.{Cause}
use Rattle.dirac_common.specs.declared.faults.Cause.TheVariants as cause
use Rattle.dirac_common.proofs.Digits.{digits_push, digits_are, digits_few}
use Rattle.dirac_arith.specs.declared.decoder.Decoder.TheInside.{Inside}
use Rattle.dirac_arith.specs.Carried.{Lies}
use Rattle.dirac_arith.specs.Front.{front}
use Rattle.dirac_arith.specs.Interval.{Interval, Decision, narrowed, narrowed_by}
use Rattle.dirac_arith.specs.Spelling.{follow_at, opening_digits, spelt, spelling, signed_spelling}
use Rattle.dirac_arith.specs.Reading.{Reading, DecisionsAreRead}
use Rattle.dirac_arith.specs.Decoding.{reading, IsSound}
use Rattle.dirac_arith.proofs.Spellings.{IsTame, reads_more, spelt_is, one_spelt_from, one_number, one_signed, lies_first, spelling_some, signed_some, sign_before, signed_is}
use Rattle.dirac_arith.proofs.Windows.{window_from_lies}

-- one decision more
pub reads_one : (a b c : Reading) (ds : List Decision) (context : ℕ) (t : Bool) → DecisionsAreRead a ds b
    → c ≡ record { block = b.block; at = narrowed b.at (context, t) } → Lies b.block (narrowed b.at (context, t))
    → (let d : Decision = (context, t) in DecisionsAreRead a (ds ++ d ∷ []) c)
reads_one a b c ds context t before moves lies =
    let d : Decision = (context, t) in
    reads_more a b c ds (d ∷ []) before (record { moved = moves; lies = λ some. lies })

-- the last follow decision behind digits
pub reads_spelt : (a b c : Reading) (follow : List ℕ) (bits context i : ℕ) (digits : List Bool) (t : Bool) → DecisionsAreRead a (opening_digits follow bits 0 digits) b
    → length digits ≡ i → context ≡ follow_at follow i
    → c ≡ record { block = b.block; at = narrowed b.at (context, t) } → Lies b.block (narrowed b.at (context, t))
    → DecisionsAreRead a (spelt follow bits digits t) c
reads_spelt a b c follow bits context i digits t before count is moves lies =
    let same : context ≡ follow_at follow (length digits) = is ∙ ap (follow_at follow) (sym count) in
    let P : ℕ → Type 0 = λ x. let d : Decision = (x, t) in DecisionsAreRead a (opening_digits follow bits 0 digits ++ d ∷ []) c in
    subst P same (reads_one a b c (opening_digits follow bits 0 digits) context t before moves lies)

pub reads_spelling : (a b c : Reading) (follow : List ℕ) (bits context i v : ℕ) (t : Bool) → DecisionsAreRead a (opening_digits follow bits 0 (digits_of v)) b
    → length (digits_of v) ≡ i → context ≡ follow_at follow i → t ≡ true
    → c ≡ record { block = b.block; at = narrowed b.at (context, t) } → Lies b.block (narrowed b.at (context, t))
    → DecisionsAreRead a (spelling follow bits v) c
unfolding spelling
reads_spelling a b c follow bits context i v t before count is ends moves lies =
    let P : Bool → Type 0 = λ u. DecisionsAreRead a (spelt follow bits (digits_of v) u) c in
    subst P ends (reads_spelt a b c follow bits context i (digits_of v) t before count is moves lies)

-- one digit more of an opening
pub opening_push : (follow : List ℕ) (bits i : ℕ) (digits : List Bool) (b : Bool)
    → opening_digits follow bits i (digits ++ b ∷ [])
    ≡ (let f : Decision = (follow_at follow (i + length digits), false) in let d : Decision = (bits, b) in (opening_digits follow bits i digits ++ f ∷ []) ++ d ∷ [])
opening_push follow bits i [] b =
    let e : i ≡ i + 0 = omega arith in
    let d : Decision = (bits, b) in
    ap (λ j. let f : Decision = (follow_at follow j, false) in f ∷ d ∷ []) e
opening_push follow bits i (x ∷ xs) b =
    let e : i + 1 + length xs ≡ i + length (x ∷ xs) = omega arith in
    let first : Decision = (follow_at follow i, false) in
    let second : Decision = (bits, x) in
    let d : Decision = (bits, b) in
    ap (λ rest. first ∷ (second ∷ rest)) (opening_push follow bits (i + 1) xs b)
    ∙ ap (λ j. let f : Decision = (follow_at follow j, false) in first ∷ (second ∷ ((opening_digits follow bits (i + 1) xs ++ f ∷ []) ++ d ∷ []))) e

-- a false follow decision and a digit
pub reads_digit : (a b b' c : Reading) (follow : List ℕ) (bits context i value x : ℕ) (t u : Bool) → DecisionsAreRead a (opening_digits follow bits 0 (digits_of (value - 1))) b
    → length (digits_of (value - 1)) ≡ i → context ≡ follow_at follow i → t ≡ false
    → b' ≡ record { block = b.block; at = narrowed b.at (context, t) } → Lies b.block (narrowed b.at (context, t))
    → c ≡ record { block = b'.block; at = narrowed b'.at (bits, u) } → Lies b'.block (narrowed b'.at (bits, u))
    → x ≡ bit_value u → 1 ≤ value → value < 2 ^ 38
    → DecisionsAreRead a (opening_digits follow bits 0 (digits_of (value * 2 + x - 1))) c
reads_digit a b b' c follow bits context i value x t u before count is goes moves lies moves' lies' bit some below =
    let digits = digits_of (value - 1) in
    let d : Decision = (bits, u) in
    let false_follow : DecisionsAreRead a (spelt follow bits digits t) b' = reads_spelt a b b' follow bits context i digits t before count is moves lies in
    let P : Bool → Type 0 = λ y. DecisionsAreRead a (spelt follow bits digits y ++ d ∷ []) c in
    let both = subst P goes (reads_one a b' c (spelt follow bits digits t) bits u false_follow moves' lies') in
    let e : value * 2 + x - 1 ≡ 2 * value + bit_value u - 1 = omega arith in
    let grown = ap digits_of e ∙ digits_push value u some below in
    let zero_more : length digits ≡ 0 + length digits = omega arith in
    let Q : ℕ → Type 0 = λ j. let f : Decision = (follow_at follow j, false) in DecisionsAreRead a ((opening_digits follow bits 0 digits ++ f ∷ []) ++ d ∷ []) c in
    let shaped = subst Q zero_more both in
    let R : List Decision → Type 0 = λ ds. DecisionsAreRead a ds c in
    let opened = subst R (sym (opening_push follow bits 0 digits u)) shaped in
    let S : List Bool → Type 0 = λ bs. DecisionsAreRead a (opening_digits follow bits 0 bs) c in
    subst S (sym grown) opened

-- one digit more is one place more
pub digits_grow : (value i x : ℕ) (u : Bool) → length (digits_of (value - 1)) ≡ i → x ≡ bit_value u → 1 ≤ value → value < 2 ^ 38 → length (digits_of (value * 2 + x - 1)) ≡ i + 1
digits_grow value i x u count bit some below =
    let e : value * 2 + x - 1 ≡ 2 * value + bit_value u - 1 = omega arith in
    let grown = ap digits_of e ∙ digits_push value u some below in
    ap length grown ∙ omega (arith, length-append (digits_of (value - 1)) (u ∷ []))

-- before any digit
pub digits_none : digits_of 0 ≡ []
digits_none = digits_are [] (omega arith)

pub reads_none : (a : Reading) (follow : List ℕ) (bits : ℕ) → DecisionsAreRead a (opening_digits follow bits 0 (digits_of 0)) a
reads_none a follow bits =
    let P : List Bool → Type 0 = λ digits. DecisionsAreRead a (opening_digits follow bits 0 digits) a in
    subst P (sym digits_none) (record { moved = refl; lies = λ some. absurd (omega arith) })

-- a decoder's probabilities are tame
pub sound_tame : (a : Inside) → length a.contexts ≡ 38 → IsSound a → IsTame (reading a).at
sound_tame a all sound = record {
  most = λ i.
      let P : ℕ → Type 0 = λ x. x ≤ 65281 in
      elim (cases_lt i 38) [
        | inl inside ↦ (sound.probabilities i inside).1
        | inr past ↦ subst P (sym (get_or_past a.contexts i 0 (omega arith))) (omega arith)
      ];
}

-- where the block begins with sixteen ones nothing lies in the interval
pub shut : (a : Inside) → IsSound a → front a.block.now 16 ≡ 0xFFFF → Lies a.block.now (reading a).at → ⊥
shut a sound ones lies =
    elim (cases_Bool a.refused) [
      | inl closed ↦
          let past = sound.refused closed in
          let inside = window_from_lies a.block.now a.registers (reading a).at sound.stands lies in
          absurd (omega arith)
      | inr open' ↦ (sound.inside open').0 ones
    ]

-- a number and 39 false follow decisions lie apart
pub spelt_apart : (block : List ℕ) (s : Interval) (follow : List ℕ) (bits : ℕ) (digits : List Bool) (v : ℕ) (x y : List Decision) → IsTame s → length digits ≡ 38
    → Lies block (narrowed_by s (spelt follow bits digits false ++ x)) → Lies block (narrowed_by s (spelling follow bits v ++ y)) → ⊥
unfolding spelling
spelt_apart block s follow bits digits v x y tame count h h' =
    let P : List Decision → Type 0 = λ ds. Lies block (narrowed_by s ds) in
    let same = one_spelt_from block s follow bits 0 38 digits (digits_of v) false true x y tame (omega arith) (digits_few v)
    (λ e. count) (λ e. absurd (true≢false e))
    (subst P (spelt_is follow bits digits false x) h) (subst P (spelt_is follow bits (digits_of v) true y) h') in
    false≢true same.1

pub spelt_some : (follow : List ℕ) (bits : ℕ) (digits : List Bool) (last : Bool) → 0 < length (spelt follow bits digits last)
spelt_some follow bits digits last =
    let d : Decision = (follow_at follow (length digits), last) in
    omega (arith, length-append (opening_digits follow bits 0 digits) (d ∷ []))

-- with nothing behind
alone : (block : List ℕ) (s : Interval) (ds : List Decision) → Lies block (narrowed_by s ds) → Lies block (narrowed_by s (ds ++ []))
alone block s ds lies = let P : List Decision → Type 0 = λ es. Lies block (narrowed_by s es) in subst P (sym (append-nil ds)) lies

-- what a block carries at a decoder's place is read
pub number_read : (r : Result ℕ Cause) (a b : Reading) (follow : List ℕ) (bits v : ℕ) → IsTame a.at
    → (r ≡ Err cause.CodeWord → Lies a.block a.at → ⊥)
    → IfOk r (λ w. DecisionsAreRead a (spelling follow bits w) b) → IfOk r (λ w. w < 2 ^ 39 - 1)
    → (r ≡ Err cause.NumberTooLong → (digits : List Bool) × (length digits ≡ 38) × DecisionsAreRead a (spelt follow bits digits false) b)
    → IfErr r (λ e. (e ≡ cause.CodeWord) ⊎ (e ≡ cause.NumberTooLong))
    → v < 2 ^ 39 - 1 → Lies a.block (narrowed_by a.at (spelling follow bits v)) → r ≡ Ok v
number_read (Ok w) a b follow bits v tame closed found most long only fits lies =
    ap Ok (one_number a.block a.at follow bits w v [] [] tame most fits
    (alone a.block a.at (spelling follow bits w) (found.lies (spelling_some follow bits w))) (alone a.block a.at (spelling follow bits v) lies))
number_read (Err e) a b follow bits v tame closed found most long only fits lies =
    elim only [
      | inl is ↦ absurd (closed (ap Err is) (lies_first a.block a.at (spelling follow bits v) tame lies))
      | inr is ↦
          let l = long (ap Err is) in
          absurd (spelt_apart a.block a.at follow bits l.0 v [] [] tame l.1
          (alone a.block a.at (spelt follow bits l.0 false) (l.2.lies (spelt_some follow bits l.0 false))) (alone a.block a.at (spelling follow bits v) lies))
    ]

pub no_number_read : (r : Result ℕ Cause) (a b : Reading) (follow : List ℕ) (bits : ℕ) (digits : List Bool) → IsTame a.at
    → (r ≡ Err cause.CodeWord → Lies a.block a.at → ⊥)
    → IfOk r (λ w. DecisionsAreRead a (spelling follow bits w) b)
    → IfErr r (λ e. (e ≡ cause.CodeWord) ⊎ (e ≡ cause.NumberTooLong))
    → length digits ≡ 38 → Lies a.block (narrowed_by a.at (spelt follow bits digits false)) → r ≡ Err cause.NumberTooLong
no_number_read (Ok w) a b follow bits digits tame closed found only count lies =
    absurd (spelt_apart a.block a.at follow bits digits w [] [] tame count
    (alone a.block a.at (spelt follow bits digits false) lies) (alone a.block a.at (spelling follow bits w) (found.lies (spelling_some follow bits w))))
no_number_read (Err e) a b follow bits digits tame closed found only count lies =
    elim only [
      | inl is ↦ absurd (closed (ap Err is) (lies_first a.block a.at (spelt follow bits digits false) tame lies))
      | inr is ↦ ap Err is
    ]

-- the same of signed numbers
pub signed_read : (r : Result ℤ Cause) (a b : Reading) (follow : List ℕ) (bits sign : ℕ) (v : ℤ) → IsTame a.at
    → (r ≡ Err cause.CodeWord → Lies a.block a.at → ⊥)
    → IfOk r (λ w. DecisionsAreRead a (signed_spelling follow bits sign w) b) → IfOk r (λ w. nat_abs w < 2 ^ 39 - 1)
    → (r ≡ Err cause.NumberTooLong → (digits : List Bool) × (length digits ≡ 38) × DecisionsAreRead a (spelt follow bits digits false) b)
    → IfErr r (λ e. (e ≡ cause.CodeWord) ⊎ (e ≡ cause.NumberTooLong))
    → nat_abs v < 2 ^ 39 - 1 → Lies a.block (narrowed_by a.at (signed_spelling follow bits sign v)) → r ≡ Ok v
signed_read (Ok w) a b follow bits sign v tame closed found most long only fits lies =
    let some : 0 < length (signed_spelling follow bits sign w) = omega (arith, signed_some follow bits sign w [], length-append (signed_spelling follow bits sign w) []) in
    ap Ok (one_signed a.block a.at follow bits sign w v [] [] tame most fits
    (alone a.block a.at (signed_spelling follow bits sign w) (found.lies some)) (alone a.block a.at (signed_spelling follow bits sign v) lies))
signed_read (Err e) a b follow bits sign v tame closed found most long only fits lies =
    elim only [
      | inl is ↦ absurd (closed (ap Err is) (lies_first a.block a.at (signed_spelling follow bits sign v) tame lies))
      | inr is ↦
          let l = long (ap Err is) in
          let P : List Decision → Type 0 = λ ds. Lies a.block (narrowed_by a.at ds) in
          absurd (spelt_apart a.block a.at follow bits l.0 (nat_abs v) [] (sign_before sign v []) tame l.1
          (alone a.block a.at (spelt follow bits l.0 false) (l.2.lies (spelt_some follow bits l.0 false)))
          (subst P (signed_is follow bits sign v []) (alone a.block a.at (signed_spelling follow bits sign v) lies)))
    ]

pub no_signed_read : (r : Result ℤ Cause) (a b : Reading) (follow : List ℕ) (bits sign : ℕ) (digits : List Bool) → IsTame a.at
    → (r ≡ Err cause.CodeWord → Lies a.block a.at → ⊥)
    → IfOk r (λ w. DecisionsAreRead a (signed_spelling follow bits sign w) b)
    → IfErr r (λ e. (e ≡ cause.CodeWord) ⊎ (e ≡ cause.NumberTooLong))
    → length digits ≡ 38 → Lies a.block (narrowed_by a.at (spelt follow bits digits false)) → r ≡ Err cause.NumberTooLong
no_signed_read (Ok w) a b follow bits sign digits tame closed found only count lies =
    let some : 0 < length (signed_spelling follow bits sign w) = omega (arith, signed_some follow bits sign w [], length-append (signed_spelling follow bits sign w) []) in
    let P : List Decision → Type 0 = λ ds. Lies a.block (narrowed_by a.at ds) in
    absurd (spelt_apart a.block a.at follow bits digits (nat_abs w) [] (sign_before sign w []) tame count
    (alone a.block a.at (spelt follow bits digits false) lies)
    (subst P (signed_is follow bits sign w []) (alone a.block a.at (signed_spelling follow bits sign w) (found.lies some))))
no_signed_read (Err e) a b follow bits sign digits tame closed found only count lies =
    elim only [
      | inl is ↦ absurd (closed (ap Err is) (lies_first a.block a.at (spelt follow bits digits false) tame lies))
      | inr is ↦ ap Err is
    ]

-- a magnitude of 0 has no sign
pub reads_zero : (a b : Reading) (follow : List ℕ) (bits sign m : ℕ) → m ≡ 0 → DecisionsAreRead a (spelling follow bits m) b → DecisionsAreRead a (signed_spelling follow bits sign (pos 0)) b
unfolding signed_spelling
reads_zero a b follow bits sign m none reads = let P : ℕ → Type 0 = λ x. DecisionsAreRead a (spelling follow bits x) b in subst P none reads

-- a magnitude, and its sign
pub reads_signed : (a b c : Reading) (follow : List ℕ) (bits sign m : ℕ) (t : Bool) → (m ≡ 0 → ⊥) → DecisionsAreRead a (spelling follow bits m) b
    → c ≡ record { block = b.block; at = narrowed b.at (sign, t) } → Lies b.block (narrowed b.at (sign, t))
    → DecisionsAreRead a (signed_spelling follow bits sign (signed_value m t)) c
unfolding signed_spelling
reads_signed a b c follow bits sign zero t some reads moves lies = absurd (some refl)
reads_signed a b c follow bits sign (suc m) true some reads moves lies = reads_one a b c (spelling follow bits (suc m)) sign true reads moves lies
reads_signed a b c follow bits sign (suc m) false some reads moves lies = reads_one a b c (spelling follow bits (suc m)) sign false reads moves lies

-- a truth as the number that code makes of it
pub bit_of_byte : (b : Bool) → bool_byte b ≡ bit_value b
bit_of_byte true = refl
bit_of_byte false = refl
