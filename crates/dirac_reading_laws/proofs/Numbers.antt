-- Why a number, a literal or a block isn't read.
use Rattle.std.proofs.Common.{◌≡◌, ℕ, zero, suc, ◌+◌, ◌-◌, ◌*◌, ◌<◌, ◌≤◌, ◌^◌, ◌==◌, ◌⊎◌, Bool, true, false, List, [], ◌∷◌, ◌++◌, length, drop, take, refl, sym, ap, subst, ◌∙◌, arith, inl, inr, Result, Ok, Err}
use Rattle.std.proofs.lemmas.Bool.{cases_lt, ne_eqb}
use Rattle.std.proofs.lemmas.List.{length-take, length-drop, take-append-drop}
use Rattle.dirac_common.specs.declared.faults.Cause.{Cause}
use Rattle.dirac_common.specs.declared.faults.Cause.TheVariants.{NumberTooLong, UnitShort}
use Rattle.dirac_common.specs.Bits.{bit_value, number_from}
use Rattle.dirac_common.specs.Numbers.{followed, uint}
use Rattle.dirac_common.specs.Chain.{◌>>=◌}
use Rattle.dirac_bits.specs.Cursor.{Cursor, skip, bits_left, first_bit_of, bit_next, Passes}
use Rattle.dirac_bits.specs.Fields.{bits_on, bytes_on, literal_on, number_from_bits, number_on, sign_on, signed_on}
use Rattle.dirac_bits.proofs.Doublings.{ends_number, goes_on, no_digit, no_follow, too_long}
use Rattle.dirac_bits.proofs.Literals.{bits_on_short, bits_on_spelled}
use Rattle.dirac_bits.proofs.Passing.{bit_passed, left_behind, none_passed, passes_bit, passes_join, passes_none}
use Rattle.dirac_bits.proofs.Spelled.{uint_on_read, uint_on_spelled}
use Rattle.dirac_reading_laws.specs.Broken.{AreFewer, BreaksNumber, EndsBadly, LacksSign}

-- the next bit, by the bits that are left
next_is : (c : Cursor) (left : List Bool) → bits_left c ≡ left → bit_next c ≡ first_bit_of left c
unfolding bit_next
next_is c left is = ap (λ l. first_bit_of l c) is

-- an answer has one cause
same_cause : {A : Type 0} (r : Result A Cause) (x y : Cause) → r ≡ Err x → r ≡ Err y → x ≡ y
same_cause r x y e f =
    let whole : Err x ≡ Err y = sym e ∙ f in
    cc

never : {A : Type 0} {P : Type 0} (r : Result A Cause) (x : A) (y : Cause) → r ≡ Ok x → r ≡ Err y → P
never r x y e f = absurd cc

-- ---- numbers

-- a number that ends badly where it stands
broken_here : (most : ℕ) (c : Cursor) (cause : Cause) → EndsBadly (bits_left c) most cause → BreaksNumber most c cause
broken_here most c cause ends =
    let none : List Bool = [] in
    let all : most - length none ≡ most = omega arith in
    record { digits = []; at_most_that_many = omega arith; behind = c; passes = passes_none c; ends = rw all ends }

-- one that ends badly behind a digit
broken_behind : (left : ℕ) (b : Bool) (c e m : Cursor) (cause : Cause) → bit_next c ≡ Ok (false, e) → bit_next e ≡ Ok (b, m)
    → BreaksNumber left m cause → BreaksNumber (suc left) c cause
broken_behind left b c e m cause follow digit more =
    let same : suc left - length (b ∷ more.digits) ≡ left - length more.digits = omega arith in
    record {
      digits = b ∷ more.digits;
      at_most_that_many = omega (arith, more.at_most_that_many);
      behind = more.behind;
      passes =
          passes_join (false ∷ []) (b ∷ followed more.digits) c e more.behind (bit_passed false c e follow)
          (passes_join (b ∷ []) (followed more.digits) e m more.behind (bit_passed b e m digit) more.passes);
      ends = rw same more.ends;
    }

-- behind the last digit that may follow
last_refused : (value : ℕ) (c : Cursor) (cause : Cause) (left : List Bool) → bits_left c ≡ left → number_on 0 value c ≡ Err cause
    → EndsBadly left 0 cause
last_refused value c cause [] is e = same_cause (number_on 0 value c) cause UnitShort e (no_follow 0 value c UnitShort (next_is c [] is))
last_refused value c cause (false ∷ left) is e =
    same_cause (number_on 0 value c) cause NumberTooLong e (too_long value c (skip 1 c) (next_is c (false ∷ left) is))
last_refused value c cause (true ∷ left) is e =
    never (number_on 0 value c) (value - 1, skip 1 c) cause (ends_number 0 value c (skip 1 c) (next_is c (true ∷ left) is)) e

-- what is left behind a bit
behind_bit : (b : Bool) (c : Cursor) (left : List Bool) → bits_left c ≡ b ∷ left → bits_left (skip 1 c) ≡ left
behind_bit b c left is = left_behind 1 c ∙ ap (λ l. drop 1 l) is

-- where digits may follow
more_refused : (most value : ℕ) (c : Cursor) (cause : Cause) (left : List Bool) → bits_left c ≡ left → number_on (suc most) value c ≡ Err cause
    → ((next : ℕ) (d : Cursor) → number_on most next d ≡ Err cause → BreaksNumber most d cause)
    → BreaksNumber (suc most) c cause
more_refused most value c cause [] is e more =
    broken_here (suc most) c cause (rw is
    (same_cause (number_on (suc most) value c) cause UnitShort e (no_follow (suc most) value c UnitShort (next_is c [] is))))
more_refused most value c cause (false ∷ []) is e more =
    let follow = next_is c (false ∷ []) is in
    let none = next_is (skip 1 c) [] (behind_bit false c [] is) in
    broken_here (suc most) c cause (rw is
    (same_cause (number_on (suc most) value c) cause UnitShort e
    (no_digit (suc most) value c (skip 1 c) UnitShort (omega arith) follow none)))
more_refused most value c cause (false ∷ b ∷ left) is e more =
    let follow = next_is c (false ∷ b ∷ left) is in
    let digit = next_is (skip 1 c) (b ∷ left) (behind_bit false c (b ∷ left) is) in
    let fewer : suc most - 1 ≡ most = omega arith in
    let on = goes_on (suc most) value c (skip 1 c) (skip 1 (skip 1 c)) b (omega arith) follow digit in
    broken_behind most b c (skip 1 c) (skip 1 (skip 1 c)) cause follow digit
    (more (2 * value + bit_value b) (skip 1 (skip 1 c)) (sym (rw fewer at on) ∙ e))
more_refused most value c cause (true ∷ left) is e more =
    never (number_on (suc most) value c) (value - 1, skip 1 c) cause
    (ends_number (suc most) value c (skip 1 c) (next_is c (true ∷ left) is)) e

pub number_refused : (most value : ℕ) (c : Cursor) (cause : Cause) → number_on most value c ≡ Err cause → BreaksNumber most c cause
number_refused zero value c cause e = broken_here 0 c cause (last_refused value c cause (bits_left c) refl e)
number_refused (suc most) value c cause e = more_refused most value c cause (bits_left c) refl e (λ next d. number_refused most next d cause)

-- it ends badly there
stops : (most value : ℕ) (c : Cursor) (cause : Cause) (left : List Bool) → bits_left c ≡ left → EndsBadly left most cause → number_on most value c ≡ Err cause
stops most value c cause [] is e = rw e (no_follow most value c UnitShort (next_is c [] is))
stops zero value c cause (false ∷ left) is e = rw e (too_long value c (skip 1 c) (next_is c (false ∷ left) is))
stops (suc most) value c cause (false ∷ []) is e =
    rw e
    (no_digit (suc most) value c (skip 1 c) UnitShort (omega arith) (next_is c (false ∷ []) is)
    (next_is (skip 1 c) [] (behind_bit false c [] is)))
stops (suc most) value c cause (false ∷ b ∷ left) is e = absurd e
stops most value c cause (true ∷ left) is e = absurd e

-- behind these digits
stops_behind : (digits : List Bool) (most value : ℕ) (c d : Cursor) (cause : Cause) → length digits ≤ most → Passes c (followed digits) d
    → EndsBadly (bits_left d) (most - length digits) cause → number_on most value c ≡ Err cause
stops_behind [] most value c d cause few p e =
    let none : List Bool = [] in
    let all : most - length none ≡ most = omega arith in
    stops most value c cause (bits_left c) refl
    (subst (λ (m : Cursor). EndsBadly (bits_left m) most cause) (none_passed c d p) (rw all at e))
stops_behind (b ∷ bs) most value c d cause few p e =
    let follow = passes_bit false (b ∷ followed bs) c d p in
    let digit = passes_bit b (followed bs) (skip 1 c) d follow.1 in
    let same : most - length (b ∷ bs) ≡ most - 1 - length bs = omega arith in
    goes_on most value c (skip 1 c) (skip 1 (skip 1 c)) b (omega (arith, few)) follow.0 digit.0
    ∙ stops_behind bs (most - 1) (2 * value + bit_value b) (skip 1 (skip 1 c)) d cause (omega (arith, few)) digit.1 (rw same at e)

pub number_stops : (most value : ℕ) (c : Cursor) (cause : Cause) → BreaksNumber most c cause → number_on most value c ≡ Err cause
number_stops most value c cause b = stops_behind b.digits most value c b.behind cause b.at_most_that_many b.passes b.ends

-- ---- signed numbers

-- a number above 0 has a sign
has_sign : (n : ℕ) → (suc n == 0) ≡ false
has_sign n = ne_eqb (suc n) 0 (λ e. absurd (omega (arith, e)))

-- a number that was read, and its sign
sign_refused : (n : ℕ) (c d : Cursor) (cause : Cause) (left : List Bool) → bits_left d ≡ left → n + 1 < 2 ^ 39 → Passes c (uint n) d
    → sign_on (n, d) ≡ Err cause → LacksSign c cause
unfolding sign_on
sign_refused zero c d cause left is below p e = absurd cc
sign_refused (suc n) c d cause [] is below p e =
    let next = next_is d [] is in
    let none = rw (has_sign n, next) at e in
    record { pred = n; below = below; behind = d; passes = p; ends = is; is = cc }
sign_refused (suc n) c d cause (b ∷ left) is below p e =
    let next = next_is d (b ∷ left) is in
    let some = rw (has_sign n, next) at e in
    absurd cc

signed_cases : (c : Cursor) (cause : Cause) (r : Result (ℕ × Cursor) Cause) → number_on 38 1 c ≡ r → (r >>= sign_on) ≡ Err cause
    → BreaksNumber 38 c cause ⊎ LacksSign c cause
signed_cases c cause (Ok x) is e =
    let number = uint_on_read x.0 c x.1 is in
    inr (sign_refused x.0 c x.1 cause (bits_left x.1) refl number.0 number.1 e)
signed_cases c cause (Err other) is e =
    let same : other ≡ cause = cc in
    inl (number_refused 38 1 c cause (is ∙ ap (λ (x : Cause). Err x) same))

pub signed_refused : (c : Cursor) (cause : Cause) → signed_on c ≡ Err cause → BreaksNumber 38 c cause ⊎ LacksSign c cause
signed_refused c cause e = signed_cases c cause (number_on 38 1 c) refl e

lacking : (c : Cursor) (cause : Cause) → LacksSign c cause → signed_on c ≡ Err cause
unfolding sign_on
lacking c cause l =
    rw (uint_on_spelled (suc l.pred) c l.behind l.below l.passes, has_sign l.pred, next_is l.behind [] l.ends, l.is) refl

pub signed_stops : (c : Cursor) (cause : Cause) → BreaksNumber 38 c cause ⊎ LacksSign c cause → signed_on c ≡ Err cause
signed_stops c cause (inl b) = rw (number_stops 38 1 c cause b) refl
signed_stops c cause (inr l) = lacking c cause l

-- ---- bits

-- so many are left
enough : (n : ℕ) (c : Cursor) → n ≤ length (bits_left c) → bits_on n c ≡ Ok (take n (bits_left c), skip n c)
enough n c some =
    let front = take n (bits_left c) in
    let count : length front ≡ n = omega (arith, length-take n (bits_left c)) in
    let passes : Passes c front (skip n c) = record {
      same_bytes = refl;
      moved = omega arith;
      front = sym (take-append-drop n (bits_left c)) ∙ ap (λ bits. front ++ bits) (sym (left_behind n c));
    } in
    subst (λ (k : ℕ). bits_on k c ≡ Ok (front, skip n c)) count (bits_on_spelled front c (skip n c) passes)

pub bits_refused : (n : ℕ) (c : Cursor) (cause : Cause) → bits_on n c ≡ Err cause → AreFewer n c cause
bits_refused n c cause e =
    elim (cases_lt (length (bits_left c)) n) [
      | inl lt ↦ (lt, same_cause (bits_on n c) cause UnitShort e (bits_on_short n c lt))
      | inr le ↦ never (bits_on n c) (take n (bits_left c), skip n c) cause (enough n c le) e
    ]

pub bits_stop : (n : ℕ) (c : Cursor) (cause : Cause) → AreFewer n c cause → bits_on n c ≡ Err cause
bits_stop n c cause few = rw few.1 (bits_on_short n c few.0)

literal_cases : (c : Cursor) (cause : Cause) (r : Result (List Bool × Cursor) Cause) → bits_on 32 c ≡ r → (r >>= number_from_bits) ≡ Err cause → AreFewer 32 c cause
literal_cases c cause (Ok x) is e = absurd cc
literal_cases c cause (Err other) is e =
    let same : other ≡ cause = cc in
    bits_refused 32 c cause (is ∙ ap (λ (x : Cause). Err x) same)

pub literal_refused : (c : Cursor) (cause : Cause) → literal_on c ≡ Err cause → AreFewer 32 c cause
unfolding literal_on
literal_refused c cause e = literal_cases c cause (bits_on 32 c) refl e

pub literal_stops : (c : Cursor) (cause : Cause) → AreFewer 32 c cause → literal_on c ≡ Err cause
unfolding literal_on
literal_stops c cause few = rw (bits_stop 32 c cause few) refl

-- ---- blocks

-- how much is left behind so many bits
left_fewer : (n : ℕ) (c : Cursor) → length (bits_left (skip n c)) ≡ length (bits_left c) - n
left_fewer n c = ap length (left_behind n c) ∙ length-drop n (bits_left c)

bytes_fewer : (n : ℕ) (c : Cursor) → length (bits_left c) < 8 * n → bytes_on n c ≡ Err UnitShort
unfolding bytes_on
bytes_fewer zero c few = absurd (omega arith)
bytes_fewer (suc n) c few =
    elim (cases_lt (length (bits_left c)) 8) [
      | inl lt ↦ rw (bits_on_short 8 c lt) refl
      | inr le ↦ rw (enough 8 c le, bytes_fewer n (skip 8 c) (omega (arith, left_fewer 8 c))) refl
    ]

bytes_enough : (n : ℕ) (c : Cursor) → 8 * n ≤ length (bits_left c) → (x : List ℕ × Cursor) × (bytes_on n c ≡ Ok x)
unfolding bytes_on
bytes_enough zero c some = (([], c), refl)
bytes_enough (suc n) c some =
    let more = bytes_enough n (skip 8 c) (omega (arith, left_fewer 8 c)) in
    ((number_from 0 (take 8 (bits_left c)) ∷ more.0.0, more.0.1), rw (enough 8 c (omega arith), more.1) refl)

pub bytes_refused : (n : ℕ) (c : Cursor) (cause : Cause) → bytes_on n c ≡ Err cause → AreFewer (8 * n) c cause
bytes_refused n c cause e =
    elim (cases_lt (length (bits_left c)) (8 * n)) [
      | inl lt ↦ (lt, same_cause (bytes_on n c) cause UnitShort e (bytes_fewer n c lt))
      | inr le ↦
          let x = bytes_enough n c le in
          never (bytes_on n c) x.0 cause x.1 e
    ]

pub bytes_stop : (n : ℕ) (c : Cursor) (cause : Cause) → AreFewer (8 * n) c cause → bytes_on n c ≡ Err cause
bytes_stop n c cause few = rw few.1 (bytes_fewer n c few.0)

-- ---- flags

flag_cases : (c : Cursor) (cause : Cause) (left : List Bool) → bits_left c ≡ left → bit_next c ≡ Err cause → AreFewer 1 c cause
flag_cases c cause [] is e = (omega (arith, ap length is), same_cause (bit_next c) cause UnitShort e (next_is c [] is))
flag_cases c cause (b ∷ left) is e = never (bit_next c) (b, skip 1 c) cause (next_is c (b ∷ left) is) e

pub flag_refused : (c : Cursor) (cause : Cause) → bit_next c ≡ Err cause → AreFewer 1 c cause
flag_refused c cause e = flag_cases c cause (bits_left c) refl e

none_next : (c : Cursor) (cause : Cause) (left : List Bool) → bits_left c ≡ left → AreFewer 1 c cause → bit_next c ≡ Err cause
none_next c cause [] is few = rw few.1 (next_is c [] is)
none_next c cause (b ∷ left) is few = absurd (omega (arith, few.0, ap length is))

pub flag_stops : (c : Cursor) (cause : Cause) → AreFewer 1 c cause → bit_next c ≡ Err cause
flag_stops c cause few = none_next c cause (bits_left c) refl few
