-- What a block reads to, and the decisions that it carries.
use Rattle.std.proofs.Common.{◌≡◌, ◌≢◌, ℕ, ℤ, pos, negsuc, zero, suc, ◌+◌, ◌-◌, ◌*◌, ◌^◌, ◌<◌, ◌≤◌, ◌⊎◌, inl, inr, Bool, true, false, List, [], ◌∷◌, length, nat_abs, Result, Ok, Err, refl, sym, ap, ◌∙◌, arith, subst, true≢false}
use Rattle.std.proofs.lemmas.Bool.{cases_lt, cases_Bool, and_from, and_parts, le-leb, lt-ltb, leb-true, ltb-true, eq-eqb, ne_eqb}
use Rattle.dirac_common.specs.Bits.{bit_value, number_from}
use Rattle.dirac_common.specs.Numbers.{digits_of}
use Rattle.dirac_common.specs.declared.faults.Cause.{Cause}
use Rattle.dirac_common.specs.declared.faults.Cause.TheVariants as cause
use Rattle.dirac_common.proofs.Digits.{digits_value, digits_few}
use Rattle.dirac_arith.specs.Carried.{Lies, lies_in}
use Rattle.dirac_arith.specs.Deciding.{after_decision, after_all, truth_of, decision_read, number_from_digit, number_read, sign_read, signed_read}
use Rattle.dirac_arith.specs.Front.{front}
use Rattle.dirac_arith.specs.Interval.{Interval, Decision, doublings_for, split_width, interval_kept, widened, narrowed, narrowed_by}
use Rattle.dirac_arith.specs.Reading.{Reading}
use Rattle.dirac_arith.specs.Spelling.{follow_at, spelt, spelling, signed_spelling}
use Rattle.dirac_arith.proofs.Fronts.{front_longer, rest_below}
use Rattle.dirac_arith.proofs.Intervals.{one_truth}
use Rattle.dirac_arith.proofs.Spellings.{IsTame, tame_narrowed, tame_by, lies_first, narrowed_by-append, spelt_from, spelt_alone}
use Rattle.std.proofs.Math.Nat.{mul-le-mul_right}

pub lies_in_is : (block : List ℕ) (s : Interval) → Lies block s → lies_in block s ≡ true
lies_in_is block s lies =
    let f = front block (16 + s.doublings) in
    and_from _ _ (le-leb s.low f lies.above) (lt-ltb f (s.low + s.range) lies.below)

pub lies_is_in : (block : List ℕ) (s : Interval) → lies_in block s ≡ true → Lies block s
lies_is_in block s is =
    let f = front block (16 + s.doublings) in
    let parts = and_parts _ _ is in
    record { above = leb-true s.low f parts.0; below = ltb-true f (s.low + s.range) parts.1 }

-- where the front lies before doublings, it lies after them
lies_after_doublings : (block : List ℕ) (low range k j : ℕ) → low ≤ front block (16 + k) → front block (16 + k) < low + range
    → (low * 2 ^ j ≤ front block (16 + (k + j))) × (front block (16 + (k + j)) < low * 2 ^ j + range * 2 ^ j)
lies_after_doublings block low range k j above below =
    let sum : 16 + (k + j) ≡ 16 + k + j = omega arith in
    let longer = front_longer block (16 + k) j in
    let rest = rest_below block (16 + k) j in
    let front' = front block (16 + k) in
    let least = mul-le-mul_right {m = low} {n = front'} (2 ^ j) above in
    let most = mul-le-mul_right {m = suc front'} {n = low + range} (2 ^ j) below in
    rw sum (omega arith, omega arith)

widened_lies : (block : List ℕ) (s : Interval) → Lies block s → Lies block (widened s)
widened_lies block s lies =
    let after = lies_after_doublings block s.low s.range s.doublings (doublings_for s.range) lies.above lies.below in
    record { above = after.0; below = after.1 }

-- the front lies in one of the parts
some_part : (block : List ℕ) (s : Interval) (context : ℕ) → Lies block s → Lies block (narrowed s (context, true)) ⊎ Lies block (narrowed s (context, false))
some_part block s context lies =
    let above = lies.above in
    let below = lies.below in
    elim (cases_lt (front block (16 + s.doublings)) (s.low + split_width s context)) [
      | inl under ↦ inr (widened_lies block (interval_kept s context false) (record { above = above; below = under }))
      | inr over ↦ inl (widened_lies block (interval_kept s context true) (record { above = over; below = omega arith }))
    ]

pub some_truth : (block : List ℕ) (s : Interval) (context : ℕ) → Lies block s → Lies block (narrowed s (context, lies_in block (narrowed s (context, true))))
some_truth block s context lies =
    let P : Bool → Type 0 = λ t. Lies block (narrowed s (context, t)) in
    let t = lies_in block (narrowed s (context, true)) in
    elim (some_part block s context lies) [
      | inl upper ↦ subst P (sym (lies_in_is block (narrowed s (context, true)) upper)) upper
      | inr lower ↦
          elim (cases_Bool t) [
            | inl is ↦ subst P (sym is) (lies_is_in block (narrowed s (context, true)) is)
            | inr is ↦ subst P (sym is) lower
          ]
    ]

-- the truth that lies is the one that is told
truth_is : (r : Reading) (context : ℕ) (t : Bool) → Lies r.block (narrowed r.at (context, t)) → truth_of context r ≡ t
truth_is r context true lies = lies_in_is r.block (narrowed r.at (context, true)) lies
truth_is r context false lies =
    elim (cases_Bool (truth_of context r)) [
      | inl is ↦ absurd (true≢false (one_truth r.block r.at context true false (lies_is_in r.block (narrowed r.at (context, true)) is) lies))
      | inr is ↦ is
    ]

pub decided_open : (context : ℕ) (r : Reading) → front r.block 16 ≢ 0xFFFF → decision_read context r ≡ Ok (truth_of context r, after_decision r (context, truth_of context r))
unfolding decision_read
decided_open context r some = rw (ne_eqb (front r.block 16) 0xFFFF some) refl

pub decided_shut : (context : ℕ) (r : Reading) → front r.block 16 ≡ 0xFFFF → decision_read context r ≡ Err cause.CodeWord
unfolding decision_read
decided_shut context r ones = rw (eq-eqb (front r.block 16) 0xFFFF ones) refl

pub decided_is : (context : ℕ) (t : Bool) (r : Reading) → front r.block 16 ≢ 0xFFFF → Lies r.block (narrowed r.at (context, t)) → decision_read context r ≡ Ok (t, after_decision r (context, t))
decided_is context t r some lies =
    let make : Bool → Result (Bool × Reading) Cause = λ u. Ok (u, after_decision r (context, u)) in
    decided_open context r some ∙ ap make (truth_is r context t lies)

-- a number whose digits and last follow decision a block carries is read
number_digits : (digits : List Bool) (follow : List ℕ) (bits i left value : ℕ) (r : Reading) → IsTame r.at → front r.block 16 ≢ 0xFFFF → length digits ≤ left
    → Lies r.block (narrowed_by r.at (spelt_from follow bits i digits true []))
    → number_from_digit follow bits i left value r ≡ Ok (number_from value digits - 1, after_all r (spelt_from follow bits i digits true []))
unfolding number_from_digit spelt_from
number_digits [] follow bits i zero value r tame some few lies = rw (decided_is (follow_at follow i) true r some lies) refl
number_digits [] follow bits i (suc left) value r tame some few lies = rw (decided_is (follow_at follow i) true r some lies) refl
number_digits (b ∷ bs) follow bits i zero value r tame some few lies = absurd (omega arith)
number_digits (b ∷ bs) follow bits i (suc left) value r tame some few lies =
    let open' = after_decision r (follow_at follow i, false) in
    let next = after_decision open' (bits, b) in
    let rest = spelt_from follow bits (i + 1) bs true [] in
    let tame' = tame_narrowed r.at (follow_at follow i) false tame in
    let tame'' = tame_narrowed open'.at bits b tame' in
    let second : Lies r.block (narrowed open'.at (bits, b)) = lies_first r.block next.at rest tame'' lies in
    let first : Lies r.block open'.at = lies_first r.block open'.at ((bits, b) ∷ rest) tame' lies in
    rw (decided_is (follow_at follow i) false r some first, decided_is bits b open' some second)
    (number_digits bs follow bits (i + 1) left (2 * value + bit_value b) next tame'' some (omega arith) lies)

-- one with as many digits as have room, and a false follow decision behind them, is too long
number_long : (digits : List Bool) (follow : List ℕ) (bits i left value : ℕ) (r : Reading) → IsTame r.at → front r.block 16 ≢ 0xFFFF → length digits ≡ left
    → Lies r.block (narrowed_by r.at (spelt_from follow bits i digits false []))
    → number_from_digit follow bits i left value r ≡ Err cause.NumberTooLong
unfolding number_from_digit spelt_from
number_long [] follow bits i zero value r tame some few lies = rw (decided_is (follow_at follow i) false r some lies) refl
number_long [] follow bits i (suc left) value r tame some few lies = absurd (omega arith)
number_long (b ∷ bs) follow bits i zero value r tame some few lies = absurd (omega arith)
number_long (b ∷ bs) follow bits i (suc left) value r tame some few lies =
    let open' = after_decision r (follow_at follow i, false) in
    let next = after_decision open' (bits, b) in
    let rest = spelt_from follow bits (i + 1) bs false [] in
    let tame' = tame_narrowed r.at (follow_at follow i) false tame in
    let tame'' = tame_narrowed open'.at bits b tame' in
    let second : Lies r.block (narrowed open'.at (bits, b)) = lies_first r.block next.at rest tame'' lies in
    let first : Lies r.block open'.at = lies_first r.block open'.at ((bits, b) ∷ rest) tame' lies in
    rw (decided_is (follow_at follow i) false r some first, decided_is bits b open' some second)
    (number_long bs follow bits (i + 1) left (2 * value + bit_value b) next tame'' some (omega arith) lies)

number_shut : (follow : List ℕ) (bits i left value : ℕ) (r : Reading) → front r.block 16 ≡ 0xFFFF → number_from_digit follow bits i left value r ≡ Err cause.CodeWord
unfolding number_from_digit
number_shut follow bits i zero value r ones = rw (decided_shut (follow_at follow i) r ones) refl
number_shut follow bits i (suc left) value r ones = rw (decided_shut (follow_at follow i) r ones) refl

-- where the front lies after decisions it lies at first, so a block whose front lies doesn't begin with ones
pub number_is : (follow : List ℕ) (bits v : ℕ) (r : Reading) → IsTame r.at → front r.block 16 ≢ 0xFFFF → v < 2 ^ 39 - 1
    → Lies r.block (narrowed_by r.at (spelling follow bits v)) → number_read follow bits r ≡ Ok (v, after_all r (spelling follow bits v))
unfolding number_read spelling
number_is follow bits v r tame some fits lies =
    let digits = digits_of v in
    let same = spelt_alone follow bits digits true in
    let lies' = subst (λ (ds : List Decision). Lies r.block (narrowed_by r.at ds)) same lies in
    let value : number_from 1 digits - 1 ≡ v = omega (arith, digits_value v (omega arith)) in
    number_digits digits follow bits 0 38 1 r tame some (digits_few v) lies'
    ∙ ap (λ (w : ℕ). let x : Result (ℕ × Reading) Cause = Ok (w, after_all r (spelt_from follow bits 0 digits true [])) in x) value
    ∙ ap (λ (ds : List Decision). let x : Result (ℕ × Reading) Cause = Ok (v, after_all r ds) in x) (sym same)

pub number_is_long : (follow : List ℕ) (bits : ℕ) (digits : List Bool) (r : Reading) → IsTame r.at → front r.block 16 ≢ 0xFFFF → length digits ≡ 38
    → Lies r.block (narrowed_by r.at (spelt follow bits digits false)) → number_read follow bits r ≡ Err cause.NumberTooLong
unfolding number_read
number_is_long follow bits digits r tame some count lies =
    number_long digits follow bits 0 38 1 r tame some count
    (subst (λ (ds : List Decision). Lies r.block (narrowed_by r.at ds)) (spelt_alone follow bits digits false) lies)

pub number_is_shut : (follow : List ℕ) (bits : ℕ) (r : Reading) → front r.block 16 ≡ 0xFFFF → number_read follow bits r ≡ Err cause.CodeWord
unfolding number_read
number_is_shut follow bits r ones = number_shut follow bits 0 38 1 r ones

pub signed_is_read : (follow : List ℕ) (bits sign : ℕ) (v : ℤ) (r : Reading) → IsTame r.at → front r.block 16 ≢ 0xFFFF → nat_abs v < 2 ^ 39 - 1
    → Lies r.block (narrowed_by r.at (signed_spelling follow bits sign v)) → signed_read follow bits sign r ≡ Ok (v, after_all r (signed_spelling follow bits sign v))
unfolding signed_read sign_read signed_spelling
signed_is_read follow bits sign (pos zero) r tame some fits lies = rw (number_is follow bits 0 r tame some fits lies) refl
signed_is_read follow bits sign (pos (suc n)) r tame some fits lies =
    let d : Decision = (sign, false) in
    let ds = spelling follow bits (suc n) in
    let joined = narrowed_by-append r.at ds (d ∷ []) in
    let mid = after_all r ds in
    let last : Lies r.block (narrowed mid.at d) = subst (λ (s : Interval). Lies r.block s) joined lies in
    let first : Lies r.block mid.at = lies_first r.block mid.at (d ∷ []) (tame_by r.at ds tame) last in
    rw (number_is follow bits (suc n) r tame some fits first, ne_eqb (suc n) 0 (λ e. omega arith), decided_is sign false mid some last)
    (ap (λ (s : Interval). let x : Result (ℤ × Reading) Cause = Ok (pos (suc n), record { block = r.block; at = s }) in x) (sym joined))
signed_is_read follow bits sign (negsuc n) r tame some fits lies =
    let d : Decision = (sign, true) in
    let ds = spelling follow bits (suc n) in
    let joined = narrowed_by-append r.at ds (d ∷ []) in
    let mid = after_all r ds in
    let last : Lies r.block (narrowed mid.at d) = subst (λ (s : Interval). Lies r.block s) joined lies in
    let first : Lies r.block mid.at = lies_first r.block mid.at (d ∷ []) (tame_by r.at ds tame) last in
    rw (number_is follow bits (suc n) r tame some fits first, ne_eqb (suc n) 0 (λ e. omega arith), decided_is sign true mid some last)
    (ap (λ (s : Interval). let x : Result (ℤ × Reading) Cause = Ok (negsuc n, record { block = r.block; at = s }) in x) (sym joined))

pub signed_is_long : (follow : List ℕ) (bits sign : ℕ) (digits : List Bool) (r : Reading) → IsTame r.at → front r.block 16 ≢ 0xFFFF → length digits ≡ 38
    → Lies r.block (narrowed_by r.at (spelt follow bits digits false)) → signed_read follow bits sign r ≡ Err cause.NumberTooLong
unfolding signed_read
signed_is_long follow bits sign digits r tame some count lies = rw (number_is_long follow bits digits r tame some count lies) refl

pub signed_is_shut : (follow : List ℕ) (bits sign : ℕ) (r : Reading) → front r.block 16 ≡ 0xFFFF → signed_read follow bits sign r ≡ Err cause.CodeWord
unfolding signed_read
signed_is_shut follow bits sign r ones = rw (number_is_shut follow bits r ones) refl
