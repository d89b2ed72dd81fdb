-- Behind decisions that a block carries it carries more; and what is read is what it carries.
use Rattle.std.proofs.Common.{◌≡◌, ◌≢◌, ℕ, ℤ, pos, negsuc, zero, suc, ◌+◌, ◌-◌, ◌*◌, ◌^◌, ◌<◌, ◌≤◌, ◌⊎◌, inl, inr, ◌↔◌, Bool, true, false, List, [], ◌∷◌, ◌++◌, length, nat_abs, Result, Ok, Err, IfOk, IfErr, refl, sym, ap, ◌∙◌, arith, subst, length-append, true≢false}
use Rattle.std.proofs.lemmas.Bool.{cases_Bool, cases_eq, eq-eqb, ne_eqb}
use Rattle.std.proofs.Math.Pow.{pow_mono}
use Rattle.dirac_common.specs.Bits.{bit_value, number_from}
use Rattle.dirac_common.specs.declared.faults.Cause.{Cause}
use Rattle.dirac_common.specs.declared.faults.Cause.TheVariants as cause
use Rattle.dirac_common.proofs.Digits.{digits_are, number_from-below, number_from-some}
use Rattle.dirac_common.specs.Chain.{◌>>=◌}
use Rattle.dirac_arith.specs.Carried.{Lies, Carries, lies_in}
use Rattle.dirac_arith.specs.Deciding.{begin, after_decision, after_all, truth_of, decision_read, number_from_digit, number_read, sign_read, signed_read, GivesReading}
use Rattle.dirac_arith.specs.Front.{front}
use Rattle.dirac_arith.specs.Interval.{Interval, Decision, narrowed, narrowed_by, whole}
use Rattle.dirac_arith.specs.Laws.{CarriesSomeTruth, CarriesSomeNumber, CarriesSomeSigned, DecisionIsRead, NumberIsRead, LongNumberIsRefused, SignedIsRead, LongSignedIsRefused, OnesReadToNothing}
use Rattle.dirac_arith.specs.Reading.{Reading, DecisionsAreRead}
use Rattle.dirac_arith.specs.Spelling.{follow_at, spelt, spelling, signed_spelling}
use Rattle.dirac_arith.proofs.Decidings.{some_truth, decided_open, decided_shut, decided_is, number_is, number_is_long, number_is_shut, signed_is_read, signed_is_long, signed_is_shut}
use Rattle.dirac_arith.proofs.Fronts.{front_below}
use Rattle.dirac_arith.proofs.Numbers.{spelt_some}
use Rattle.dirac_arith.proofs.Spellings.{IsTame, tame_by, whole_tame, lies_first, narrowed_by-append, spelt_from, spelling_some, signed_some, lies_carried, spelt_alone}

-- digits and a last follow decision that the front allows: a false one only where no digit has room
pub record SomeSpelt (block : List ℕ) (s : Interval) (follow : List ℕ) (bits i left : ℕ) : Type 0 where
  pub digits : List Bool
  pub last : Bool
  pub few : length digits ≤ left
  pub full : last ≡ false → length digits ≡ left
  pub lies : Lies block (narrowed_by s (spelt_from follow bits i digits last []))

pub some_spelt : (block : List ℕ) (s : Interval) (follow : List ℕ) (bits i left : ℕ) → Lies block s → SomeSpelt block s follow bits i left
unfolding spelt_from
some_spelt block s follow bits i zero lies =
    let t = lies_in block (narrowed s (follow_at follow i, true)) in
    record { digits = []; last = t; few = omega arith; full = λ e. refl; lies = some_truth block s (follow_at follow i) lies }
some_spelt block s follow bits i (suc left) lies =
    let t = lies_in block (narrowed s (follow_at follow i, true)) in
    let P : Bool → Type 0 = λ u. Lies block (narrowed s (follow_at follow i, u)) in
    let here = some_truth block s (follow_at follow i) lies in
    elim (cases_Bool t) [
      | inl is ↦ record { digits = []; last = true; few = omega arith; full = λ e. absurd (true≢false e); lies = subst P is here }
      | inr is ↦
          let open' = narrowed s (follow_at follow i, false) in
          let below : Lies block open' = subst P is here in
          let u = lies_in block (narrowed open' (bits, true)) in
          let rest = some_spelt block (narrowed open' (bits, u)) follow bits (i + 1) left (some_truth block open' bits below) in
          record { digits = u ∷ rest.digits; last = rest.last; few = omega (arith, rest.few); full = λ e. omega (arith, rest.full e); lies = rest.lies }
    ]

value_or : {A : Type 0} → A → Result A Cause → A
value_or d (Ok x) = x
value_or d (Err e) = d

-- an answer is one
pub one_answer : {A : Type 0} (x : Result A Cause) (v w : A) → x ≡ Ok v → x ≡ Ok w → v ≡ w
unfolding value_or
one_answer x v w p q = sym (ap (value_or v) p) ∙ ap (value_or v) q

pub no_answer : {A : Type 0} (x : Result A Cause) (v : A) (e : Cause) → x ≡ Ok v → x ≡ Err e → ⊥
no_answer x v e p q = cc

pub one_cause : {A : Type 0} (x : Result A Cause) → x ≡ Err cause.NumberTooLong → x ≡ Err cause.CodeWord → ⊥
one_cause x p q = cc

-- a block that doesn't begin with ones lies in the first interval
pub start_lies : (block : List ℕ) → front block 16 ≢ 0xFFFF → Lies block whole
start_lies block some = let below = front_below block 16 in record { above = omega arith; below = omega arith }

behind_lies : (block : List ℕ) (common : List Decision) → front block 16 ≢ 0xFFFF → Carries block common → Lies block (narrowed_by whole common)
behind_lies block [] some carries = start_lies block some
behind_lies block (d ∷ ds) some carries = carries

joined_carried : (block : List ℕ) (common ds : List Decision) → Lies block (narrowed_by (narrowed_by whole common) ds) → Carries block (common ++ ds)
joined_carried block common ds lies =
    lies_carried block (common ++ ds) (λ some. subst (λ (s : Interval). Lies block s) (sym (narrowed_by-append whole common ds)) lies)

pub carries_some_truth : CarriesSomeTruth
carries_some_truth block common context some carries =
    let s = narrowed_by whole common in
    let t = lies_in block (narrowed s (context, true)) in
    let d : Decision = (context, t) in
    (t, joined_carried block common (d ∷ []) (some_truth block s context (behind_lies block common some carries)))

-- a number that the front allows, or the begin of one that is too long
abbrev pub SomeNumber : List ℕ → Interval → List ℕ → ℕ → Type 0
SomeNumber block s follow bits =
    ((v : ℕ) × (v < 2 ^ 39 - 1) × Lies block (narrowed_by s (spelling follow bits v)))
    ⊎ ((digits : List Bool) × (length digits ≡ 38) × Lies block (narrowed_by s (spelt follow bits digits false)))

value_fits : (digits : List Bool) → length digits ≤ 38 → number_from 1 digits - 1 < 2 ^ 39 - 1
value_fits digits few =
    let some = number_from-some 1 digits (omega arith) in
    let below = number_from-below 1 (length digits + 1) 1 digits (omega arith) (omega arith) in
    let most : 2 ^ (length digits + 1) ≤ 2 ^ 39 = pow_mono {i = length digits + 1} {j = 39} (omega arith) in
    omega arith

pub some_number : (block : List ℕ) (s : Interval) (follow : List ℕ) (bits : ℕ) → Lies block s → SomeNumber block s follow bits
unfolding spelling
some_number block s follow bits lies =
    let found = some_spelt block s follow bits 0 38 lies in
    let P : List Decision → Type 0 = λ ds. Lies block (narrowed_by s ds) in
    let Q : Bool → Type 0 = λ t. Lies block (narrowed_by s (spelt follow bits found.digits t)) in
    let here = subst P (sym (spelt_alone follow bits found.digits found.last)) found.lies in
    elim (cases_Bool found.last) [
      | inl is ↦
          let R : List Bool → Type 0 = λ ds. Lies block (narrowed_by s (spelt follow bits ds true)) in
          inl (number_from 1 found.digits - 1, value_fits found.digits found.few, subst R (sym (digits_are found.digits found.few)) (subst Q is here))
      | inr is ↦ inr (found.digits, found.full is, subst Q is here)
    ]

abbrev pub SomeSigned : List ℕ → Interval → List ℕ → ℕ → ℕ → Type 0
SomeSigned block s follow bits sign =
    ((v : ℤ) × (nat_abs v < 2 ^ 39 - 1) × Lies block (narrowed_by s (signed_spelling follow bits sign v)))
    ⊎ ((digits : List Bool) × (length digits ≡ 38) × Lies block (narrowed_by s (spelt follow bits digits false)))

-- the sign of a magnitude
with_some_sign : (block : List ℕ) (s : Interval) (follow : List ℕ) (bits sign n : ℕ) → n < 2 ^ 39 - 1 → Lies block (narrowed_by s (spelling follow bits n)) → SomeSigned block s follow bits sign
unfolding signed_spelling
with_some_sign block s follow bits sign zero fits lies = inl (pos 0, fits, lies)
with_some_sign block s follow bits sign (suc n) fits lies =
    let ds = spelling follow bits (suc n) in
    let mid = narrowed_by s ds in
    let t = lies_in block (narrowed mid (sign, true)) in
    let P : Bool → Type 0 = λ u. let d : Decision = (sign, u) in Lies block (narrowed_by s (ds ++ d ∷ [])) in
    let d : Decision = (sign, t) in
    let here : P t = subst (λ (i : Interval). Lies block i) (sym (narrowed_by-append s ds (d ∷ []))) (some_truth block mid sign lies) in
    elim (cases_Bool t) [
      | inl is ↦ inl (negsuc n, fits, subst P is here)
      | inr is ↦ inl (pos (suc n), fits, subst P is here)
    ]

pub some_signed : (block : List ℕ) (s : Interval) (follow : List ℕ) (bits sign : ℕ) → Lies block s → SomeSigned block s follow bits sign
some_signed block s follow bits sign lies =
    elim (some_number block s follow bits lies) [
      | inl found ↦ with_some_sign block s follow bits sign found.0 found.1 found.2
      | inr long ↦ inr long
    ]

pub carries_some_number : CarriesSomeNumber
carries_some_number block common follow bits some carries =
    elim (some_number block (narrowed_by whole common) follow bits (behind_lies block common some carries)) [
      | inl found ↦ inl (found.0, found.1, joined_carried block common (spelling follow bits found.0) found.2)
      | inr long ↦ inr (long.0, long.1, joined_carried block common (spelt follow bits long.0 false) long.2)
    ]

pub carries_some_signed : CarriesSomeSigned
carries_some_signed block common follow bits sign some carries =
    elim (some_signed block (narrowed_by whole common) follow bits sign (behind_lies block common some carries)) [
      | inl found ↦ inl (found.0, found.1, joined_carried block common (signed_spelling follow bits sign found.0) found.2)
      | inr long ↦ inr (long.0, long.1, joined_carried block common (spelt follow bits long.0 false) long.2)
    ]

-- a reading that decisions led to
pub record IsLed (r : Reading) : Type 0 where
  pub tame : IsTame r.at
  pub lies : front r.block 16 ≢ 0xFFFF → Lies r.block r.at
  pub some : Lies r.block r.at → front r.block 16 ≢ 0xFFFF

led_by : (block : List ℕ) (common : List Decision) → (0 < length common → Lies block (narrowed_by whole common)) → IsLed (after_all (begin block) common)
led_by block common lies =
    record {
      tame = tame_by whole common whole_tame;
      lies = λ some. behind_lies block common some (lies_carried block common lies);
      some = λ here. let first = lies_first block whole common whole_tame here in let below = first.below in λ ones. omega arith;
    }

pub is_led : (block : List ℕ) (common : List Decision) (r : Reading) → DecisionsAreRead (begin block) common r → IsLed r
is_led block common r reads = subst IsLed (sym reads.moved) (led_by block common reads.lies)

-- what is read of a reading that decisions led to
pub reads_of : (r s : Reading) (ds : List Decision) → s ≡ after_all r ds → Lies r.block (narrowed_by r.at ds) → DecisionsAreRead r ds s
reads_of r s ds moved lies = record { moved = moved; lies = λ some. lies }

-- where a decision stands, and that the front lies there
pub decided_after : (context : ℕ) (truth : Bool) (old new : Reading) → front old.block 16 ≢ 0xFFFF → Lies old.block old.at → decision_read context old ≡ Ok (truth, new)
    → (new ≡ after_decision old (context, truth)) × Lies old.block (narrowed old.at (context, truth))
decided_after context truth old new some lies e =
    let t = truth_of context old in
    let one = one_answer (decision_read context old) (truth, new) (t, after_decision old (context, t)) e (decided_open context old some) in
    let P : Bool → Type 0 = λ u. (new ≡ after_decision old (context, u)) × Lies old.block (narrowed old.at (context, u)) in
    subst P (sym (ap (λ x. x.0) one)) (ap (λ x. x.1) one, some_truth old.block old.at context lies)

pub decision_is_read : DecisionIsRead
decision_is_read block common old new context truth some reads =
    let led = is_led block common old reads in
    let same : front old.block 16 ≢ 0xFFFF = subst (λ (r : Reading). front r.block 16 ≢ 0xFFFF) (sym reads.moved) some in
    let d : Decision = (context, truth) in (
      λ e.
          let after = decided_after context truth old new same (led.lies same) e in
          reads_of old new (d ∷ []) after.0 after.1,
      λ r. decided_is context truth old same (r.lies (omega arith)) ∙ ap (λ (s : Reading). let x : Result (Bool × Reading) Cause = Ok (truth, s) in x) (sym r.moved),
    )

pub not_shut : (r : Reading) (ds : List Decision) → IsLed r → 0 < length ds → (0 < length ds → Lies r.block (narrowed_by r.at ds)) → front r.block 16 ≢ 0xFFFF
not_shut r ds led some lies = led.some (lies_first r.block r.at ds led.tame (lies some))

-- a number reads to a value, or it is refused, as the front allows
pub number_reads : (r new : Reading) (follow : List ℕ) (bits v : ℕ) → IsLed r → front r.block 16 ≢ 0xFFFF
    → number_read follow bits r ≡ Ok (v, new) → (v < 2 ^ 39 - 1) × DecisionsAreRead r (spelling follow bits v) new
number_reads r new follow bits v led some e =
    elim (some_number r.block r.at follow bits (led.lies some)) [
      | inl found ↦
          let w = found.0 in
          let one = one_answer (number_read follow bits r) (v, new) (w, after_all r (spelling follow bits w)) e (number_is follow bits w r led.tame some found.1 found.2) in
          let told : v ≡ w = ap (λ x. x.0) one in
          let moved : new ≡ after_all r (spelling follow bits w) = ap (λ x. x.1) one in
          let P : ℕ → Type 0 = λ u. (u < 2 ^ 39 - 1) × DecisionsAreRead r (spelling follow bits u) new in
          subst P (sym told) (found.1, reads_of r new (spelling follow bits w) moved found.2)
      | inr long ↦
          absurd (no_answer (number_read follow bits r) (v, new) cause.NumberTooLong e (number_is_long follow bits long.0 r led.tame some long.1 long.2))
    ]

pub number_breaks : (r : Reading) (follow : List ℕ) (bits : ℕ) → IsLed r → front r.block 16 ≢ 0xFFFF
    → number_read follow bits r ≡ Err cause.NumberTooLong → (digits : List Bool) × (length digits ≡ 38) × ((new : Reading) × DecisionsAreRead r (spelt follow bits digits false) new)
number_breaks r follow bits led some e =
    elim (some_number r.block r.at follow bits (led.lies some)) [
      | inl found ↦
          absurd (no_answer (number_read follow bits r) (found.0, after_all r (spelling follow bits found.0)) cause.NumberTooLong (number_is follow bits found.0 r led.tame some found.1 found.2) e)
      | inr long ↦
          let ds = spelt follow bits long.0 false in
          (long.0, long.1, (after_all r ds, reads_of r (after_all r ds) ds refl long.2))
    ]

pub signed_reads : (r new : Reading) (follow : List ℕ) (bits sign : ℕ) (v : ℤ) → IsLed r → front r.block 16 ≢ 0xFFFF
    → signed_read follow bits sign r ≡ Ok (v, new) → (nat_abs v < 2 ^ 39 - 1) × DecisionsAreRead r (signed_spelling follow bits sign v) new
signed_reads r new follow bits sign v led some e =
    elim (some_signed r.block r.at follow bits sign (led.lies some)) [
      | inl found ↦
          let w = found.0 in
          let one = one_answer (signed_read follow bits sign r) (v, new) (w, after_all r (signed_spelling follow bits sign w)) e (signed_is_read follow bits sign w r led.tame some found.1 found.2) in
          let told : v ≡ w = ap (λ x. x.0) one in
          let moved : new ≡ after_all r (signed_spelling follow bits sign w) = ap (λ x. x.1) one in
          let P : ℤ → Type 0 = λ u. (nat_abs u < 2 ^ 39 - 1) × DecisionsAreRead r (signed_spelling follow bits sign u) new in
          subst P (sym told) (found.1, reads_of r new (signed_spelling follow bits sign w) moved found.2)
      | inr long ↦
          absurd (no_answer (signed_read follow bits sign r) (v, new) cause.NumberTooLong e (signed_is_long follow bits sign long.0 r led.tame some long.1 long.2))
    ]

pub signed_breaks : (r : Reading) (follow : List ℕ) (bits sign : ℕ) → IsLed r → front r.block 16 ≢ 0xFFFF
    → signed_read follow bits sign r ≡ Err cause.NumberTooLong → (digits : List Bool) × (length digits ≡ 38) × ((new : Reading) × DecisionsAreRead r (spelt follow bits digits false) new)
signed_breaks r follow bits sign led some e =
    elim (some_signed r.block r.at follow bits sign (led.lies some)) [
      | inl found ↦
          absurd (no_answer (signed_read follow bits sign r) (found.0, after_all r (signed_spelling follow bits sign found.0)) cause.NumberTooLong (signed_is_read follow bits sign found.0 r led.tame some found.1 found.2) e)
      | inr long ↦
          let ds = spelt follow bits long.0 false in
          (long.0, long.1, (after_all r ds, reads_of r (after_all r ds) ds refl long.2))
    ]

pub number_is_read : NumberIsRead
number_is_read block common old new follow bits v reads =
    let led = is_led block common old reads in (
      λ e.
          elim (cases_eq (front old.block 16) 0xFFFF) [
            | inl ones ↦ absurd (no_answer (number_read follow bits old) (v, new) cause.CodeWord e (number_is_shut follow bits old ones))
            | inr some ↦ number_reads old new follow bits v led some e
          ],
      λ p.
          let r = p.1 in
          let more : 0 < length (spelling follow bits v) = spelling_some follow bits v in
          let some = not_shut old (spelling follow bits v) led more r.lies in
          number_is follow bits v old led.tame some p.0 (r.lies more) ∙ ap (λ (s : Reading). let x : Result (ℕ × Reading) Cause = Ok (v, s) in x) (sym r.moved),
    )

pub long_number_is_refused : LongNumberIsRefused
long_number_is_refused block common old follow bits reads =
    let led = is_led block common old reads in (
      λ e.
          elim (cases_eq (front old.block 16) 0xFFFF) [
            | inl ones ↦ absurd (one_cause (number_read follow bits old) e (number_is_shut follow bits old ones))
            | inr some ↦ number_breaks old follow bits led some e
          ],
      λ p.
          let r = p.2.1 in
          let more : 0 < length (spelt follow bits p.0 false) = spelt_some follow bits p.0 false in
          let some = not_shut old (spelt follow bits p.0 false) led more r.lies in
          number_is_long follow bits p.0 old led.tame some p.1 (r.lies more),
    )

pub signed_more : (follow : List ℕ) (bits sign : ℕ) (v : ℤ) → 0 < length (signed_spelling follow bits sign v)
signed_more follow bits sign v =
    omega (arith, signed_some follow bits sign v [], length-append (signed_spelling follow bits sign v) [])

pub signed_number_is_read : SignedIsRead
signed_number_is_read block common old new follow bits sign v reads =
    let led = is_led block common old reads in (
      λ e.
          elim (cases_eq (front old.block 16) 0xFFFF) [
            | inl ones ↦ absurd (no_answer (signed_read follow bits sign old) (v, new) cause.CodeWord e (signed_is_shut follow bits sign old ones))
            | inr some ↦ signed_reads old new follow bits sign v led some e
          ],
      λ p.
          let r = p.1 in
          let more = signed_more follow bits sign v in
          let some = not_shut old (signed_spelling follow bits sign v) led more r.lies in
          signed_is_read follow bits sign v old led.tame some p.0 (r.lies more) ∙ ap (λ (s : Reading). let x : Result (ℤ × Reading) Cause = Ok (v, s) in x) (sym r.moved),
    )

pub long_signed_is_refused : LongSignedIsRefused
long_signed_is_refused block common old follow bits sign reads =
    let led = is_led block common old reads in (
      λ e.
          elim (cases_eq (front old.block 16) 0xFFFF) [
            | inl ones ↦ absurd (one_cause (signed_read follow bits sign old) e (signed_is_shut follow bits sign old ones))
            | inr some ↦ signed_breaks old follow bits sign led some e
          ],
      λ p.
          let r = p.2.1 in
          let more : 0 < length (spelt follow bits p.0 false) = spelt_some follow bits p.0 false in
          let some = not_shut old (spelt follow bits p.0 false) led more r.lies in
          signed_is_long follow bits sign p.0 old led.tame some p.1 (r.lies more),
    )

-- a decision is refused for ones alone
decision_shut : (r : Reading) (context : ℕ) → (decision_read context r ≡ Err cause.CodeWord) ↔ (front r.block 16 ≡ 0xFFFF)
decision_shut r context = (
  λ e.
      elim (cases_eq (front r.block 16) 0xFFFF) [
        | inl ones ↦ ones
        | inr some ↦ absurd (no_answer (decision_read context r) (truth_of context r, after_decision r (context, truth_of context r)) cause.CodeWord (decided_open context r some) e)
      ],
  decided_shut context r,
)

-- and so is a number from its first digit on
digits_shut : (follow : List ℕ) (bits i left value : ℕ) (r : Reading) → front r.block 16 ≢ 0xFFFF → number_from_digit follow bits i left value r ≡ Err cause.CodeWord → ⊥
unfolding number_from_digit
digits_shut follow bits i zero value r some e =
    let e' = rw (decided_open (follow_at follow i) r some) at e in
    elim (cases_Bool (truth_of (follow_at follow i) r)) [
      | inl is ↦ let f = rw is at e' in absurd (no_answer _ _ cause.CodeWord refl f)
      | inr is ↦ let f = rw is at e' in one_cause _ refl f
    ]
digits_shut follow bits i (suc left) value r some e =
    let e' = rw (decided_open (follow_at follow i) r some) at e in
    elim (cases_Bool (truth_of (follow_at follow i) r)) [
      | inl is ↦ let f = rw is at e' in absurd (no_answer _ _ cause.CodeWord refl f)
      | inr is ↦
          let open' = after_decision r (follow_at follow i, false) in
          let f = rw (is, decided_open bits open' some) at e' in
          digits_shut follow bits (i + 1) left (2 * value + bit_value (truth_of bits open')) (after_decision open' (bits, truth_of bits open')) some f
    ]

-- the block stays the same
digits_block : (follow : List ℕ) (bits i left value : ℕ) (r : Reading) (x : ℕ × Reading) → front r.block 16 ≢ 0xFFFF → number_from_digit follow bits i left value r ≡ Ok x → x.1.block ≡ r.block
unfolding number_from_digit
digits_block follow bits i zero value r x some e =
    let e' = rw (decided_open (follow_at follow i) r some) at e in
    elim (cases_Bool (truth_of (follow_at follow i) r)) [
      | inl is ↦ let f = rw is at e' in ap (λ (y : ℕ × Reading). y.1.block) (one_answer _ x _ refl (sym f))
      | inr is ↦ let f = rw is at e' in absurd (no_answer _ x cause.NumberTooLong f refl)
    ]
digits_block follow bits i (suc left) value r x some e =
    let e' = rw (decided_open (follow_at follow i) r some) at e in
    elim (cases_Bool (truth_of (follow_at follow i) r)) [
      | inl is ↦ let f = rw is at e' in ap (λ (y : ℕ × Reading). y.1.block) (one_answer _ x _ refl (sym f))
      | inr is ↦
          let open' = after_decision r (follow_at follow i, false) in
          let f = rw (is, decided_open bits open' some) at e' in
          digits_block follow bits (i + 1) left (2 * value + bit_value (truth_of bits open')) (after_decision open' (bits, truth_of bits open')) x some f
    ]

number_shuts : (r : Reading) (follow : List ℕ) (bits : ℕ) → (number_read follow bits r ≡ Err cause.CodeWord) ↔ (front r.block 16 ≡ 0xFFFF)
unfolding number_read
number_shuts r follow bits = (
  λ e.
      elim (cases_eq (front r.block 16) 0xFFFF) [
        | inl ones ↦ ones
        | inr some ↦ absurd (digits_shut follow bits 0 38 1 r some e)
      ],
  number_is_shut follow bits r,
)

-- a sign can always be read
sign_open : (sign : ℕ) (n : ℕ × Reading) → front n.1.block 16 ≢ 0xFFFF → sign_read sign n ≡ Err cause.CodeWord → ⊥
unfolding sign_read
sign_open sign n some e =
    elim (cases_eq n.0 0) [
      | inl none ↦ let f = rw (eq-eqb n.0 0 none) at e in no_answer _ _ cause.CodeWord refl f
      | inr more ↦ let f = rw (ne_eqb n.0 0 more, decided_open sign n.1 some) at e in no_answer _ _ cause.CodeWord refl f
    ]

signed_open : (sign : ℕ) (x : Result (ℕ × Reading) Cause) (block : List ℕ) → front block 16 ≢ 0xFFFF
    → (x ≡ Err cause.CodeWord → ⊥) → ((n : ℕ × Reading) → x ≡ Ok n → n.1.block ≡ block) → (x >>= sign_read sign) ≡ Err cause.CodeWord → ⊥
signed_open sign (Ok n) block some open' same e = sign_open sign n (λ ones. some (ap (λ b. front b 16) (sym (same n refl)) ∙ ones)) e
signed_open sign (Err c) block some open' same e = let is : c ≡ cause.CodeWord = cc in open' (ap Err is)

signed_shuts : (r : Reading) (follow : List ℕ) (bits sign : ℕ) → (signed_read follow bits sign r ≡ Err cause.CodeWord) ↔ (front r.block 16 ≡ 0xFFFF)
unfolding signed_read number_read
signed_shuts r follow bits sign = (
  λ e.
      elim (cases_eq (front r.block 16) 0xFFFF) [
        | inl ones ↦ ones
        | inr some ↦
            absurd (signed_open sign (number_from_digit follow bits 0 38 1 r) r.block some
            (λ shut. digits_shut follow bits 0 38 1 r some shut) (λ n is. digits_block follow bits 0 38 1 r n some is) e)
      ],
  signed_is_shut follow bits sign r,
)

-- a signed number stays in its block
sign_block : (sign : ℕ) (x : Result (ℕ × Reading) Cause) (block : List ℕ) (v : ℤ × Reading) → front block 16 ≢ 0xFFFF
    → ((n : ℕ × Reading) → x ≡ Ok n → n.1.block ≡ block) → (x >>= sign_read sign) ≡ Ok v → v.1.block ≡ block
unfolding sign_read
sign_block sign (Err c) block v some same e = absurd (no_answer (Err c) v c e refl)
sign_block sign (Ok n) block v some same e =
    let here = same n refl in
    elim (cases_eq n.0 0) [
      | inl none ↦ let f = rw (eq-eqb n.0 0 none) at e in ap (λ (y : ℤ × Reading). y.1.block) (one_answer _ v _ refl (sym f)) ∙ here
      | inr more ↦
          let f = rw (ne_eqb n.0 0 more, decided_open sign n.1 (λ ones. some (ap (λ b. front b 16) (sym here) ∙ ones))) at e in
          ap (λ (y : ℤ × Reading). y.1.block) (one_answer _ v _ refl (sym f)) ∙ here
    ]

pub signed_block : (follow : List ℕ) (bits sign : ℕ) (r : Reading) (v : ℤ × Reading) → front r.block 16 ≢ 0xFFFF
    → signed_read follow bits sign r ≡ Ok v → v.1.block ≡ r.block
unfolding signed_read number_read
signed_block follow bits sign r v some e =
    sign_block sign (number_from_digit follow bits 0 38 1 r) r.block v some (λ n is. digits_block follow bits 0 38 1 r n some is) e

pub ones_read_to_nothing : OnesReadToNothing
ones_read_to_nothing r follow context bits sign = (decision_shut r context, number_shuts r follow bits, signed_shuts r follow bits sign)

-- a decoder's answers, whose clauses tell what was read
pub number_gives : (x : Result ℕ Cause) (a b : Reading) (follow : List ℕ) (bits : ℕ) → IsTame a.at
    → IfOk x (λ w. DecisionsAreRead a (spelling follow bits w) b) → IfOk x (λ w. w < 2 ^ 39 - 1)
    → (x ≡ Err cause.NumberTooLong → (digits : List Bool) × (length digits ≡ 38) × DecisionsAreRead a (spelt follow bits digits false) b)
    → ((x ≡ Err cause.CodeWord) ↔ (front a.block 16 ≡ 0xFFFF))
    → IfErr x (λ e. (e ≡ cause.CodeWord) ⊎ (e ≡ cause.NumberTooLong)) → GivesReading x b (number_read follow bits a)
number_gives (Ok w) a b follow bits tame found most long refused only =
    let some : front a.block 16 ≢ 0xFFFF = λ ones. no_answer (Ok w) w cause.CodeWord refl (refused.1 ones) in
    number_is follow bits w a tame some most (found.lies (spelling_some follow bits w))
    ∙ ap (λ (s : Reading). let y : Result (ℕ × Reading) Cause = Ok (w, s) in y) (sym found.moved)
number_gives (Err e) a b follow bits tame found most long refused only =
    elim only [
      | inl is ↦ number_is_shut follow bits a (refused.0 (ap Err is)) ∙ ap Err (sym is)
      | inr is ↦
          let l = long (ap Err is) in
          let some : front a.block 16 ≢ 0xFFFF = λ ones. one_cause (Err e) (ap Err is) (refused.1 ones) in
          number_is_long follow bits l.0 a tame some l.1 (l.2.lies (spelt_some follow bits l.0 false)) ∙ ap Err (sym is)
    ]

pub signed_gives : (x : Result ℤ Cause) (a b : Reading) (follow : List ℕ) (bits sign : ℕ) → IsTame a.at
    → IfOk x (λ w. DecisionsAreRead a (signed_spelling follow bits sign w) b) → IfOk x (λ w. nat_abs w < 2 ^ 39 - 1)
    → (x ≡ Err cause.NumberTooLong → (digits : List Bool) × (length digits ≡ 38) × DecisionsAreRead a (spelt follow bits digits false) b)
    → ((x ≡ Err cause.CodeWord) ↔ (front a.block 16 ≡ 0xFFFF))
    → IfErr x (λ e. (e ≡ cause.CodeWord) ⊎ (e ≡ cause.NumberTooLong)) → GivesReading x b (signed_read follow bits sign a)
signed_gives (Ok w) a b follow bits sign tame found most long refused only =
    let some : front a.block 16 ≢ 0xFFFF = λ ones. no_answer (Ok w) w cause.CodeWord refl (refused.1 ones) in
    signed_is_read follow bits sign w a tame some most (found.lies (signed_more follow bits sign w))
    ∙ ap (λ (s : Reading). let y : Result (ℤ × Reading) Cause = Ok (w, s) in y) (sym found.moved)
signed_gives (Err e) a b follow bits sign tame found most long refused only =
    elim only [
      | inl is ↦ signed_is_shut follow bits sign a (refused.0 (ap Err is)) ∙ ap Err (sym is)
      | inr is ↦
          let l = long (ap Err is) in
          let some : front a.block 16 ≢ 0xFFFF = λ ones. one_cause (Err e) (ap Err is) (refused.1 ones) in
          signed_is_long follow bits sign l.0 a tame some l.1 (l.2.lies (spelt_some follow bits l.0 false)) ∙ ap Err (sym is)
    ]
