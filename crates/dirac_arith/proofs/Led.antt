-- Readings that decisions led to, and what is read of them.
use Rattle.std.proofs.Common.{◌≡◌, ℕ, ℤ, ◌-◌, ◌^◌, ◌<◌, Bool, false, List, [], ◌∷◌, ◌++◌, length, nat_abs, inl, inr, Result, Ok, Err, refl, sym, ap, ◌∙◌, arith, subst, length-append}
use Rattle.std.proofs.lemmas.Bool.{cases_eq}
use Rattle.dirac_common.specs.declared.faults.Cause.{Cause}
use Rattle.dirac_common.specs.declared.faults.Cause.TheVariants as cause
use Rattle.dirac_arith.specs.Carried.{Lies, Carries}
use Rattle.dirac_arith.specs.Deciding.{begin, after_decision, after_all, truth_of, decision_read, number_read, signed_read}
use Rattle.dirac_arith.specs.Front.{front}
use Rattle.dirac_arith.specs.Interval.{Interval, Decision}
use Rattle.dirac_arith.specs.Reading.{Reading, DecisionsAreRead}
use Rattle.dirac_arith.specs.Spelling.{spelt, spelling, signed_spelling}
use Rattle.dirac_arith.proofs.Carrieds.{IsLed, is_led, not_shut, number_reads, signed_reads, signed_more, no_answer, one_answer, reads_of}
use Rattle.dirac_arith.proofs.Decidings.{some_truth, decided_open, decided_shut, decided_is, number_is, number_is_long, number_is_shut, signed_is_read, signed_is_long, signed_is_shut}
use Rattle.dirac_arith.proofs.Numbers.{spelt_some}
use Rattle.dirac_arith.proofs.Spellings.{tame_by, lies_first, narrowed_by-append, spelling_some, carried_lies, lies_carried}

-- nothing is read of a reading yet
pub reads_nothing : (r : Reading) → DecisionsAreRead r [] r
reads_nothing r = record { moved = refl; lies = λ some. absurd (omega arith) }

pub led_begin : (block : List ℕ) → IsLed (begin block)
led_begin block = is_led block [] (begin block) (reads_nothing (begin block))

-- decisions lead on
pub led_more : (r s : Reading) (ds : List Decision) → IsLed r → DecisionsAreRead r ds s → IsLed s
led_more r s [] led reads = subst IsLed (sym reads.moved) led
led_more r s (d ∷ ds) led reads =
    let lies = reads.lies (omega arith) in
    let P : Reading → Type 0 = λ x. IsLed x in
    let here : IsLed (after_all r (d ∷ ds)) =
    record {
      tame = tame_by r.at (d ∷ ds) led.tame;
      lies = λ some. lies;
      some = λ there. led.some (lies_first r.block r.at (d ∷ ds) led.tame there);
    } in
    subst P (sym reads.moved) here

-- what is read of decisions and others is read of the first and then of the others
pub record Parted (r : Reading) (ds es : List Decision) (s : Reading) : Type 0 where
  pub mid : Reading
  pub first : DecisionsAreRead r ds mid
  pub then : DecisionsAreRead mid es s

pub reads_parted : (r s : Reading) (ds es : List Decision) → IsLed r → DecisionsAreRead r (ds ++ es) s → Parted r ds es s
reads_parted r s ds es led reads =
    let joined = narrowed_by-append r.at ds es in
    let mid = after_all r ds in
    let P : Interval → Type 0 = λ i. Lies r.block i in
    record {
      mid = mid;
      first = record {
        moved = refl;
        lies = λ some. lies_first r.block mid.at es (tame_by r.at ds led.tame) (subst P joined (reads.lies (omega (arith, length-append ds es))));
      };
      then = record {
        moved = reads.moved ∙ ap (λ (i : Interval). let x : Reading = record { block = r.block; at = i } in x) joined;
        lies = λ some. subst P joined (reads.lies (omega (arith, length-append ds es)));
      };
    }

-- what a block carries is read of its start
pub carried_reads : (block : List ℕ) (ds : List Decision) → Carries block ds → DecisionsAreRead (begin block) ds (after_all (begin block) ds)
carried_reads block ds carries = record { moved = refl; lies = λ some. carried_lies block ds some carries }

pub reads_carried : (block : List ℕ) (ds : List Decision) (s : Reading) → DecisionsAreRead (begin block) ds s → Carries block ds
reads_carried block ds s reads = lies_carried block ds reads.lies

-- decisions that the block carries are the answers
pub decision_led : (r s : Reading) (context : ℕ) (t : Bool) → IsLed r → (let d : Decision = (context, t) in DecisionsAreRead r (d ∷ []) s) → decision_read context r ≡ Ok (t, s)
decision_led r s context t led reads =
    let d : Decision = (context, t) in
    let some = not_shut r (d ∷ []) led (omega arith) reads.lies in
    decided_is context t r some (reads.lies (omega arith))
    ∙ ap (λ (x : Reading). let y : Result (Bool × Reading) Cause = Ok (t, x) in y) (sym reads.moved)

pub number_led : (r s : Reading) (follow : List ℕ) (bits v : ℕ) → IsLed r → v < 2 ^ 39 - 1 → DecisionsAreRead r (spelling follow bits v) s → number_read follow bits r ≡ Ok (v, s)
number_led r s follow bits v led fits reads =
    let more = spelling_some follow bits v in
    let some = not_shut r (spelling follow bits v) led more reads.lies in
    number_is follow bits v r led.tame some fits (reads.lies more)
    ∙ ap (λ (x : Reading). let y : Result (ℕ × Reading) Cause = Ok (v, x) in y) (sym reads.moved)

pub signed_led : (r s : Reading) (follow : List ℕ) (bits sign : ℕ) (v : ℤ) → IsLed r → nat_abs v < 2 ^ 39 - 1 → DecisionsAreRead r (signed_spelling follow bits sign v) s → signed_read follow bits sign r ≡ Ok (v, s)
signed_led r s follow bits sign v led fits reads =
    let more = signed_more follow bits sign v in
    let some = not_shut r (signed_spelling follow bits sign v) led more reads.lies in
    signed_is_read follow bits sign v r led.tame some fits (reads.lies more)
    ∙ ap (λ (x : Reading). let y : Result (ℤ × Reading) Cause = Ok (v, x) in y) (sym reads.moved)

pub number_long_led : (r s : Reading) (follow : List ℕ) (bits : ℕ) (digits : List Bool) → IsLed r → length digits ≡ 38 → DecisionsAreRead r (spelt follow bits digits false) s → number_read follow bits r ≡ Err cause.NumberTooLong
number_long_led r s follow bits digits led count reads =
    let more = spelt_some follow bits digits false in
    number_is_long follow bits digits r led.tame (not_shut r (spelt follow bits digits false) led more reads.lies) count (reads.lies more)

pub signed_long_led : (r s : Reading) (follow : List ℕ) (bits sign : ℕ) (digits : List Bool) → IsLed r → length digits ≡ 38 → DecisionsAreRead r (spelt follow bits digits false) s → signed_read follow bits sign r ≡ Err cause.NumberTooLong
signed_long_led r s follow bits sign digits led count reads =
    let more = spelt_some follow bits digits false in
    signed_is_long follow bits sign digits r led.tame (not_shut r (spelt follow bits digits false) led more reads.lies) count (reads.lies more)

-- and the answers are decisions that the block carries
pub decision_leads : (r s : Reading) (context : ℕ) (t : Bool) → IsLed r → decision_read context r ≡ Ok (t, s) → (let d : Decision = (context, t) in DecisionsAreRead r (d ∷ []) s)
decision_leads r s context t led e =
    elim (cases_eq (front r.block 16) 0xFFFF) [
      | inl ones ↦ absurd (no_answer (decision_read context r) (t, s) cause.CodeWord e (decided_shut context r ones))
      | inr some ↦
          let u = truth_of context r in
          let one = one_answer (decision_read context r) (t, s) (u, after_decision r (context, u)) e (decided_open context r some) in
          let told : t ≡ u = ap (λ x. x.0) one in
          let moved : s ≡ after_decision r (context, u) = ap (λ x. x.1) one in
          let P : Bool → Type 0 = λ w. let d : Decision = (context, w) in DecisionsAreRead r (d ∷ []) s in
          let f : Decision = (context, u) in
          subst P (sym told) (reads_of r s (f ∷ []) moved (some_truth r.block r.at context (led.lies some)))
    ]

pub number_leads : (r s : Reading) (follow : List ℕ) (bits v : ℕ) → IsLed r → number_read follow bits r ≡ Ok (v, s) → (v < 2 ^ 39 - 1) × DecisionsAreRead r (spelling follow bits v) s
number_leads r s follow bits v led e =
    elim (cases_eq (front r.block 16) 0xFFFF) [
      | inl ones ↦ absurd (no_answer (number_read follow bits r) (v, s) cause.CodeWord e (number_is_shut follow bits r ones))
      | inr some ↦ number_reads r s follow bits v led some e
    ]

pub signed_leads : (r s : Reading) (follow : List ℕ) (bits sign : ℕ) (v : ℤ) → IsLed r → signed_read follow bits sign r ≡ Ok (v, s) → (nat_abs v < 2 ^ 39 - 1) × DecisionsAreRead r (signed_spelling follow bits sign v) s
signed_leads r s follow bits sign v led e =
    elim (cases_eq (front r.block 16) 0xFFFF) [
      | inl ones ↦ absurd (no_answer (signed_read follow bits sign r) (v, s) cause.CodeWord e (signed_is_shut follow bits sign r ones))
      | inr some ↦ signed_reads r s follow bits sign v led some e
    ]
