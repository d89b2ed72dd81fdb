-- A coded value is read exactly where the block carries decisions that spell it, and refused where it breaks off.
use Rattle.std.proofs.Common.{◌≡◌, ◌≢◌, ℕ, suc, zero, ◌+◌, ◌<◌, false, List, [], ◌++◌, inl, inr, ◌⊎◌, Result, Ok, Err, refl, sym, ap, ◌∙◌, arith, subst}
use Rattle.std.proofs.lemmas.Bool.{cases_eq}
use native.Mathlib.Numerals.{unary_clauses}
use Rattle.dirac_common.specs.Chain.{◌>>=◌}
use Rattle.dirac_common.specs.declared.faults.Cause.{Cause}
use Rattle.dirac_common.specs.declared.faults.Cause.TheVariants as cause
use Rattle.dirac_arith.specs.Carried.{Carries}
use Rattle.dirac_arith.specs.Coded.{Coded, Question, one_decision, one_number, one_signed, Answer, Fits, TooLong, answer, telling, done, ask, refuse, read_coded, and_then, repeated, DecisionsSpell, Breaks}
use Rattle.dirac_arith.specs.CodedLaws.{SpelledIsRead, OneIsSpelled, BrokenIsRefused, OnesAreRefused}
use Rattle.dirac_arith.specs.Deciding.{begin, after_decision, after_all, truth_of}
use Rattle.dirac_arith.specs.Front.{front}
use Rattle.dirac_arith.specs.Interval.{Decision}
use Rattle.dirac_arith.specs.Reading.{Reading, DecisionsAreRead}
use Rattle.dirac_arith.specs.Spelling.{spelt, spelling, signed_spelling}
use Rattle.dirac_arith.proofs.Carrieds.{IsLed, one_answer, some_number, some_signed, reads_of}
use Rattle.dirac_arith.proofs.Decidings.{decided_open, decided_shut, number_is_shut, signed_is_shut}
use Rattle.dirac_arith.proofs.Led.{reads_nothing, led_begin, led_more, reads_parted, carried_reads, reads_carried, decision_led, number_led, number_long_led, signed_led, signed_long_led, decision_leads, number_leads, signed_leads}
use Rattle.dirac_arith.proofs.Spellings.{reads_more}

-- a part that is read, and what is behind it
then_read : {X Y : Type 0} (r : Result (X × Reading) Cause) (k : X × Reading → Result Y Cause) (v : X) (m : Reading) (y : Result Y Cause)
    → r ≡ Ok (v, m) → k (v, m) ≡ y → (r >>= k) ≡ y
then_read r k v m y first second = rw first second

-- the same list of decisions is read
same_reads : (r s : Reading) (ds es : List Decision) → ds ≡ es → DecisionsAreRead r ds s → DecisionsAreRead r es s
same_reads r s ds es e reads = subst (λ (l : List Decision). DecisionsAreRead r l s) e reads

-- ---- answers

answer_led : (q : Question) (a : Answer q) (r s : Reading) → IsLed r → Fits q a → DecisionsAreRead r (telling q a) s → answer q r ≡ Ok (a, s)
answer_led (one_decision context) b r s led fits reads = decision_led r s context b led reads
answer_led (one_number follow bits) n r s led fits reads = number_led r s follow bits n led fits reads
answer_led (one_signed follow bits sign) z r s led fits reads = signed_led r s follow bits sign z led fits reads

answer_leads : (q : Question) (a : Answer q) (r s : Reading) → IsLed r → answer q r ≡ Ok (a, s) → Fits q a × DecisionsAreRead r (telling q a) s
answer_leads (one_decision context) b r s led e = (tt, decision_leads r s context b led e)
answer_leads (one_number follow bits) n r s led e = number_leads r s follow bits n led e
answer_leads (one_signed follow bits sign) z r s led e = signed_leads r s follow bits sign z led e

long_led : (q : Question) (e : Cause) (ds : List Decision) (r s : Reading) → IsLed r → TooLong q e ds → DecisionsAreRead r ds s → answer q r ≡ Err e
long_led (one_decision context) e ds r s led long reads = absurd long
long_led (one_number follow bits) e ds r s led long reads =
    number_long_led r s follow bits long.0 led long.1 (same_reads r s ds (spelt follow bits long.0 false) long.3 reads) ∙ ap Err (sym long.2)
long_led (one_signed follow bits sign) e ds r s led long reads =
    signed_long_led r s follow bits sign long.0 led long.1 (same_reads r s ds (spelt follow bits long.0 false) long.3 reads) ∙ ap Err (sym long.2)

-- an answer, or digits that are too many
abbrev SomeAnswer : Question → Reading → Type 0
SomeAnswer q r = ((a : Answer q) × Fits q a × DecisionsAreRead r (telling q a) (after_all r (telling q a))) ⊎ ((ds : List Decision) × TooLong q cause.NumberTooLong ds × DecisionsAreRead r ds (after_all r ds))

some_answer : (q : Question) (r : Reading) → IsLed r → front r.block 16 ≢ 0xFFFF → SomeAnswer q r
some_answer (one_decision context) r led some =
    inl (truth_of context r, tt, decision_leads r (after_decision r (context, truth_of context r)) context (truth_of context r) led (decided_open context r some))
some_answer (one_number follow bits) r led some = elim (some_number r.block r.at follow bits (led.lies some)) [
  | inl found ↦ inl (found.0, found.1, reads_of r (after_all r (spelling follow bits found.0)) (spelling follow bits found.0) refl found.2)
  | inr long ↦
      let ds = spelt follow bits long.0 false in
      inr (ds, (long.0, long.1, refl, refl), reads_of r (after_all r ds) ds refl long.2)
]
some_answer (one_signed follow bits sign) r led some = elim (some_signed r.block r.at follow bits sign (led.lies some)) [
  | inl found ↦ inl (found.0, found.1, reads_of r (after_all r (signed_spelling follow bits sign found.0)) (signed_spelling follow bits sign found.0) refl found.2)
  | inr long ↦
      let ds = spelt follow bits long.0 false in
      inr (ds, (long.0, long.1, refl, refl), reads_of r (after_all r ds) ds refl long.2)
]

answer_shut : (q : Question) (r : Reading) → front r.block 16 ≡ 0xFFFF → answer q r ≡ Err cause.CodeWord
answer_shut (one_decision context) r ones = decided_shut context r ones
answer_shut (one_number follow bits) r ones = number_is_shut follow bits r ones
answer_shut (one_signed follow bits sign) r ones = signed_is_shut follow bits sign r ones

-- ---- what is spelled is read, and what breaks off is refused

pub spelled_read : {A : Type 0} (s : Coded A) (x : A) (ds : List Decision) (r m : Reading) → IsLed r → DecisionsSpell s x ds → DecisionsAreRead r ds m → read_coded s r ≡ Ok (x, m)
spelled_read (done y) x ds r m led e reads =
    let none = same_reads r m ds [] e.1 reads in
    let moved : m ≡ r = none.moved in
    rw (e.0, moved) refl
spelled_read (ask q f) x ds r m led e reads =
    let first = telling q e.0 in
    let p = reads_parted r m first e.1 led (same_reads r m ds (first ++ e.1) e.3 reads) in
    then_read (answer q r) (λ a. read_coded (f a.0) a.1) e.0 p.mid (Ok (x, m)) (answer_led q e.0 r p.mid led e.2 p.first)
    (spelled_read (f e.0) x e.1 p.mid m (led_more r p.mid first led p.first) e.4 p.then)
spelled_read (refuse cause) x ds r m led e reads = absurd e

pub broken_refused : {A : Type 0} (s : Coded A) (e : Cause) (ds : List Decision) (r m : Reading) → IsLed r → Breaks s e ds → DecisionsAreRead r ds m → read_coded s r ≡ Err e
broken_refused (done y) e ds r m led b reads = absurd b
broken_refused (ask q f) e ds r m led (inl long) reads = rw (long_led q e ds r m led long reads) refl
broken_refused (ask q f) e ds r m led (inr b) reads =
    let first = telling q b.0 in
    let p = reads_parted r m first b.1 led (same_reads r m ds (first ++ b.1) b.3 reads) in
    then_read (answer q r) (λ a. read_coded (f a.0) a.1) b.0 p.mid (Err e) (answer_led q b.0 r p.mid led b.2 p.first)
    (broken_refused (f b.0) e b.1 p.mid m (led_more r p.mid first led p.first) b.4 p.then)
broken_refused (refuse reason) e ds r m led b reads = ap Err (sym b.0)

-- ---- what is read is spelled, and what is refused breaks off

-- a part that was read, and what is behind it
record Then {X Y : Type 0} (r : Result (X × Reading) Cause) (k : X × Reading → Result Y Cause) (y : Y) : Type 0 where
  value : X
  behind : Reading
  first : r ≡ Ok (value, behind)
  second : k (value, behind) ≡ Ok y

was_read : {X Y : Type 0} (r : Result (X × Reading) Cause) (k : X × Reading → Result Y Cause) (y : Y) → (r >>= k) ≡ Ok y → Then r k y
was_read (Ok x) k y e = record { value = x.0; behind = x.1; first = refl; second = e }
was_read (Err c) k y e = absurd cc

-- decisions that spell a value and were read
pub record Spelled {A : Type 0} (s : Coded A) (x : A) (r m : Reading) : Type 0 where
  pub ds : List Decision
  pub spells : DecisionsSpell s x ds
  pub reads : DecisionsAreRead r ds m

pub read_spelled : {A : Type 0} (s : Coded A) (x : A) (r m : Reading) → IsLed r → read_coded s r ≡ Ok (x, m) → Spelled s x r m
read_spelled (done y) x r m led e =
    let one = one_answer (read_coded (done y) r) (y, r) (x, m) refl e in
    let value : y ≡ x = ap (λ p. p.0) one in
    let place : r ≡ m = ap (λ p. p.1) one in
    record { ds = []; spells = (value, refl); reads = subst (λ (n : Reading). DecisionsAreRead r [] n) place (reads_nothing r) }
read_spelled (ask q f) x r m led e =
    let t = was_read (answer q r) (λ a. read_coded (f a.0) a.1) (x, m) e in
    let first = telling q t.value in
    let here = answer_leads q t.value r t.behind led t.first in
    let more = read_spelled (f t.value) x t.behind m (led_more r t.behind first led here.1) t.second in
    record { ds = first ++ more.ds; spells = (t.value, more.ds, here.0, refl, more.spells); reads = reads_more r t.behind m first more.ds here.1 more.reads }
read_spelled (refuse cause) x r m led e = absurd cc

-- decisions that lead to where a value breaks off and were read
pub record Broken {A : Type 0} (s : Coded A) (e : Cause) (r : Reading) : Type 0 where
  pub ds : List Decision
  pub behind : Reading
  pub breaks : Breaks s e ds
  pub reads : DecisionsAreRead r ds behind

pub refused_breaks : {A : Type 0} (s : Coded A) (e : Cause) (r : Reading) → IsLed r → front r.block 16 ≢ 0xFFFF → read_coded s r ≡ Err e → Broken s e r
refused_breaks (done y) e r led some shut = absurd cc
refused_breaks (ask q f) e r led some shut = elim (some_answer q r led some) as (λ _. Broken (ask q f) e r) [
  | inl found ↦
      let a = found.0 in
      let first = telling q a in
      let m = after_all r first in
      let more = refused_breaks (f a) e m (led_more r m first led found.2) some (rw (answer_led q a r m led found.1 found.2) at shut) in
      record { ds = first ++ more.ds; behind = more.behind; breaks = inr (a, more.ds, found.1, refl, more.breaks); reads = reads_more r m more.behind first more.ds found.2 more.reads }
  | inr long ↦
      let same : e ≡ cause.NumberTooLong = let f = rw (long_led q cause.NumberTooLong long.0 r (after_all r long.0) led long.1 long.2) at shut in cc in
      record { ds = long.0; behind = after_all r long.0; breaks = inl (subst (λ c. TooLong q c long.0) (sym same) long.1); reads = long.2 }
]
refused_breaks (refuse reason) e r led some shut =
    let same : e ≡ reason = cc in
    record { ds = []; behind = r; breaks = (same, refl); reads = reads_nothing r }

-- ---- of a whole block

pub is_read : {A : Type 0} (s : Coded A) (x : A) (ds : List Decision) (block : List ℕ) → DecisionsSpell s x ds → Carries block ds → read_coded s (begin block) ≡ Ok (x, after_all (begin block) ds)
is_read s x ds block spells carries = spelled_read s x ds (begin block) (after_all (begin block) ds) (led_begin block) spells (carried_reads block ds carries)

pub spelled_is_read : {A : Type 0} → SpelledIsRead A
spelled_is_read {A} s x block = (
  λ e. let t = read_spelled s x (begin block) e.0 (led_begin block) e.1 in (t.ds, t.spells, reads_carried block t.ds e.0 t.reads),
  λ p. (after_all (begin block) p.0, is_read s x p.0 block p.1 p.2),
)

pub one_is_spelled : {A : Type 0} → OneIsSpelled A
one_is_spelled {A} s x y ds es block p a q b =
    ap (λ v. v.0) (one_answer (read_coded s (begin block)) (x, after_all (begin block) ds) (y, after_all (begin block) es) (is_read s x ds block p a) (is_read s y es block q b))

pub broken_is_refused : {A : Type 0} → BrokenIsRefused A
broken_is_refused {A} s e block some = (
  λ shut. let t = refused_breaks s e (begin block) (led_begin block) some shut in (t.ds, t.breaks, reads_carried block t.ds t.behind t.reads),
  λ p. broken_refused s e p.0 (begin block) (after_all (begin block) p.0) (led_begin block) p.1 (carried_reads block p.0 p.2),
)

pub ones_are_refused : {A : Type 0} → OnesAreRefused A
ones_are_refused {A} (done x) block ones = inr (inl (x, (refl, refl)))
ones_are_refused {A} (ask q f) block ones = inl (rw (answer_shut q (begin block) ones) refl)
ones_are_refused {A} (refuse cause) block ones = inr (inr (cause, (refl, refl)))

-- ---- steps one after another

-- two reads that agree on each answer agree
same_behind : {X Y : Type 0} (r : Result X Cause) (k l : X → Result Y Cause) → ((x : X) → k x ≡ l x) → (r >>= k) ≡ (r >>= l)
same_behind (Ok x) k l same = same x
same_behind (Err e) k l same = refl

chained : {X Y Z : Type 0} (r : Result X Cause) (k : X → Result Y Cause) (l : Y → Result Z Cause) → ((r >>= k) >>= l) ≡ (r >>= λ x. k x >>= l)
chained (Ok x) k l = refl
chained (Err e) k l = refl

pub then_is_read : {A B : Type 0} (s : Coded A) (g : A → Coded B) (r : Reading) → read_coded (and_then s g) r ≡ (read_coded s r >>= λ x. read_coded (g x.0) x.1)
then_is_read (done x) g r = refl
then_is_read (ask q f) g r =
    same_behind (answer q r) (λ a. read_coded (and_then (f a.0) g) a.1) (λ a. read_coded (f a.0) a.1 >>= λ x. read_coded (g x.0) x.1) (λ a. then_is_read (f a.0) g a.1)
    ∙ sym (chained (answer q r) (λ a. read_coded (f a.0) a.1) (λ x. read_coded (g x.0) x.1))
then_is_read (refuse cause) g r = refl

-- no step
pub repeated_none : {A : Type 0} (step : ℕ → A → Coded A) (x : A) (r : Reading) → read_coded (repeated step 0 x) r ≡ Ok (x, r)
unfolding repeated
repeated_none step x r = refl

-- one step more
pub repeated_next : {A : Type 0} (step : ℕ → A → Coded A) (n : ℕ) (x : A) (r : Reading) (y : A) (s : Reading) (z : Result (A × Reading) Cause) → read_coded (repeated step n x) r ≡ Ok (y, s) → read_coded (step n y) s ≡ z
    → read_coded (repeated step (n + 1) x) r ≡ z
unfolding repeated
repeated_next step n x r y s z before here = simp unary_clauses (then_is_read (repeated step n x) (step n) r ∙ rw before here)

-- a step that is refused ends them all
pub repeated_stops : {A : Type 0} (step : ℕ → A → Coded A) (n m : ℕ) (x : A) (r : Reading) (y : A) (s : Reading) (e : Cause) → n < m → read_coded (repeated step n x) r ≡ Ok (y, s) → read_coded (step n y) s ≡ Err e
    → read_coded (repeated step m x) r ≡ Err e
unfolding repeated
repeated_stops step n zero x r y s e less before here = absurd (omega arith)
repeated_stops {A = A} step n (suc m) x r y s e less before here =
    elim (cases_eq n m) [
      | inl same ↦
          let before' : read_coded (repeated step m x) r ≡ Ok (y, s) = subst (λ (k : ℕ). read_coded (repeated step k x) r ≡ Ok (y, s)) same before in
          let here' : read_coded (step m y) s ≡ Err e = subst (λ (k : ℕ). read_coded (step k y) s ≡ Err e) same here in
          then_is_read (repeated step m x) (step m) r ∙ rw before' here'
      | inr other ↦ then_is_read (repeated step m x) (step m) r ∙ rw (repeated_stops step n m x r y s e (omega arith) before here) refl
    ]

-- ---- ones

-- a value isn't refused before anything is read
abbrev pub Open : {A : Type 0} → Coded A → Type 0
Open (done x) = Unit {0}
Open (ask q f) = Unit {0}
Open (refuse cause) = ⊥

pub then_open : {A B : Type 0} (s : Coded A) (g : A → Coded B) → Open s → ((x : A) → Open (g x)) → Open (and_then s g)
then_open (done x) g p each = each x
then_open (ask q f) g p each = tt
then_open (refuse cause) g p each = absurd p

pub repeated_open : {A : Type 0} (step : ℕ → A → Coded A) (n : ℕ) (x : A) → ((k : ℕ) (y : A) → Open (step k y)) → Open (repeated step n x)
unfolding repeated
repeated_open step zero x each = tt
repeated_open step (suc n) x each = then_open (repeated step n x) (step n) (repeated_open step n x each) (λ y. each n y)

-- so ones refuse it, where it needs a decision
pub open_shut : {A : Type 0} (s : Coded A) (block : List ℕ) → Open s → front block 16 ≡ 0xFFFF → (read_coded s (begin block) ≡ Err cause.CodeWord) ⊎ ((x : A) × DecisionsSpell s x [])
open_shut (done x) block p ones = inr (x, (refl, refl))
open_shut (ask q f) block p ones = inl (rw (answer_shut q (begin block) ones) refl)
open_shut (refuse cause) block p ones = absurd p
