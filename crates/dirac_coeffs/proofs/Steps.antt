-- Coded values one behind the other: what spells them, where they are refused, and what they are refused for.
use Rattle.std.proofs.Common.{◌≡◌, ℕ, zero, suc, ◌<◌, inl, inr, List, [], ◌++◌, Ok, Err, refl, sym, ap, ◌∙◌, arith, subst, append_assoc}
use Rattle.dirac_common.specs.declared.faults.Cause.{Cause}
use Rattle.dirac_common.specs.declared.faults.Cause.TheVariants.{CodeWord, NumberTooLong}
use Rattle.dirac_arith.specs.Coded.{Coded, Question, one_decision, one_number, one_signed, Answer, TooLong, telling, done, ask, refuse, read_coded, and_then, repeated, DecisionsSpell, Breaks}
use Rattle.dirac_arith.specs.Deciding.{begin}
use Rattle.dirac_arith.specs.Front.{front}
use Rattle.dirac_arith.specs.Interval.{Decision}
use Rattle.dirac_arith.specs.Reading.{Reading}
use Rattle.dirac_arith.proofs.CodedValues.{Open, repeated_stops}
use Rattle.dirac_arith.proofs.Decidings.{decided_shut, number_is_shut, signed_is_shut}
use Rattle.dirac_coeffs.specs.declared.store.Unread.{Unread}
use Rattle.dirac_coeffs.specs.declared.store.Unread.TheVariants as unread
use Rattle.dirac_coeffs.specs.Answers.{RefusedBy}

-- a step where reading stops ends them all
pub repeated_unread : {A : Type 0} (narrow : Type 0) (step : ℕ → A → Coded A) (n m : ℕ) (x : A) (r : Reading) (y : A) (s : Reading) (e : Unread) → n < m → read_coded (repeated step n x) r ≡ Ok (y, s) → RefusedBy narrow e (read_coded (step n y) s) → RefusedBy narrow e (read_coded (repeated step m x) r)
repeated_unread narrow step n m x r y s (unread.Refused cause) less before here = repeated_stops step n m x r y s cause less before here
repeated_unread narrow step n m x r y s unread.TooWide less before here = here

-- what spells a value and then what it asks for
pub record Parts {A B : Type 0} (s : Coded A) (g : A → Coded B) (y : B) (all : List Decision) : Type 0 where
  pub x : A
  pub ds : List Decision
  pub es : List Decision
  pub first : DecisionsSpell s x ds
  pub second : DecisionsSpell (g x) y es
  pub is : all ≡ ds ++ es

pub then_told : {A B : Type 0} (s : Coded A) (g : A → Coded B) (y : B) (all : List Decision) → DecisionsSpell (and_then s g) y all → Parts s g y all
then_told (done x) g y all spells = record { x = x; ds = []; es = all; first = (refl, refl); second = spells; is = refl }
then_told (ask q f) g y all spells =
    let p = then_told (f spells.0) g y spells.1 spells.4 in
    record {
      x = p.x;
      ds = telling q spells.0 ++ p.ds;
      es = p.es;
      first = (spells.0, p.ds, spells.2, refl, p.first);
      second = p.second;
      is = spells.3 ∙ ap (λ (l : List Decision). telling q spells.0 ++ l) p.is ∙ sym (append_assoc (telling q spells.0) p.ds p.es);
    }
then_told (refuse cause) g y all spells = absurd spells

pub then_tells : {A B : Type 0} (s : Coded A) (g : A → Coded B) (x : A) (y : B) (ds es : List Decision) → DecisionsSpell s x ds → DecisionsSpell (g x) y es → DecisionsSpell (and_then s g) y (ds ++ es)
then_tells (done z) g x y ds es first second =
    subst (λ (l : List Decision). DecisionsSpell (g z) y (l ++ es)) (sym first.1) (subst (λ v. DecisionsSpell (g v) y es) (sym first.0) second)
then_tells (ask q f) g x y ds es first second =
    (first.0, first.1 ++ es, first.2, ap (λ (l : List Decision). l ++ es) first.3 ∙ append_assoc (telling q first.0) first.1 es, then_tells (f first.0) g x y first.1 es first.4 second)
then_tells (refuse cause) g x y ds es first second = absurd first

-- what a value is refused for but for numbers that are too long
abbrev pub RefusedFor : {A : Type 0} → (Cause → Type 0) → Coded A → Type 0
RefusedFor P (done x) = Unit {0}
RefusedFor P (ask q f) = (a : Answer q) → RefusedFor P (f a)
RefusedFor P (refuse cause) = P cause

pub then_for : {A B : Type 0} (P : Cause → Type 0) (s : Coded A) (g : A → Coded B) → RefusedFor P s → ((x : A) → RefusedFor P (g x)) → RefusedFor P (and_then s g)
then_for P (done x) g p each = each x
then_for P (ask q f) g p each = λ a. then_for P (f a) g (p a) each
then_for P (refuse cause) g p each = p

pub repeated_for : {A : Type 0} (P : Cause → Type 0) (step : ℕ → A → Coded A) (n : ℕ) (x : A) → ((k : ℕ) (y : A) → RefusedFor P (step k y)) → RefusedFor P (repeated step n x)
unfolding repeated
repeated_for P step zero x each = tt
repeated_for P step (suc n) x each = then_for P (repeated step n x) (step n) (repeated_for P step n x each) (λ y. each n y)

long_cause : (P : Cause → Type 0) (q : Question) (e : Cause) (ds : List Decision) → P NumberTooLong → TooLong q e ds → P e
long_cause P (one_decision context) e ds p long = absurd long
long_cause P (one_number follow bits) e ds p long = subst P (sym long.2) p
long_cause P (one_signed follow bits sign) e ds p long = subst P (sym long.2) p

pub broken_for : {A : Type 0} (P : Cause → Type 0) (s : Coded A) (e : Cause) (ds : List Decision) → P NumberTooLong → RefusedFor P s → Breaks s e ds → P e
broken_for P (done x) e ds long p b = absurd b
broken_for P (ask q f) e ds long p (inl b) = long_cause P q e ds long b
broken_for P (ask q f) e ds long p (inr b) = broken_for P (f b.0) e b.1 long (p b.0) b.4
broken_for P (refuse cause) e ds long p b = subst P (sym b.0) p

-- what begins with a decision or a number
abbrev pub Asks : {A : Type 0} → Coded A → Type 0
Asks (done x) = ⊥
Asks (ask q f) = Unit {0}
Asks (refuse cause) = ⊥

pub then_asks : {A B : Type 0} (s : Coded A) (g : A → Coded B) → Asks s → Asks (and_then s g)
then_asks (done x) g first = absurd first
then_asks (ask q f) g first = tt
then_asks (refuse cause) g first = absurd first

pub behind_asks : {A B : Type 0} (s : Coded A) (g : A → Coded B) → Open s → ((x : A) → Asks (g x)) → Asks (and_then s g)
behind_asks (done x) g p each = each x
behind_asks (ask q f) g p each = tt
behind_asks (refuse cause) g p each = absurd p

pub repeated_asks : {A : Type 0} (step : ℕ → A → Coded A) (n : ℕ) (x : A) → 0 < n → Asks (step 0 x) → Asks (repeated step n x)
unfolding repeated
repeated_asks step zero x some first = absurd (omega arith)
repeated_asks step (suc zero) x some first = first
repeated_asks step (suc (suc n)) x some first = then_asks (repeated step (suc n) x) (step (suc n)) (repeated_asks step (suc n) x (omega arith) first)

-- a block that begins with ones refuses it
pub asks_shut : {A : Type 0} (s : Coded A) (block : List ℕ) → Asks s → front block 16 ≡ 0xFFFF → read_coded s (begin block) ≡ Err CodeWord
asks_shut (done x) block first ones = absurd first
asks_shut (ask (one_decision context) f) block first ones = rw (decided_shut context (begin block) ones) refl
asks_shut (ask (one_number follow bits) f) block first ones = rw (number_is_shut follow bits (begin block) ones) refl
asks_shut (ask (one_signed follow bits sign) f) block first ones = rw (signed_is_shut follow bits sign (begin block) ones) refl
asks_shut (refuse cause) block first ones = absurd first
