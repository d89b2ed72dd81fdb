-- A call takes units up to the one with which a picture leaves.
use Rattle.std.proofs.Common.{◌≡◌, ◌∙◌, ℕ, ◌+◌, List, [], ◌∷◌, ◌++◌, Option, None, Some, refl, sym, ap, subst, inl, inr, ◌⊎◌, arith}
use Rattle.dirac_common.specs.declared.picture.Picture.{Picture}
use Rattle.dirac_units.specs.declared.unit.StreamEnd.{StreamEnd}
use Rattle.dirac_units.specs.declared.unit.StreamEnd.TheVariants as stream_end
use Rattle.dirac_decode.specs.declared.answers.Next.{Next}
use Rattle.dirac_decode.specs.declared.answers.Next.TheVariants as next
use Rattle.dirac_decode.specs.Decoding.{Decoding, Gives, LeadsTo}
use Rattle.dirac_decode.specs.Stepping.{TakesAs, TakesOne, TakesUpTo, given_by}
use Rattle.dirac_decode.proofs.Leading.{not_ended, not_faulted}

-- ---- a step behind units with which no picture left

-- what a step gave was due until it gave it
as_due : (m : StreamEnd) (answer : Option Next) (b c : Decoding) (held held' : Option (List ℕ)) → TakesAs m answer b c held held' → TakesAs m None b (record c { due = given_by answer ++ c.due }) held held'
as_due stream_end.Going answer b c held held' takes = takes
as_due stream_end.Ended answer b c held held' takes =
    ((takes.0.0, ap (λ (ps : List Picture). ps ++ c.due) takes.2 ∙ takes.0.1), takes.1, refl)
as_due (stream_end.Faulted fault) answer b c held held' takes =
    ((takes.0.0, ap (λ (ps : List Picture). ps ++ c.due) takes.2 ∙ takes.0.1), takes.1, refl)
as_due stream_end.Stopped answer b c held held' takes =
    (takes.0, ap (λ (ps : List Picture). ps ++ c.due) takes.2 ∙ takes.1, refl)

pub up_to_step : (answer : Option Next) (a b c : Decoding) (held held' held'' : Option (List ℕ)) → LeadsTo a b held held' [] → b.stream_end ≡ stream_end.Going → b.due ≡ [] → TakesOne answer b c held' held'' → TakesUpTo answer a c held held''
up_to_step answer a b c held held' held'' leads going none one = record {
  before = b;
  known = held';
  going = going;
  none_due = none;
  passed = leads.passed going;
  step = as_due c.stream_end answer b c held' held'' (one.unit going none);
}

-- ---- an answer behind that step

-- how many pictures were given doesn't matter
counted : (m : StreamEnd) (b c : Decoding) (given : ℕ) (held held' : Option (List ℕ)) → TakesAs m None b c held held' → TakesAs m None b (record c { given = given }) held held'
counted stream_end.Going b c given held held' takes = takes
counted stream_end.Ended b c given held held' takes = takes
counted (stream_end.Faulted fault) b c given held held' takes = takes
counted stream_end.Stopped b c given held held' takes = takes

-- what is given was due
up_to_due : (answer : Option Next) (a b : Decoding) (rest : List Picture) (given : ℕ) (held held' : Option (List ℕ)) → TakesUpTo None a b held held' → given_by answer ++ rest ≡ b.due → TakesUpTo answer a (record b { due = rest; given = given }) held held'
up_to_due answer a b rest given held held' so gives = record {
  before = so.before;
  known = so.known;
  going = so.going;
  none_due = so.none_due;
  passed = so.passed;
  step =
      counted b.stream_end so.before (record b { due = given_by answer ++ rest }) given so.known held'
      (subst (λ (ps : List Picture). TakesAs b.stream_end None so.before (record b { due = ps }) so.known held') (sym gives) so.step);
}

-- no picture is given where nothing changes
none_given : (answer : Next) (b c : Decoding) (held held' : Option (List ℕ)) → c ≡ b → Gives answer b c held held' → given_by (Some answer) ≡ []
none_given (next.Shown p) b c held held' same gives =
    let counts : b.given + 1 ≡ b.given = sym gives.1 ∙ ap (λ (d : Decoding). d.given) same in absurd (omega arith)
none_given next.End b c held held' same gives = refl
none_given (next.Fault fault) b c held held' same gives = refl
none_given next.ReadFault b c held held' same gives = refl
none_given next.NoMemory b c held held' same gives = refl
none_given next.Stopped b c held held' same gives = refl

going_or_not : (m : StreamEnd) → (m ≡ stream_end.Going) ⊎ (m ≡ stream_end.Going → ⊥)
going_or_not stream_end.Going = inl refl
going_or_not stream_end.Ended = inr not_ended
going_or_not (stream_end.Faulted fault) = inr (not_faulted fault)
going_or_not stream_end.Stopped = inr (λ (e : stream_end.Stopped ≡ stream_end.Going). cc)

-- by what is due before the step that answers
pub up_to_behind : (due : List Picture) (answer : Next) (a b c : Decoding) (held held' held'' : Option (List ℕ)) → b.due ≡ due → LeadsTo a b held held' [] → (b.stream_end ≡ stream_end.Stopped → ⊥) → ((b.stream_end ≡ stream_end.Going → b.due ≡ [] → ⊥) → TakesUpTo None a b held held')
    → ((b.stream_end ≡ stream_end.Going → ⊥) → held'' ≡ held') → Gives answer b c held' held'' → TakesOne (Some answer) b c held' held'' → TakesUpTo (Some answer) a c held held''
up_to_behind (p ∷ rest) answer a b c held held' held'' is leads moving so still gives one =
    let due = one.due p rest moving is in
    let found : TakesUpTo None a b held held' = so (λ going none. let both : [] ≡ p ∷ rest = sym none ∙ is in cc) in
    subst (λ (known : Option (List ℕ)). TakesUpTo (Some answer) a c held known) (sym due.2)
    (subst (λ (x : Decoding). TakesUpTo (Some answer) a x held held') (sym due.1)
    (up_to_due (Some answer) a b rest (b.given + 1) held held' found (ap (λ n. given_by n ++ rest) due.0 ∙ sym is)))
up_to_behind [] answer a b c held held' held'' is leads moving so still gives one = elim (going_or_not b.stream_end) [
  | inl going ↦ up_to_step (Some answer) a b c held held' held'' leads going is one
  | inr ne ↦
      let same : c ≡ b = one.met ne is in
      subst (λ (known : Option (List ℕ)). TakesUpTo (Some answer) a c held known) (sym (still ne))
      (subst (λ (x : Decoding). TakesUpTo (Some answer) a x held held') (sym same)
      (up_to_due (Some answer) a b b.due b.given held held' (so (λ going none. ne going)) (ap (λ (ps : List Picture). ps ++ b.due) (none_given answer b c held' held'' same gives))))
]
