-- A step behind others that gave no picture.
use Rattle.std.proofs.Common.{◌≡◌, ◌∙◌, ℕ, ◌+◌, List, [], ◌∷◌, ◌++◌, Option, None, Some, refl, sym, ap, subst, append_assoc}
use Rattle.std.specs.Prelude.{IfSome}
use Rattle.std.specs.Io.KnownBytes.{prepend_known}
use Rattle.dirac_common.specs.declared.picture.Picture.{Picture}
use Rattle.dirac_units.specs.declared.unit.StreamEnd.{StreamEnd}
use Rattle.dirac_units.specs.declared.unit.StreamEnd.TheVariants as stream_end
use Rattle.dirac_decode.specs.declared.answers.Next.{Next}
use Rattle.dirac_decode.specs.declared.answers.Next.TheVariants as next
use Rattle.dirac_decode.specs.Decoding.{AnswersWhatWasMet, BreaksIn, BreaksOff, Decoding, Gives, GivesDue, LeadsTo, Passed, StopsIn}
use Rattle.dirac_decode.specs.Stepping.{TakesOne}
use Rattle.dirac_decode.proofs.Alone.{taken_on}
use Rattle.dirac_decode.proofs.Leading.{leads_on, not_stopped}

-- where the decoder between was stopped, it is the first one
pub gives_behind : (answer : Next) (a b c : Decoding) (held held' held'' : Option (List ℕ)) → LeadsTo a b held held' [] → b.given ≡ a.given → (b.stream_end ≡ stream_end.Stopped → b ≡ a) → Gives answer b c held' held'' → Gives answer a c held held''
gives_behind (next.Shown p) a b c held held' held'' leads given still gives = (
  leads_on a b c held held' held'' (p ∷ []) leads gives.0,
  gives.1 ∙ ap (λ n. n + 1) given,
  λ e. let stopped : b.stream_end ≡ stream_end.Stopped = gives.2 e in sym (ap (λ (d : Decoding). d.stream_end) (still stopped)) ∙ stopped,
)
gives_behind next.End a b c held held' held'' leads given still gives =
    (leads_on a b c held held' held'' [] leads gives.0, gives.1, gives.2, gives.3 ∙ given)
gives_behind (next.Fault fault) a b c held held' held'' leads given still gives =
    (leads_on a b c held held' held'' [] leads gives.0, gives.1, gives.2, gives.3 ∙ given)
gives_behind next.ReadFault a b c held held' held'' leads given still gives = (gives.0, gives.1 ∙ given)
gives_behind next.NoMemory a b c held held' held'' leads given still gives = (gives.0, gives.1 ∙ given)
gives_behind next.Stopped a b c held held' held'' leads given still gives =
    (sym (ap (λ (d : Decoding). d.stream_end) (still gives.0)) ∙ gives.0, gives.1 ∙ still gives.0)

breaks_on : (known known' held' : Option (List ℕ)) (a b : Decoding) → IfSome known (λ bytes. Passed a b bytes known' []) → IfSome known' (λ bytes. BreaksIn b bytes held') → IfSome known (λ bytes. BreaksIn a bytes held')
breaks_on None known' held' a b passed breaks = tt
breaks_on (Some bytes) known' held' a b p breaks =
    let q : BreaksIn b p.rest held' = subst (λ (k : Option (List ℕ)). IfSome k (λ rest. BreaksIn b rest held')) p.holds breaks in
    record {
      read = p.read ++ q.read;
      rest = q.rest;
      parts = p.parts ∙ ap (λ l. p.read ++ l) q.parts ∙ sym (append_assoc p.read q.read q.rest);
      holds = q.holds;
      units = p.units ++ q.units;
      end = q.end;
      cut = p.cut q.read q.units q.end q.cut;
      bytes_end = q.bytes_end;
      accepts = p.accepts q.units ∙ ap (λ l. p.units ++ l) q.accepts;
      none_due = p.leaves q.units ∙ q.none_due;
    }

pub breaks_behind : (a b : Decoding) (held held' held'' : Option (List ℕ)) → LeadsTo a b held held' [] → BreaksOff b held' held'' → BreaksOff a held held''
breaks_behind a b held held' held'' leads breaks = record {
  going = leads.going breaks.going;
  told = breaks_on (prepend_known a.units.ahead held) (prepend_known b.units.ahead held') held'' a b (leads.passed breaks.going) breaks.told;
}

pub stops_behind : (a b : Decoding) (held held' held'' : Option (List ℕ)) → LeadsTo a b held held' [] → StopsIn b held' held'' → StopsIn a held held''
stops_behind a b held held' held'' leads stops =
    (leads.going stops.0, taken_on (prepend_known a.units.ahead held) (prepend_known b.units.ahead held') held'' a b [] leads.alone stops.1)

answers_moved : (m m' : StreamEnd) (due due' : List Picture) (answer : Next) → m' ≡ m → due' ≡ due → AnswersWhatWasMet m' due' answer → AnswersWhatWasMet m due answer
answers_moved m m' due due' answer same_end same_due answers =
    subst (λ (x : StreamEnd). AnswersWhatWasMet x due answer) same_end (subst (λ (ps : List Picture). AnswersWhatWasMet m' ps answer) same_due answers)

answers_on : (m : StreamEnd) (due : List Picture) (answer : Next) (b : Decoding) → ((m ≡ stream_end.Going → ⊥) → (b.stream_end ≡ m) × (b.due ≡ due)) → AnswersWhatWasMet b.stream_end b.due answer → AnswersWhatWasMet m due answer
answers_on stream_end.Going due answer b still answers = tt
answers_on stream_end.Ended due answer b still answers =
    let same = still (λ (e : stream_end.Ended ≡ stream_end.Going). cc) in answers_moved stream_end.Ended b.stream_end due b.due answer same.0 same.1 answers
answers_on (stream_end.Faulted fault) due answer b still answers =
    let same = still (λ (e : stream_end.Faulted fault ≡ stream_end.Going). cc) in answers_moved (stream_end.Faulted fault) b.stream_end due b.due answer same.0 same.1 answers
answers_on stream_end.Stopped due answer b still answers =
    let same = still (λ (e : stream_end.Stopped ≡ stream_end.Going). cc) in answers_moved stream_end.Stopped b.stream_end due b.due answer same.0 same.1 answers

pub answers_behind : (a b : Decoding) (answer : Next) → ((a.stream_end ≡ stream_end.Going → ⊥) → b ≡ a) → AnswersWhatWasMet b.stream_end b.due answer → AnswersWhatWasMet a.stream_end a.due answer
answers_behind a b answer still answers =
    answers_on a.stream_end a.due answer b (λ ne. (ap (λ (d : Decoding). d.stream_end) (still ne), ap (λ (d : Decoding). d.due) (still ne))) answers

-- ---- pictures that are due

none_by : (due : List Picture) (b c : Decoding) (held held' : Option (List ℕ)) → b.due ≡ due → b.stream_end ≡ stream_end.Going → TakesOne None b c held held' → due ≡ []
none_by [] b c held held' is going one = refl
none_by (p ∷ rest) b c held held' is going one =
    let shown : None ≡ Some (next.Shown p) = (one.due p rest (not_stopped b.stream_end going) is).0 in absurd cc

-- a step that answers nothing found none due
pub none_found : (b c : Decoding) (held held' : Option (List ℕ)) → b.stream_end ≡ stream_end.Going → TakesOne None b c held held' → b.due ≡ []
none_found b c held held' going one = none_by b.due b c held held' refl going one

-- while pictures are due no step comes before the one that gives the first
pub due_behind : (answer : Next) (a b c : Decoding) (held held' : Option (List ℕ)) → ((a.due ≡ [] → ⊥) → b ≡ a) → TakesOne (Some answer) b c held held' → GivesDue answer a c
due_behind answer a b c held held' still one = λ p rest moving is.
    let same : b ≡ a = still (λ none. let both : [] ≡ p ∷ rest = sym none ∙ is in cc) in
    let found = (subst (λ (x : Decoding). TakesOne (Some answer) x c held held') same one).due p rest moving is in
    let shown : Some answer ≡ Some (next.Shown p) = found.0 in
    (cc, found.1)
