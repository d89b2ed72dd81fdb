-- What calls of a decoder say of the whole stream, one behind another.
use Rattle.std.proofs.Common.{◌≡◌, ◌∙◌, ℕ, ◌+◌, Bool, true, false, List, [], ◌∷◌, ◌++◌, Option, None, Some, refl, sym, ap, ap₂, subst, append_assoc, append-nil}
use Rattle.std.specs.Prelude.{⊤}
use Rattle.dirac_common.specs.declared.faults.Fault.{Fault}
use Rattle.dirac_common.specs.declared.picture.Picture.{Picture}
use Rattle.dirac_units.specs.declared.unit.StreamEnd.{StreamEnd}
use Rattle.dirac_units.specs.declared.unit.StreamEnd.TheVariants as stream_end
use Rattle.dirac_units.specs.Progress.{CuttingProgress}
use Rattle.dirac_decode.specs.declared.answers.Next.{Next}
use Rattle.dirac_decode.specs.declared.answers.Next.TheVariants as next
use Rattle.dirac_decode.specs.Decoding.{Comes, ComesBehind, Decoding, Remains}
use Rattle.dirac_content.specs.StreamState.{StreamState}
use Rattle.dirac_content.specs.Shown.{IsShown, Outcome, with_front}
use Rattle.dirac_decode.specs.Stepping.{DueGives, IsThere, IsWholeUnit, StepGives, StepGivesBefore}
use Rattle.dirac_push.specs.declared.answer.Answer.{Answer}
use Rattle.dirac_push.specs.declared.answer.Answer.TheVariants as answers
use Rattle.dirac_push.specs.Pushing.{MayFollow, PushPasses, PassesOn, PushGives, Pushed, RepeatsAnswer, RepeatsMet, ShowsToItsEnd, ShowsToItsFault, TurnGives, kept_bytes, push_begun}

none_and_none : (b : Pushed) (c : Pushed) (sent' more : List ℕ) → ((b.is_finished ≡ true) → (c.is_finished ≡ true) × (sent' ≡ [])) → MayFollow c more → MayFollow b (sent' ++ more)
none_and_none b c sent' more finished may e =
    let f = finished e in
    ap₂ (λ (xs ys : List ℕ). xs ++ ys) f.1 (may f.0)

-- one call and then another
pub passes_on : PassesOn
passes_on a b c sent sent' given given' first second = record {
  leads = λ more may o comes.
      let later = second.leads more may o comes in
      let before = first.leads (sent' ++ more) (none_and_none b c sent' more second.finished may) (with_front given' o) later in
      let bytes : a.there ++ (sent ++ (sent' ++ more)) ≡ a.there ++ ((sent ++ sent') ++ more) = ap (λ (xs : List ℕ). a.there ++ xs) (sym (append_assoc sent sent' more)) in
      let pictures : with_front given (with_front given' o) ≡ with_front (given ++ given') o =
      ap (λ (ps : List Picture). record o { shown = ps }) (sym (append_assoc given given' o.shown)) in
      subst (λ (xs : List ℕ). Comes a.decoder (Some xs) (with_front (given ++ given') o)) bytes
      (subst (λ (x : Outcome). Comes a.decoder (Some (a.there ++ (sent ++ (sent' ++ more)))) x) pictures before);
  finished = λ e.
      let f = first.finished e in
      let s = second.finished f.0 in
      (s.0, ap₂ (λ (xs ys : List ℕ). xs ++ ys) f.1 s.1);
}

-- the decoder and the bytes there stay
pub passes_same : (old new : Pushed) → new.decoder ≡ old.decoder → new.there ≡ old.there → (old.is_finished ≡ true → new.is_finished ≡ true) → PushPasses old new [] []
passes_same old new same there finished = record {
  leads = λ more may o comes.
      subst (λ (d : Decoding). Comes d (Some (old.there ++ more)) o) same
      (subst (λ (xs : List ℕ). Comes new.decoder (Some (xs ++ more)) o) there comes);
  finished = λ e. (finished e, refl);
}

-- what is still to come depends on the bytes there only while units go on
remains_by : (m : StreamEnd) (state : StreamState) (units : CuttingProgress) (xs ys : List ℕ) (o : Outcome) → (m ≡ stream_end.Going → xs ≡ ys) → Remains m state units (Some xs) o → Remains m state units (Some ys) o
remains_by stream_end.Going state units xs ys o same remains =
    subst (λ (x : List ℕ). Remains stream_end.Going state units (Some x) o) (same refl) remains
remains_by stream_end.Ended state units xs ys o same remains = remains
remains_by (stream_end.Faulted fault) state units xs ys o same remains = remains
remains_by stream_end.Stopped state units xs ys o same remains = remains

comes_by : (d : Decoding) (xs ys : List ℕ) (o : Outcome) → (d.stream_end ≡ stream_end.Going → xs ≡ ys) → Comes d (Some xs) o → Comes d (Some ys) o
comes_by d xs ys o is comes = record {
  rest = comes.rest;
  same = comes.same;
  remains = remains_by d.stream_end d.state d.units xs ys comes.rest is comes.remains;
}

-- all bytes are kept while units go on, and none where something was met
kept_going : (m : StreamEnd) (bytes : List ℕ) → m ≡ stream_end.Going → kept_bytes m bytes ≡ bytes
kept_going m bytes going = ap (λ x. kept_bytes x bytes) going

pub none_kept : (m : StreamEnd) (bytes : List ℕ) → (m ≡ stream_end.Going → ⊥) → kept_bytes m bytes ≡ []
none_kept stream_end.Going bytes met = absurd (met refl)
none_kept stream_end.Ended bytes met = refl
none_kept (stream_end.Faulted fault) bytes met = refl
none_kept stream_end.Stopped bytes met = refl

-- what is kept is kept, and so is what is kept of more bytes
pub kept_twice : (m : StreamEnd) (bytes : List ℕ) → kept_bytes m bytes ≡ kept_bytes m (kept_bytes m bytes)
kept_twice stream_end.Going bytes = refl
kept_twice stream_end.Ended bytes = refl
kept_twice (stream_end.Faulted fault) bytes = refl
kept_twice stream_end.Stopped bytes = refl

pub kept_more : (m : StreamEnd) (there bytes : List ℕ) → there ≡ kept_bytes m there → there ++ kept_bytes m bytes ≡ kept_bytes m (there ++ kept_bytes m bytes)
kept_more stream_end.Going there bytes none = refl
kept_more stream_end.Ended there bytes none = append-nil there ∙ none
kept_more (stream_end.Faulted fault) there bytes none = append-nil there ∙ none
kept_more stream_end.Stopped there bytes none = append-nil there ∙ none

-- bytes were sent
pub passes_sent : (old new : Pushed) (bytes : List ℕ) → old.is_finished ≡ false → new.decoder ≡ old.decoder → new.there ≡ old.there ++ kept_bytes old.decoder.stream_end bytes → PushPasses old new bytes []
passes_sent old new bytes unfinished same there = record {
  leads = λ more may o comes.
      let at : Comes old.decoder (Some ((old.there ++ kept_bytes old.decoder.stream_end bytes) ++ more)) o =
      subst (λ (d : Decoding). Comes d (Some ((old.there ++ kept_bytes old.decoder.stream_end bytes) ++ more)) o) same
      (subst (λ (xs : List ℕ). Comes new.decoder (Some (xs ++ more)) o) there comes) in
      comes_by old.decoder ((old.there ++ kept_bytes old.decoder.stream_end bytes) ++ more) (old.there ++ (bytes ++ more)) o
      (λ going. ap (λ (xs : List ℕ). (old.there ++ xs) ++ more) (kept_going old.decoder.stream_end bytes going) ∙ append_assoc old.there bytes more)
      at;
  finished = λ finished. absurd cc;
}

-- a due picture left
pub passes_due : (old new : Pushed) (p : Picture) → DueGives (Some p) old.decoder new.decoder → new.there ≡ old.there → new.is_finished ≡ old.is_finished → PushPasses old new [] (p ∷ [])
passes_due old new p due there finished = record {
  leads = λ more may o comes.
      let at : Comes new.decoder (Some (old.there ++ more)) o = subst (λ (xs : List ℕ). Comes new.decoder (Some (xs ++ more)) o) there comes in
      record {
        rest = at.rest;
        same = ap (with_front (p ∷ [])) at.same ∙ ap (λ (ps : List Picture). with_front ps at.rest) (sym due.0);
        remains = subst (λ (d : Decoding). Remains d.stream_end d.state d.units (Some (old.there ++ more)) at.rest) due.1 at.remains;
      };
  finished = λ e. (finished ∙ e, refl);
}

-- nothing follows, or whatever does
lead_by : (f : Bool) (old new : Pushed) (given : List Picture) → old.is_finished ≡ f → new.is_finished ≡ old.is_finished → ComesBehind old.decoder new.decoder (Some old.there) (Some new.there) given
    → (f ≡ false → (more : List ℕ) → ComesBehind old.decoder new.decoder (Some (old.there ++ more)) (Some (new.there ++ more)) given)
    → (more : List ℕ) → MayFollow new more → ComesBehind old.decoder new.decoder (Some (old.there ++ more)) (Some (new.there ++ more)) given
lead_by true old new given is same plain before more may o comes =
    let none : more ≡ [] = may (same ∙ is) in
    let end : (xs : List ℕ) → xs ++ more ≡ xs = λ xs. ap (λ (ys : List ℕ). xs ++ ys) none ∙ append-nil xs in
    subst (λ (xs : List ℕ). Comes old.decoder (Some xs) (with_front given o)) (sym (end old.there))
    (plain o (subst (λ (xs : List ℕ). Comes new.decoder (Some xs) o) (end new.there) comes))
lead_by false old new given is same plain before more may o comes = before refl more o comes

pub passes_by : (old new : Pushed) (given : List Picture) → new.is_finished ≡ old.is_finished → ComesBehind old.decoder new.decoder (Some old.there) (Some new.there) given
    → (old.is_finished ≡ false → (more : List ℕ) → ComesBehind old.decoder new.decoder (Some (old.there ++ more)) (Some (new.there ++ more)) given) → PushPasses old new [] given
passes_by old new given same plain before = record {
  leads = lead_by old.is_finished old new given refl same plain before;
  finished = λ e. (same ∙ e, refl);
}

-- what a step says of the whole stream
abbrev pub StepPasses : Option Next → Pushed → Pushed → Type 0
StepPasses None old new = PushPasses old new [] []
StepPasses (Some (next.Shown p)) old new = PushPasses old new [] (p ∷ [])
StepPasses (Some next.End) old new = PushPasses old new [] []
StepPasses (Some (next.Fault fault)) old new = PushPasses old new [] []
StepPasses (Some next.ReadFault) old new = ⊤
StepPasses (Some next.NoMemory) old new = ⊤
StepPasses (Some next.Stopped) old new = ⊤

-- no byte is ahead of those that are there
there_by : (units : CuttingProgress) (bytes : List ℕ) → units.ahead ≡ [] → IsWholeUnit bytes → IsThere units (Some bytes)
there_by units bytes none is = subst (λ (ahead : List ℕ). IsWholeUnit (ahead ++ bytes)) (sym none) is

pub step_passes : (answer : Option Next) (old new : Pushed) → StepGives answer old.decoder new.decoder (Some old.there) (Some new.there)
    → (IsThere old.decoder.units (Some old.there) → StepGivesBefore answer old.decoder new.decoder (Some old.there) (Some new.there))
    → old.decoder.units.ahead ≡ [] → (old.is_finished ≡ false → IsWholeUnit old.there) → new.is_finished ≡ old.is_finished → StepPasses answer old new
step_passes None old new gives before none there same =
    passes_by old new [] same gives.0.comes (λ e more. (before (there_by old.decoder.units old.there none (there e)) more).0.comes)
step_passes (Some (next.Shown p)) old new gives before none there same =
    passes_by old new (p ∷ []) same gives.0.comes (λ e more. (before (there_by old.decoder.units old.there none (there e)) more).0.comes)
step_passes (Some next.End) old new gives before none there same =
    passes_by old new [] same gives.0.comes (λ e more. (before (there_by old.decoder.units old.there none (there e)) more).0.comes)
step_passes (Some (next.Fault fault)) old new gives before none there same =
    passes_by old new [] same gives.0.comes (λ e more. (before (there_by old.decoder.units old.there none (there e)) more).0.comes)
step_passes (Some next.ReadFault) old new gives before none there same = tt
step_passes (Some next.NoMemory) old new gives before none there same = tt
step_passes (Some next.Stopped) old new gives before none there same = tt

-- an answer, behind turns that gave none
pub gives_behind : (answer : Answer) (old mid new : Pushed) → PushPasses old mid [] [] → mid.decoder.given ≡ old.decoder.given → (mid.decoder.stream_end ≡ stream_end.Stopped → ⊥) → PushGives answer mid new → PushGives answer old new
gives_behind answers.Shown old mid new first same moving gives =
    (gives.0, gives.1, passes_on old mid new [] [] [] (gives.0 ∷ []) first gives.2, gives.3 ∙ ap (λ n. n + 1) same, gives.4)
gives_behind answers.Needs old mid new first same moving gives =
    (passes_on old mid new [] [] [] [] first gives.0, gives.1 ∙ same, gives.2, gives.3)
gives_behind answers.End old mid new first same moving gives =
    (passes_on old mid new [] [] [] [] first gives.0, gives.1 ∙ same, gives.2, gives.3, gives.4)
gives_behind (answers.Fault fault) old mid new first same moving gives =
    (passes_on old mid new [] [] [] [] first gives.0, gives.1 ∙ same, gives.2, gives.3, gives.4)
gives_behind answers.NoMemory old mid new first same moving gives = (gives.0 ∙ same, gives.1, gives.2)
gives_behind answers.Stopped old mid new first same moving gives = absurd (moving gives.0)

-- a decoder that goes on hasn't stopped
going_not_stopped : (m : StreamEnd) → m ≡ stream_end.Going → m ≡ stream_end.Stopped → ⊥
going_not_stopped m going stopped = cc

-- bytes were given up where something was met
passes_left : (old mid : Pushed) (rest : List ℕ) (given : List Picture) → rest ≡ kept_bytes mid.decoder.stream_end mid.there → PushPasses old mid [] given → PushPasses old (record mid { there = rest }) [] given
passes_left old mid rest given is passes = record {
  leads = λ more may o comes.
      passes.leads more may o
      (comes_by mid.decoder (rest ++ more) (mid.there ++ more) o (λ going. ap (λ (xs : List ℕ). xs ++ more) (is ∙ kept_going mid.decoder.stream_end mid.there going)) comes);
  finished = passes.finished;
}

-- a turn that took a unit, and gave up the bytes where something was met
pub turn_left : (answer : Option Answer) (old mid : Pushed) (rest : List ℕ) → old.decoder.stream_end ≡ stream_end.Going → rest ≡ kept_bytes mid.decoder.stream_end mid.there → TurnGives answer old mid → TurnGives answer old (record mid { there = rest })
turn_left None old mid rest going is gives =
    (passes_left old mid rest [] is gives.0, gives.1, gives.2, gives.3, gives.4, gives.5)
turn_left (Some answers.Shown) old mid rest going is gives =
    (gives.0, gives.1, passes_left old mid rest (gives.0 ∷ []) is gives.2, gives.3, gives.4)
turn_left (Some answers.Needs) old mid rest going is gives = (
  passes_left old mid rest [] is gives.0,
  gives.1,
  gives.2,
  record {
    unfinished = gives.3.unfinished;
    no_picture = gives.3.no_picture;
    going = gives.3.going;
    no_unit = λ whole. gives.3.no_unit (subst IsWholeUnit (is ∙ kept_going mid.decoder.stream_end mid.there gives.3.going) whole);
  },
)
turn_left (Some answers.End) old mid rest going is gives =
    (passes_left old mid rest [] is gives.0, gives.1, gives.2, gives.3, gives.4)
turn_left (Some (answers.Fault fault)) old mid rest going is gives =
    (passes_left old mid rest [] is gives.0, gives.1, gives.2, gives.3, gives.4)
turn_left (Some answers.NoMemory) old mid rest going is gives = gives
turn_left (Some answers.Stopped) old mid rest going is gives =
    absurd (going_not_stopped old.decoder.stream_end going gives.0)

-- turns before something was met changed nothing but the picture shown, where it was met before
abbrev pub Still : Pushed → Pushed → Type 0
Still a mid = (a.decoder.stream_end ≡ stream_end.Going → ⊥) → mid ≡ record a { shown = None }

repeats_by : (m : StreamEnd) (answer : Answer) (a mid new : Pushed) → a.decoder.stream_end ≡ m → Still a mid → RepeatsAnswer answer mid new → RepeatsAnswer answer a new
repeats_by stream_end.Going answer a mid new is still repeats =
    subst (λ (x : StreamEnd). RepeatsMet x answer a.decoder.due (new ≡ record a { shown = None })) (sym is) tt
repeats_by stream_end.Ended answer a mid new is still repeats =
    subst (λ (x : Pushed). RepeatsAnswer answer x new) (still (λ (e : a.decoder.stream_end ≡ stream_end.Going). cc)) repeats
repeats_by (stream_end.Faulted fault) answer a mid new is still repeats =
    subst (λ (x : Pushed). RepeatsAnswer answer x new) (still (λ (e : a.decoder.stream_end ≡ stream_end.Going). cc)) repeats
repeats_by stream_end.Stopped answer a mid new is still repeats =
    subst (λ (x : Pushed). RepeatsAnswer answer x new) (still (λ (e : a.decoder.stream_end ≡ stream_end.Going). cc)) repeats

pub repeats_behind : (answer : Answer) (a mid new : Pushed) → Still a mid → RepeatsAnswer answer mid new → RepeatsAnswer answer a new
repeats_behind answer a mid new still repeats = repeats_by a.decoder.stream_end answer a mid new refl still repeats

-- where a later turn found nothing met, nothing was met before
pub still_going : (a mid new : Pushed) → Still a mid → mid.decoder.stream_end ≡ stream_end.Going → Still a new
still_going a mid new still going ne =
    let same = still ne in
    absurd (ne (sym (ap (λ (x : Pushed). x.decoder.stream_end) same) ∙ going))

-- what a step gives, as a turn
abbrev pub Steps : Option Next → Pushed → Pushed → Type 0
Steps answer old new =
    StepGives answer old.decoder new.decoder (Some old.there) (Some new.there)
    × (IsThere old.decoder.units (Some old.there) → StepGivesBefore answer old.decoder new.decoder (Some old.there) (Some new.there))
    × (old.decoder.units.ahead ≡ []) × (old.is_finished ≡ false → IsWholeUnit old.there) × (new.is_finished ≡ old.is_finished)

pub turn_none : (old new : Pushed) → Steps None old new → new.shown ≡ None → TurnGives None old new
turn_none old new steps shown =
    (step_passes None old new steps.0 steps.1 steps.2 steps.3 steps.4, steps.0.3, shown, steps.0.1, steps.0.2, steps.0.4)

pub turn_shown : (old new : Pushed) (p : Picture) → Steps (Some (next.Shown p)) old new → old.decoder.stream_end ≡ stream_end.Going → new.shown ≡ Some p → TurnGives (Some answers.Shown) old new
turn_shown old new p steps going shown =
    (p, shown, step_passes (Some (next.Shown p)) old new steps.0 steps.1 steps.2 steps.3 steps.4, steps.0.1, λ stopped. going_not_stopped old.decoder.stream_end going (steps.0.2 stopped))

pub turn_end : (old new : Pushed) → Steps (Some next.End) old new → new.shown ≡ None → TurnGives (Some answers.End) old new
turn_end old new steps shown =
    (step_passes (Some next.End) old new steps.0 steps.1 steps.2 steps.3 steps.4, steps.0.3, shown, steps.0.1, steps.0.2)

pub turn_fault : (old new : Pushed) (fault : Fault) → Steps (Some (next.Fault fault)) old new → new.shown ≡ None → TurnGives (Some (answers.Fault fault)) old new
turn_fault old new fault steps shown =
    (step_passes (Some (next.Fault fault)) old new steps.0 steps.1 steps.2 steps.3 steps.4, steps.0.3, shown, steps.0.1, steps.0.2)

-- the turns that take no unit: a due picture leaves, what was met is answered, or more bytes are needed
pub turn_due : (old new : Pushed) (p : Picture) → DueGives (Some p) old.decoder new.decoder → new.there ≡ old.there → new.is_finished ≡ old.is_finished → (old.decoder.stream_end ≡ stream_end.Stopped → ⊥) → new.shown ≡ Some p
    → TurnGives (Some answers.Shown) old new
turn_due old new p due there finished moving shown =
    (p, shown, passes_due old new p due there finished, ap (λ (d : Decoding). d.given) due.1, λ stopped. moving (sym (ap (λ (d : Decoding). d.stream_end) due.1) ∙ stopped))

pub turn_ended : (old new : Pushed) → DueGives None old.decoder new.decoder → new.there ≡ old.there → new.is_finished ≡ old.is_finished → new.shown ≡ None → new.decoder.stream_end ≡ stream_end.Ended → TurnGives (Some answers.End) old new
turn_ended old new due there finished shown ended =
    (passes_same old new due.1 there (λ e. finished ∙ e), ap (λ (d : Decoding). d.given) due.1, shown, ended, ap (λ (d : Decoding). d.due) due.1 ∙ due.0)

pub turn_faulted : (old new : Pushed) (fault : Fault) → DueGives None old.decoder new.decoder → new.there ≡ old.there → new.is_finished ≡ old.is_finished → new.shown ≡ None → new.decoder.stream_end ≡ stream_end.Faulted fault → TurnGives (Some (answers.Fault fault)) old new
turn_faulted old new fault due there finished shown faulted =
    (passes_same old new due.1 there (λ e. finished ∙ e), ap (λ (d : Decoding). d.given) due.1, shown, faulted, ap (λ (d : Decoding). d.due) due.1 ∙ due.0)

pub turn_needs : (old new : Pushed) → DueGives None old.decoder new.decoder → new.there ≡ old.there → new.is_finished ≡ old.is_finished → new.shown ≡ None → new.decoder.stream_end ≡ stream_end.Going → new.is_finished ≡ false → (IsWholeUnit new.there → ⊥) → TurnGives (Some answers.Needs) old new
turn_needs old new due there finished shown going unfinished none = (
  passes_same old new due.1 there (λ e. finished ∙ e),
  ap (λ (d : Decoding). d.given) due.1,
  shown,
  record { unfinished = unfinished; no_picture = ap (λ (d : Decoding). d.due) due.1 ∙ due.0; going = going; no_unit = none },
)

pub turn_taken : (answer : Option Answer) (old new : Pushed) (d : Decoding) → DueGives None old.decoder d → TurnGives answer (record old { decoder = d }) new → TurnGives answer old new
turn_taken answer old new d due gives =
    subst (λ (x : Decoding). TurnGives answer (record old { decoder = x }) new) due.1 gives

-- what the bytes sent show, where nothing is due and this was met
shows_by : (p : Pushed) (sent more : List ℕ) (given : List Picture) (o : Outcome) → PushPasses push_begun p sent given → p.decoder.due ≡ [] → MayFollow p more → o.shown ≡ []
    → Remains p.decoder.stream_end p.decoder.state p.decoder.units (Some (p.there ++ more)) o → IsShown (sent ++ more) (record o { shown = given })
shows_by p sent more given o passes none may empty remains =
    let here : Comes p.decoder (Some (p.there ++ more)) o = record {
      rest = o;
      same = ap (λ (ps : List Picture). with_front ps o) (sym none);
      remains = remains;
    } in
    let behind = passes.leads more may o here in
    let same : behind.rest ≡ record o { shown = given } =
    sym behind.same ∙ ap (λ (ps : List Picture). record o { shown = given ++ ps }) empty ∙ ap (λ (ps : List Picture). record o { shown = ps }) (append-nil given) in
    subst (λ (x : Outcome). IsShown (sent ++ more) x) same behind.remains

pub shows_to_its_end : ShowsToItsEnd
shows_to_its_end p sent given passes none ended =
    let o : Outcome = record { shown = []; most = p.decoder.state.most; end = None } in
    let remains : Remains p.decoder.stream_end p.decoder.state p.decoder.units (Some (p.there ++ [])) o =
    subst (λ (m : StreamEnd). Remains m p.decoder.state p.decoder.units (Some (p.there ++ [])) o) (sym ended) refl in
    subst (λ (xs : List ℕ). IsShown xs (record o { shown = given })) (append-nil sent)
    (shows_by p sent [] given o passes none (λ e. refl) refl remains)

pub shows_to_its_fault : ShowsToItsFault
shows_to_its_fault p sent more given fault passes none faulted may =
    let o : Outcome = record { shown = []; most = p.decoder.state.most; end = Some fault } in
    let remains : Remains p.decoder.stream_end p.decoder.state p.decoder.units (Some (p.there ++ more)) o =
    subst (λ (m : StreamEnd). Remains m p.decoder.state p.decoder.units (Some (p.there ++ more)) o) (sym faulted) refl in
    shows_by p sent more given o passes none may refl remains
