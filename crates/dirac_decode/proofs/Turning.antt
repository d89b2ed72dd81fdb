-- One turn of a decoder at which nothing is due, and what its steps say of it.
use Rattle.std.proofs.Common.{◌≡◌, ◌∙◌, ℕ, ◌+◌, ◌<◌, Bool, true, false, List, [], ◌∷◌, ◌++◌, length, get_or, Option, None, Some, Result, Ok, Err, refl, sym, ap, ap₂, subst, arith}
use Rattle.std.specs.Prelude.{IfSome}
use Rattle.std.specs.Io.KnownBytes.{append_known, prepend_known}
use Rattle.std.proofs.lemmas.Option.{slice_get-get_or}
use Rattle.dirac_common.specs.declared.picture.Picture.{Picture}
use Rattle.dirac_units.specs.declared.unit.StreamEnd.{StreamEnd}
use Rattle.dirac_units.specs.declared.unit.StreamEnd.TheVariants as stream_end
use Rattle.dirac_units.specs.Progress.{CuttingProgress, TakesPart, TakesSome}
use Rattle.dirac_refs.specs.declared.waiting.Waiting.{Waiting}
use Rattle.dirac_refs.specs.Delivery.{flushed, flushed_by, least, least_place, others, picture_of}
use Rattle.dirac_refs.proofs.Least.{leaves_first}
use Rattle.dirac_decode.specs.declared.answers.Next.{Next}
use Rattle.dirac_decode.specs.declared.answers.Next.TheVariants as next
use Rattle.dirac_decode.specs.declared.step.Halt.{Halt}
use Rattle.dirac_decode.specs.declared.step.Halt.TheVariants as halt
use Rattle.dirac_decode.specs.declared.step.Step.{Step}
use Rattle.dirac_decode.specs.declared.step.Step.TheVariants as step
use Rattle.dirac_decode.specs.declared.step.Turn.{Turn}
use Rattle.dirac_content.specs.StreamState.{StreamState}
use Rattle.dirac_content.specs.Leaving.{leaving}
use Rattle.dirac_content.specs.Shown.{with_front}
use Rattle.dirac_decode.specs.Advancing.{Advances, AdvancesBefore, GoesOn, TakesBy, answer_by, count_shown, turn_by}
use Rattle.dirac_decode.specs.Decoding.{AnswersWhatWasMet, BreaksOff, Decoding, Gives, LeadsTo, StopsIn, decoding, due_of, emptied}
use Rattle.dirac_decode.specs.Stepping.{DueGives, IsThere, StepGives, StepGivesBefore, TakesAs, TakesOne}
use Rattle.dirac_decode.proofs.Alone.{alone_none}
use Rattle.dirac_decode.proofs.Leading.{leads_same, not_ended, not_faulted}
use Rattle.dirac_decode.proofs.Passed.{breaks_in, passed_none}

-- ---- a decoder at which nothing is due

-- where none would leave none waits
flushed_none : (ws : List Waiting) → flushed ws ≡ [] → ws ≡ []
flushed_none [] e = refl
flushed_none (w ∷ ws) e =
    let waits : least_place (w ∷ ws) < length (w ∷ ws) = (leaves_first (w ∷ ws) (omega arith)).waits in
    let first : Waiting = get_or (w ∷ ws) (least_place (w ∷ ws)) w in
    let gone : least (w ∷ ws) ≡ first.picture ∷ [] = ap picture_of (slice_get-get_or (w ∷ ws) (least_place (w ∷ ws)) w waits) in
    let some : [] ≡ first.picture ∷ flushed_by (length ws) (others (w ∷ ws)) =
    sym e ∙ ap (λ front. front ++ flushed_by (length ws) (others (w ∷ ws))) gone in cc

idle : (units : CuttingProgress) (state : StreamState) (draining : Bool) (given : ℕ) (m : StreamEnd) → due_of draining state ≡ [] → decoding units state false given m ≡ decoding units state draining given m
idle units state false given m none = refl
idle units state true given m none =
    let make : List Waiting → List Picture → Decoding = λ ws ps. record { units = units; state = record state { waiting = ws }; due = ps; given = given; stream_end = m } in
    ap₂ make (flushed_none state.waiting none) (sym none)

-- it is one that doesn't drain
pub idle_is : (d : Decoding) (units : CuttingProgress) (state : StreamState) (draining : Bool) (given : ℕ) (m : StreamEnd) → decoding units state draining given m ≡ d → d.stream_end ≡ stream_end.Going → d.due ≡ [] → decoding units state false given stream_end.Going ≡ d
idle_is d units state draining given m view going none =
    ap (decoding units state false given) (sym (ap (λ (x : Decoding). x.stream_end) view ∙ going))
    ∙ idle units state draining given m (ap (λ (x : Decoding). x.due) view ∙ none)
    ∙ view

-- ---- a turn

-- a decoder behind a turn
abbrev pub turned : CuttingProgress → StreamState → ℕ → Turn → Decoding
turned units state given t = decoding units state t.draining (given + t.shown) t.stream_end

turn_gives : (taken : Result Step Halt) (units units' : CuttingProgress) (state state' : StreamState) (given : ℕ) (held held' : Option (List ℕ)) → Advances taken units units' state state' held held' → GoesOn taken units units'
    → StepGives (turn_by taken).answer (decoding units state false given stream_end.Going) (turned units' state' given (turn_by taken)) held held'
turn_gives (Ok step.On) units units' state state' given held held' brings further =
    (brings given (given + 0), refl, λ (e : stream_end.Going ≡ stream_end.Stopped). cc, omega arith, λ e. further.1)
turn_gives (Ok (step.Shown p)) units units' state state' given held held' brings further =
    (brings given (given + 1), refl, λ e. e)
turn_gives (Ok step.Drains) units units' state state' given held held' brings further =
    (brings given (given + 0), refl, λ (e : stream_end.Going ≡ stream_end.Stopped). cc, omega arith, λ e. further.1)
turn_gives (Err halt.End) units units' state state' given held held' brings further =
    (brings given (given + 0), refl, λ (e : stream_end.Ended ≡ stream_end.Stopped). cc, omega arith, λ e. absurd (not_ended e))
turn_gives (Err (halt.Fault fault)) units units' state state' given held held' brings further =
    (brings given (given + 0), refl, λ (e : stream_end.Faulted fault ≡ stream_end.Stopped). cc, omega arith, λ e. absurd (not_faulted fault e))
turn_gives (Err halt.ReadFault) units units' state state' given held held' brings further = (refl, omega arith)
turn_gives (Err halt.NoMemory) units units' state state' given held held' brings further = (refl, omega arith)

turn_takes : (taken : Result Step Halt) (units units' : CuttingProgress) (state state' : StreamState) (given : ℕ) (held held' : Option (List ℕ)) → TakesBy taken units units' state state' held held'
    → TakesAs (turn_by taken).stream_end (turn_by taken).answer (decoding units state false given stream_end.Going) (turned units' state' given (turn_by taken)) held held'
turn_takes (Ok step.On) units units' state state' given held held' takes = takes
turn_takes (Ok (step.Shown p)) units units' state state' given held held' takes = takes
turn_takes (Ok step.Drains) units units' state state' given held held' takes = takes
turn_takes (Err halt.End) units units' state state' given held held' takes =
    ((ap emptied takes.0, ap (λ (s : StreamState). flushed s.waiting) takes.0), takes.1, refl)
turn_takes (Err (halt.Fault fault)) units units' state state' given held held' takes =
    ((ap emptied takes.0, ap (λ (s : StreamState). flushed s.waiting) takes.0), takes.1, refl)
turn_takes (Err halt.ReadFault) units units' state state' given held held' takes = (takes, refl, refl)
turn_takes (Err halt.NoMemory) units units' state state' given held held' takes = (takes, refl, refl)

-- while units go on more of them can be cut
turn_going : (taken : Result Step Halt) (units units' : CuttingProgress) → GoesOn taken units units' → (turn_by taken).stream_end ≡ stream_end.Going → units'.stream_end ≡ stream_end.Going
turn_going (Ok step) units units' further going = further.0
turn_going (Err halt.End) units units' further going = absurd (not_ended going)
turn_going (Err (halt.Fault fault)) units units' further going = absurd (not_faulted fault going)
turn_going (Err halt.ReadFault) units units' further going = let e : stream_end.Stopped ≡ stream_end.Going = going in cc
turn_going (Err halt.NoMemory) units units' further going = let e : stream_end.Stopped ≡ stream_end.Going = going in cc

-- what an answer of a turn, and an end, come from
turn_ends : (taken : Result Step Halt) → (turn_by taken).stream_end ≡ stream_end.Ended → taken ≡ Err halt.End
turn_ends (Ok step) is = let e : stream_end.Going ≡ stream_end.Ended = is in cc
turn_ends (Err halt.End) is = refl
turn_ends (Err (halt.Fault fault)) is = let e : stream_end.Faulted fault ≡ stream_end.Ended = is in cc
turn_ends (Err halt.ReadFault) is = let e : stream_end.Stopped ≡ stream_end.Ended = is in cc
turn_ends (Err halt.NoMemory) is = let e : stream_end.Stopped ≡ stream_end.Ended = is in cc

turn_breaks : (taken : Result Step Halt) → (turn_by taken).answer ≡ Some next.ReadFault → taken ≡ Err halt.ReadFault
turn_breaks (Ok step.On) is = let e : None ≡ Some next.ReadFault = is in cc
turn_breaks (Ok (step.Shown p)) is = let e : Some (next.Shown p) ≡ Some next.ReadFault = is in cc
turn_breaks (Ok step.Drains) is = let e : None ≡ Some next.ReadFault = is in cc
turn_breaks (Err halt.End) is = let e : None ≡ Some next.ReadFault = is in cc
turn_breaks (Err (halt.Fault fault)) is = let e : None ≡ Some next.ReadFault = is in cc
turn_breaks (Err halt.ReadFault) is = refl
turn_breaks (Err halt.NoMemory) is = let e : Some next.NoMemory ≡ Some next.ReadFault = is in cc

turn_stops : (taken : Result Step Halt) → (turn_by taken).answer ≡ Some next.NoMemory → taken ≡ Err halt.NoMemory
turn_stops (Ok step.On) is = let e : None ≡ Some next.NoMemory = is in cc
turn_stops (Ok (step.Shown p)) is = let e : Some (next.Shown p) ≡ Some next.NoMemory = is in cc
turn_stops (Ok step.Drains) is = let e : None ≡ Some next.NoMemory = is in cc
turn_stops (Err halt.End) is = let e : None ≡ Some next.NoMemory = is in cc
turn_stops (Err (halt.Fault fault)) is = let e : None ≡ Some next.NoMemory = is in cc
turn_stops (Err halt.ReadFault) is = let e : Some next.ReadFault ≡ Some next.NoMemory = is in cc
turn_stops (Err halt.NoMemory) is = refl

-- ---- a turn of a decoder at which nothing is due

pub step_gives : (d : Decoding) (taken : Result Step Halt) (turn : Turn) (units units' : CuttingProgress) (state state' : StreamState) (given : ℕ) (held held' : Option (List ℕ)) → turn ≡ turn_by taken → decoding units state false given stream_end.Going ≡ d
    → Advances taken units units' state state' held held' → GoesOn taken units units' → StepGives turn.answer d (turned units' state' given turn) held held'
step_gives d taken turn units units' state state' given held held' made here brings further =
    subst (λ (x : Decoding). StepGives turn.answer x (turned units' state' given turn) held held') here
    (subst (λ (t : Turn). StepGives t.answer (decoding units state false given stream_end.Going) (turned units' state' given t) held held') (sym made)
    (turn_gives taken units units' state state' given held held' brings further))

pub step_takes : (d : Decoding) (taken : Result Step Halt) (turn : Turn) (units units' : CuttingProgress) (state state' : StreamState) (given : ℕ) (held held' : Option (List ℕ)) → turn ≡ turn_by taken → decoding units state false given stream_end.Going ≡ d
    → TakesBy taken units units' state state' held held' → TakesAs turn.stream_end turn.answer d (turned units' state' given turn) held held'
step_takes d taken turn units units' state state' given held held' made here takes =
    subst (λ (x : Decoding). TakesAs turn.stream_end turn.answer x (turned units' state' given turn) held held') here
    (subst (λ (t : Turn). TakesAs t.stream_end t.answer (decoding units state false given stream_end.Going) (turned units' state' given t) held held') (sym made)
    (turn_takes taken units units' state state' given held held' takes))

-- the same as what the step gives, whatever follows the bytes held
pub step_gives_before : (d : Decoding) (taken : Result Step Halt) (turn : Turn) (units units' : CuttingProgress) (state state' : StreamState) (given : ℕ) (held held' : Option (List ℕ)) → turn ≡ turn_by taken → decoding units state false given stream_end.Going ≡ d
    → AdvancesBefore taken units units' state state' held held' → GoesOn taken units units' → IsThere d.units held → StepGivesBefore turn.answer d (turned units' state' given turn) held held'
step_gives_before d taken turn units units' state state' given held held' made here brings further there more =
    let units_there : IsThere units held = subst (λ (u : CuttingProgress). IsThere u held) (sym (ap (λ (x : Decoding). x.units) here)) there in
    step_gives d taken turn units units' state state' given (append_known held more) (append_known held' more) made here (brings units_there more) further

pub step_going : (taken : Result Step Halt) (turn : Turn) (units units' : CuttingProgress) → turn ≡ turn_by taken → GoesOn taken units units' → turn.stream_end ≡ stream_end.Going → units'.stream_end ≡ stream_end.Going
step_going taken turn units units' made further going =
    turn_going taken units units' further (sym (ap (λ (t : Turn). t.stream_end) made) ∙ going)

pub step_counts : (taken : Result Step Halt) (turn : Turn) → turn ≡ turn_by taken → turn.shown ≡ count_shown taken
step_counts taken turn made = ap (λ (t : Turn). t.shown) made

pub step_ends : (taken : Result Step Halt) (turn : Turn) → turn ≡ turn_by taken → turn.stream_end ≡ stream_end.Ended → taken ≡ Err halt.End
step_ends taken turn made is = turn_ends taken (sym (ap (λ (t : Turn). t.stream_end) made) ∙ is)

pub step_breaks : (taken : Result Step Halt) (turn : Turn) → turn ≡ turn_by taken → turn.answer ≡ Some next.ReadFault → taken ≡ Err halt.ReadFault
step_breaks taken turn made is = turn_breaks taken (sym (ap (λ (t : Turn). t.answer) made) ∙ is)

pub step_stops : (taken : Result Step Halt) (turn : Turn) → turn ≡ turn_by taken → turn.answer ≡ Some next.NoMemory → taken ≡ Err halt.NoMemory
step_stops taken turn made is = turn_stops taken (sym (ap (λ (t : Turn). t.answer) made) ∙ is)

-- a read failed
pub breaks_idle : (d : Decoding) (units : CuttingProgress) (held held' : Option (List ℕ)) → units ≡ d.units → d.stream_end ≡ stream_end.Going → d.due ≡ [] → TakesPart units held held' → BreaksOff d held held'
breaks_idle d units held held' same going none part = record {
  going = going;
  told =
      breaks_in (prepend_known d.units.ahead held) (prepend_known d.units.ahead held) held' d d none
      (passed_none (prepend_known d.units.ahead held) d d [] refl refl (λ more. refl))
      (subst (λ (u : CuttingProgress). TakesPart u held held') same part);
}

-- memory was wanting
pub stops_idle : (d : Decoding) (units : CuttingProgress) (held held' : Option (List ℕ)) → units ≡ d.units → d.stream_end ≡ stream_end.Going → TakesSome units held held' → StopsIn d held held'
stops_idle d units held held' same going part =
    (going, subst (λ (u : CuttingProgress). TakesSome u held held') same part)

-- ---- a step

-- a decoder that was stopped stays
pub one_stopped : (d : Decoding) (held : Option (List ℕ)) → d.stream_end ≡ stream_end.Stopped → TakesOne (Some next.Stopped) d d held held
one_stopped d held stopped = record {
  due = λ p rest moving is. absurd (moving stopped);
  met = λ ne none. refl;
  unit = λ going none. let both : stream_end.Stopped ≡ stream_end.Going = sym stopped ∙ going in cc;
}

-- a picture that is due left
pub one_due : (p : Picture) (old new : Decoding) (held : Option (List ℕ)) → DueGives (Some p) old new → TakesOne (Some (next.Shown p)) old new held held
one_due p old new held gives = record {
  due = λ q rest moving is.
      let both : p ∷ new.due ≡ q ∷ rest = sym gives.0 ∙ is in
      let front : p ≡ q = cc in
      let tail : new.due ≡ rest = cc in
      (ap (λ x. Some (next.Shown x)) front, gives.1 ∙ ap (λ (ps : List Picture). record old { due = ps; given = old.given + 1 }) tail, refl);
  met = λ ne none. let both : [] ≡ p ∷ new.due = sym none ∙ gives.0 in cc;
  unit = λ going none. let both : [] ≡ p ∷ new.due = sym none ∙ gives.0 in cc;
}

-- what stays where a due picture left, or none is due
pub record Stays (old new : Decoding) : Type 0 where
  pub stream_end : new.stream_end ≡ old.stream_end
  pub ahead : new.units.ahead ≡ old.units.ahead
  pub place : new.units.unit_place.at + length new.units.ahead ≡ old.units.unit_place.at + length old.units.ahead
  pub most : new.state.most ≡ old.state.most

stays_as : (old new d : Decoding) → new ≡ d → Stays old d → Stays old new
stays_as old new d is stays = subst (λ (x : Decoding). Stays old x) (sym is) stays

pub due_stays : (gone : Option Picture) (old new : Decoding) → DueGives gone old new → Stays old new
due_stays None old new gives = stays_as old new old gives.1 (record { stream_end = refl; ahead = refl; place = refl; most = refl })
due_stays (Some p) old new gives =
    stays_as old new (record old { due = new.due; given = old.given + 1 }) gives.1 (record { stream_end = refl; ahead = refl; place = refl; most = refl })

pub due_given : (p : Picture) (old new : Decoding) → DueGives (Some p) old new → new.given ≡ old.given + 1
due_given p old new gives = ap (λ (x : Decoding). x.given) gives.1

pub none_due : (old new : Decoding) → DueGives None old new → new.due ≡ []
none_due old new gives = ap (λ (x : Decoding). x.due) gives.1 ∙ gives.0

-- it came before what follows
pub leads_due : (p : Picture) (old new : Decoding) (held : Option (List ℕ)) → DueGives (Some p) old new → LeadsTo old new held held (p ∷ [])
leads_due p old new held gives =
    let back : Decoding = record old { due = new.due; given = old.given + 1 } in
    subst (λ (d : Decoding). LeadsTo old d held held (p ∷ [])) (sym gives.1) (record {
      comes = λ o comes. record {
        rest = comes.rest;
        same = ap (with_front (p ∷ [])) comes.same ∙ ap (λ front. with_front front comes.rest) (sym gives.0);
        remains = comes.remains;
      };
      going = λ e. e;
      passed = λ e.
          passed_none (prepend_known old.units.ahead held) old back (p ∷ []) refl refl (λ more. ap (λ ps. ps ++ leaving old.state more) gives.0);
      alone =
          alone_none (prepend_known old.units.ahead held) old back (p ∷ []) (λ bytes o comes. record {
            rest = comes.rest;
            same = ap (with_front (p ∷ [])) comes.same ∙ ap (λ front. with_front front comes.rest) (sym gives.0);
            remains = comes.remains;
          });
    })

-- nothing is due, and something was met
pub one_met : (answer : Next) (d : Decoding) (held : Option (List ℕ)) → d.due ≡ [] → (d.stream_end ≡ stream_end.Going → ⊥) → TakesOne (Some answer) d d held held
one_met answer d held none met = record {
  due = λ p rest moving is. let both : [] ≡ p ∷ rest = sym none ∙ is in cc;
  met = λ ne empty. refl;
  unit = λ going empty. absurd (met going);
}

-- nothing is due, and a unit is taken
pub one_unit : (answer : Option Next) (old new : Decoding) (held held' : Option (List ℕ)) → old.due ≡ [] → old.stream_end ≡ stream_end.Going → TakesAs new.stream_end answer old new held held' → TakesOne answer old new held held'
one_unit answer old new held held' none going takes = record {
  due = λ p rest moving is. let both : [] ≡ p ∷ rest = sym none ∙ is in cc;
  met = λ ne empty. absurd (ne going);
  unit = λ e empty. takes;
}

-- what was met is answered
met_gives : (m : StreamEnd) (d : Decoding) (held : Option (List ℕ)) → (m ≡ stream_end.Going → ⊥) → d.stream_end ≡ m → d.due ≡ [] → Gives (answer_by m) d d held held
met_gives stream_end.Going d held ne is none = absurd (ne refl)
met_gives stream_end.Ended d held ne is none = (leads_same d d held refl, is, none, refl)
met_gives (stream_end.Faulted fault) d held ne is none = (leads_same d d held refl, is, none, refl)
met_gives stream_end.Stopped d held ne is none = (is, refl)

pub gives_met : (d : Decoding) (held : Option (List ℕ)) → (d.stream_end ≡ stream_end.Going → ⊥) → d.due ≡ [] → Gives (answer_by d.stream_end) d d held held
gives_met d held ne none = met_gives d.stream_end d held ne refl none

pub answers_met : (m : StreamEnd) (due : List Picture) → AnswersWhatWasMet m due (answer_by m)
answers_met stream_end.Going due = tt
answers_met stream_end.Ended due = λ none. refl
answers_met (stream_end.Faulted fault) due = λ none. refl
answers_met stream_end.Stopped due = refl

-- it is neither a failed read nor a want of memory
pub met_no_read : (m : StreamEnd) → answer_by m ≡ next.ReadFault → ⊥
met_no_read stream_end.Going is = let e : next.Stopped ≡ next.ReadFault = is in cc
met_no_read stream_end.Ended is = let e : next.End ≡ next.ReadFault = is in cc
met_no_read (stream_end.Faulted fault) is = let e : next.Fault fault ≡ next.ReadFault = is in cc
met_no_read stream_end.Stopped is = let e : next.Stopped ≡ next.ReadFault = is in cc

pub met_no_memory : (m : StreamEnd) → answer_by m ≡ next.NoMemory → ⊥
met_no_memory stream_end.Going is = let e : next.Stopped ≡ next.NoMemory = is in cc
met_no_memory stream_end.Ended is = let e : next.End ≡ next.NoMemory = is in cc
met_no_memory (stream_end.Faulted fault) is = let e : next.Fault fault ≡ next.NoMemory = is in cc
met_no_memory stream_end.Stopped is = let e : next.Stopped ≡ next.NoMemory = is in cc

-- nor is a picture, or that the decoder was stopped
pub shown_no_read : (p : Picture) → Some (next.Shown p) ≡ Some next.ReadFault → ⊥
shown_no_read p is = cc

pub shown_no_memory : (p : Picture) → Some (next.Shown p) ≡ Some next.NoMemory → ⊥
shown_no_memory p is = cc

pub stopped_no_read : Some next.Stopped ≡ Some next.ReadFault → ⊥
stopped_no_read is = cc

pub stopped_no_memory : Some next.Stopped ≡ Some next.NoMemory → ⊥
stopped_no_memory is = cc

pub some_is : (a b : Next) → Some a ≡ Some b → a ≡ b
some_is a b is = cc

-- what was met isn't answered while a picture is due, and nothing is asked of an answer before something was met
pub answers_shown : (m : StreamEnd) (due : List Picture) (p : Picture) (rest : List Picture) → (m ≡ stream_end.Stopped → ⊥) → due ≡ p ∷ rest → AnswersWhatWasMet m due (next.Shown p)
answers_shown stream_end.Going due p rest moving is = tt
answers_shown stream_end.Ended due p rest moving is = λ none. let both : [] ≡ p ∷ rest = sym none ∙ is in cc
answers_shown (stream_end.Faulted fault) due p rest moving is = λ none. let both : [] ≡ p ∷ rest = sym none ∙ is in cc
answers_shown stream_end.Stopped due p rest moving is = absurd (moving refl)

pub answers_any : (m : StreamEnd) (due : List Picture) (answer : Next) → m ≡ stream_end.Going → AnswersWhatWasMet m due answer
answers_any m due answer going = subst (λ (x : StreamEnd). AnswersWhatWasMet x due answer) (sym going) tt

pub repeats_any : (m : StreamEnd) (due : List Picture) (answer : Option Next) → m ≡ stream_end.Going → IfSome answer (AnswersWhatWasMet m due)
repeats_any m due None going = tt
repeats_any m due (Some answer) going = answers_any m due answer going
