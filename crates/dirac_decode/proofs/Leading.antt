-- What one step of the decoder says of the pictures that are still to come.
use Rattle.std.proofs.Common.{◌≡◌, ◌∙◌, if◌then◌else◌, ℕ, ◌+◌, ◌-◌, ◌^◌, ◌<◌, Bool, true, false, List, [], ◌∷◌, Option, None, Some, Ok, Err, refl, sym, ap, subst, arith}
use Rattle.std.specs.Prelude.{IfSome}
use Rattle.std.specs.Io.KnownBytes.{prepend_known}
use Rattle.std.proofs.lemmas.List.{append-nil}
use Rattle.dirac_common.specs.declared.faults.Fault.{Fault}
use Rattle.dirac_common.specs.declared.faults.Refusal.{Refusal}
use Rattle.dirac_common.specs.declared.picture.Picture.{Picture}
use Rattle.dirac_units.specs.declared.unit.StreamEnd.{StreamEnd}
use Rattle.dirac_units.specs.declared.unit.StreamEnd.TheVariants as stream_end
use Rattle.dirac_units.specs.declared.unit.Unit.{Unit}
use Rattle.dirac_units.specs.Cut.{EachHasACut}
use Rattle.dirac_units.specs.Progress.{Ends, GivesUnit, IsPartTaken, CuttingProgress}
use Rattle.dirac_refs.specs.Delivery.{flushed}
use Rattle.dirac_content.specs.StreamState.{StreamState, unit_step}
use Rattle.dirac_content.specs.Shown.{Outcome, ends_with, with_front}
use Rattle.dirac_decode.specs.Decoding.{BringsAlone, Decoding, LeadsTo, decoding, emptied}
use Rattle.dirac_decode.specs.declared.step.Step.{Step}
use Rattle.dirac_decode.specs.declared.step.Step.TheVariants as step
use Rattle.dirac_decode.specs.Taking.{IsTakenAs}
use Rattle.dirac_decode.specs.Advancing.{Advances, Brings}
use Rattle.dirac_decode.proofs.Alone.{alone_none, alone_on, alone_part, alone_unit}
use Rattle.dirac_decode.proofs.Passed.{passed_none, passed_on, passed_unit}
use Rattle.dirac_content.proofs.Passing.{fault_of, told_unit, told_refusal, told_end}

-- an accepted unit at which at most one picture leaves
pub brings_on : (unit : Unit) (units units' : CuttingProgress) (state state' : StreamState) (held held' : Option (List ℕ)) (gone : List Picture) → GivesUnit true unit units units' held held' → unit_step state unit.info.code unit.payload ≡ Ok (record { state = state'; gone = gone }) → Brings units units' state state' held held' false stream_end.Going gone
brings_on unit units units' state state' held held' gone gives is given given' = record {
  comes = λ o comes. record {
    rest = with_front gone comes.rest;
    same = ap (with_front gone) comes.same;
    remains = told_unit (prepend_known units.ahead held) (prepend_known units'.ahead held') unit units.unit_place units'.unit_place state (record { state = state'; gone = gone }) comes.rest gives.told gives.next is comes.remains;
  };
  going = λ e. refl;
  passed = λ e.
      passed_unit (prepend_known units.ahead held) (prepend_known units'.ahead held') unit (decoding units state false given stream_end.Going) (decoding units' state' false given' stream_end.Going)
      (record { state = state'; gone = gone }) gone gives.told gives.next is refl refl (sym (append-nil gone));
  alone =
      alone_unit (prepend_known units.ahead held) (prepend_known units'.ahead held') unit units.unit_place (decoding units state false given stream_end.Going) (decoding units' state' false given' stream_end.Going) gone refl gives.told
      (λ bytes behind first o comes. record {
        rest = with_front gone comes.rest;
        same = ap (with_front gone) comes.same;
        remains = told_unit (Some bytes) (Some behind) unit units.unit_place units'.unit_place state (record { state = state'; gone = gone }) comes.rest first gives.next is comes.remains;
      });
}

-- an end unit
pub brings_drain : (unit : Unit) (units units' : CuttingProgress) (state state' : StreamState) (held held' : Option (List ℕ)) → GivesUnit true unit units units' held held' → unit_step state unit.info.code unit.payload ≡ Ok (record { state = emptied state'; gone = flushed state'.waiting }) → Brings units units' state state' held held' true stream_end.Going []
brings_drain unit units units' state state' held held' gives is given given' = record {
  comes = λ o comes. record {
    rest = with_front (flushed state'.waiting) comes.rest;
    same = comes.same;
    remains = told_unit (prepend_known units.ahead held) (prepend_known units'.ahead held') unit units.unit_place units'.unit_place state (record { state = emptied state'; gone = flushed state'.waiting }) comes.rest gives.told gives.next is comes.remains;
  };
  going = λ e. refl;
  passed = λ e.
      passed_unit (prepend_known units.ahead held) (prepend_known units'.ahead held') unit (decoding units state false given stream_end.Going) (decoding units' state' true given' stream_end.Going)
      (record { state = emptied state'; gone = flushed state'.waiting }) [] gives.told gives.next is refl refl refl;
  alone =
      alone_unit (prepend_known units.ahead held) (prepend_known units'.ahead held') unit units.unit_place (decoding units state false given stream_end.Going) (decoding units' state' true given' stream_end.Going) [] refl gives.told
      (λ bytes behind first o comes. record {
        rest = with_front (flushed state'.waiting) comes.rest;
        same = comes.same;
        remains = told_unit (Some bytes) (Some behind) unit units.unit_place units'.unit_place state (record { state = emptied state'; gone = flushed state'.waiting }) comes.rest first gives.next is comes.remains;
      });
}

pub not_ended : stream_end.Ended ≡ stream_end.Going → ⊥
not_ended e = cc

pub not_faulted : (fault : Fault) → stream_end.Faulted fault ≡ stream_end.Going → ⊥
not_faulted fault e = cc

-- while units go on none is stopped
pub not_stopped : (m : StreamEnd) → m ≡ stream_end.Going → m ≡ stream_end.Stopped → ⊥
not_stopped m going is = let both : stream_end.Going ≡ stream_end.Stopped = sym going ∙ is in cc

-- the outcome of a stream that ends there
pub ended_outcome : (state : StreamState) (end : Option Fault) (o rest : Outcome) → o ≡ with_front (flushed state.waiting) rest → rest ≡ record { shown = []; most = state.most; end = end } → o ≡ ends_with state end
ended_outcome state end o rest same is =
    let make : List Picture → Outcome = λ shown. record { shown = shown; most = state.most; end = end } in
    same ∙ ap (with_front (flushed state.waiting)) is ∙ ap make (append-nil (flushed state.waiting))

-- what was read of the lawful end, and of a fault of the cutting, brings it alone
pub end_alone : (units units' : CuttingProgress) (state : StreamState) (held held' : Option (List ℕ)) (given given' : ℕ) → units'.ahead ≡ [] → IfSome (prepend_known units.ahead held) (λ bytes. IsPartTaken units.unit_place None bytes held')
    → (let old : Decoding = decoding units state false given stream_end.Going in let new : Decoding = decoding units' state true given' stream_end.Ended in IfSome (prepend_known units.ahead held) (λ bytes. BringsAlone old new bytes (prepend_known units'.ahead held') []))
end_alone units units' state held held' given given' none taken =
    alone_part (prepend_known units.ahead held) held' units.unit_place None (decoding units state false given stream_end.Going) (decoding units' state true given' stream_end.Ended) [] refl not_ended none taken
    (λ part front o comes. record {
      rest = ends_with state None;
      same = ended_outcome state None o comes.rest comes.same comes.remains;
      remains = told_end (Some part) units.unit_place state None front;
    })

-- the lawful end
pub brings_end : (units units' : CuttingProgress) (state : StreamState) (held held' : Option (List ℕ)) → units'.ahead ≡ [] → Ends units held held' None → Brings units units' state state held held' true stream_end.Ended []
brings_end units units' state held held' none ends given given' = record {
  comes = λ o comes. record {
    rest = ends_with state None;
    same = ended_outcome state None o comes.rest comes.same comes.remains;
    remains = told_end (prepend_known units.ahead held) units.unit_place state None ends.told;
  };
  going = λ e. refl;
  passed = λ e. absurd (not_ended e);
  alone = end_alone units units' state held held' given given' none ends.taken;
}

pub fault_alone : (units units' : CuttingProgress) (state : StreamState) (held held' : Option (List ℕ)) (fault : Fault) (given given' : ℕ) → units'.ahead ≡ [] → IfSome (prepend_known units.ahead held) (λ bytes. IsPartTaken units.unit_place (Some fault) bytes held')
    → (let old : Decoding = decoding units state false given stream_end.Going in let new : Decoding = decoding units' state true given' (stream_end.Faulted fault) in IfSome (prepend_known units.ahead held) (λ bytes. BringsAlone old new bytes (prepend_known units'.ahead held') []))
fault_alone units units' state held held' fault given given' none taken =
    alone_part (prepend_known units.ahead held) held' units.unit_place (Some fault) (decoding units state false given stream_end.Going) (decoding units' state true given' (stream_end.Faulted fault)) [] refl (not_faulted fault) none taken
    (λ part front o comes. record {
      rest = ends_with state (Some fault);
      same = ended_outcome state (Some fault) o comes.rest comes.same comes.remains;
      remains = told_end (Some part) units.unit_place state (Some fault) front;
    })

-- a fault of the cutting
pub brings_fault : (units units' : CuttingProgress) (state : StreamState) (held held' : Option (List ℕ)) (fault : Fault) → units'.ahead ≡ [] → Ends units held held' (Some fault) → Brings units units' state state held held' true (stream_end.Faulted fault) []
brings_fault units units' state held held' fault none ends given given' = record {
  comes = λ o comes. record {
    rest = ends_with state (Some fault);
    same = ended_outcome state (Some fault) o comes.rest comes.same comes.remains;
    remains = told_end (prepend_known units.ahead held) units.unit_place state (Some fault) ends.told;
  };
  going = λ e. refl;
  passed = λ e. absurd (not_faulted fault e);
  alone = fault_alone units units' state held held' fault given given' none ends.taken;
}

-- a fault of content
pub brings_refusal : (unit : Unit) (units units' : CuttingProgress) (state : StreamState) (held held' : Option (List ℕ)) (refusal : Refusal) → EachHasACut → GivesUnit true unit units units' held held' → unit_step state unit.info.code unit.payload ≡ Err refusal → Brings units units' state state held held' true (stream_end.Faulted (fault_of units.unit_place refusal)) []
brings_refusal unit units units' state held held' refusal cuts gives is given given' = record {
  comes = λ o comes. record {
    rest = ends_with state (Some (fault_of units.unit_place refusal));
    same = ended_outcome state (Some (fault_of units.unit_place refusal)) o comes.rest comes.same comes.remains;
    remains = told_refusal (prepend_known units.ahead held) (prepend_known units'.ahead held') unit units.unit_place state refusal cuts gives.told is;
  };
  going = λ e. refl;
  passed = λ e. absurd (not_faulted (fault_of units.unit_place refusal) e);
  alone =
      alone_unit (prepend_known units.ahead held) (prepend_known units'.ahead held') unit units.unit_place (decoding units state false given stream_end.Going) (decoding units' state true given' (stream_end.Faulted (fault_of units.unit_place refusal))) [] refl gives.told
      (λ bytes behind first o comes. record {
        rest = ends_with state (Some (fault_of units.unit_place refusal));
        same = ended_outcome state (Some (fault_of units.unit_place refusal)) o comes.rest comes.same comes.remains;
        remains = told_refusal (Some bytes) (Some behind) unit units.unit_place state refusal cuts first is;
      });
}

-- a fault of content, as the decoder answers it
pub brings_refused : (unit : Unit) (units units' : CuttingProgress) (state state' : StreamState) (held held' : Option (List ℕ)) (refusal : Refusal) (index at : ℕ) → EachHasACut → GivesUnit true unit units units' held held' → (unit_step state unit.info.code unit.payload ≡ Err refusal) × (state' ≡ state) → index ≡ units.unit_place.index → at ≡ units.unit_place.at → Brings units units' state state' held held' true (stream_end.Faulted (record { unit = index; at = at + refusal.at; cause = refusal.cause })) []
brings_refused unit units units' state state' held held' refusal index at cuts gives is same_index same_at =
    let P : StreamState → ℕ → ℕ → Type 0 = λ c i a. Brings units units' state c held held' true (stream_end.Faulted (record { unit = i; at = a + refusal.at; cause = refusal.cause })) [] in
    subst (λ (c : StreamState). P c index at) (sym is.1)
    (subst (λ (i : ℕ). P state i at) (sym same_index)
    (subst (λ (a : ℕ). P state units.unit_place.index a) (sym same_at)
    (brings_refusal unit units units' state held held' refusal cuts gives is.0)))

-- nothing happened
pub leads_same : (old new : Decoding) (held : Option (List ℕ)) → new ≡ old → LeadsTo old new held held []
leads_same old new held same =
    subst (λ (d : Decoding). LeadsTo old d held held []) (sym same) (record {
      comes = λ o comes. comes;
      going = λ e. e;
      passed = λ e. passed_none (prepend_known old.units.ahead held) old old [] refl refl (λ more. refl);
      alone = alone_none (prepend_known old.units.ahead held) old old [] (λ bytes o comes. comes);
    })

-- one step and then another
pub leads_on : (a b c : Decoding) (held held' held'' : Option (List ℕ)) (gone : List Picture) → LeadsTo a b held held' [] → LeadsTo b c held' held'' gone → LeadsTo a c held held'' gone
leads_on a b c held held' held'' gone first second = record {
  comes = λ o comes. first.comes (with_front gone o) (second.comes o comes);
  going = λ e. first.going (second.going e);
  passed = λ e.
      passed_on (prepend_known a.units.ahead held) (prepend_known b.units.ahead held') (prepend_known c.units.ahead held'') a b c [] gone (first.passed (second.going e)) (second.passed e);
  alone = alone_on (prepend_known a.units.ahead held) (prepend_known b.units.ahead held') (prepend_known c.units.ahead held'') a b c [] gone first.going second.going first.alone second.alone;
}

-- how many units may still be taken
abbrev pub turns_left : StreamEnd → ℕ → ℕ
turns_left stream_end.Going at = 2 ^ 63 - at
turns_left stream_end.Ended at = 0
turns_left (stream_end.Faulted fault) at = 0
turns_left stream_end.Stopped at = 0

-- fewer behind a unit, and none once something was met
turns_under : (m' : StreamEnd) (at at' : ℕ) → (m' ≡ stream_end.Going → at < at') → at < 2 ^ 63 → turns_left m' at' < 2 ^ 63 - at
turns_under stream_end.Going at at' further below = let more : at < at' = further refl in omega arith
turns_under stream_end.Ended at at' further below = omega arith
turns_under (stream_end.Faulted fault) at at' further below = omega arith
turns_under stream_end.Stopped at at' further below = omega arith

pub turns_fall : (m m' : StreamEnd) (at at' : ℕ) → m ≡ stream_end.Going → (m' ≡ stream_end.Going → at < at') → at < 2 ^ 63 → turns_left m' at' < turns_left m at
turns_fall m m' at at' going further below =
    subst (λ (x : StreamEnd). turns_left m' at' < turns_left x at) (sym going) (turns_under m' at at' further below)

-- a decoder that drains has the greatest length that its state had
pub most_of : (draining : Bool) (state : StreamState) → (if draining then emptied state else state).most ≡ state.most
most_of true state = refl
most_of false state = refl

-- a unit's content brings what its step says
pub brings_step : (step : Step) (unit : Unit) (units units' : CuttingProgress) (state state' : StreamState) (held held' : Option (List ℕ)) → GivesUnit true unit units units' held held' → IsTakenAs (Ok step) (unit_step state unit.info.code unit.payload) state state' → Advances (Ok step) units units' state state' held held'
brings_step step.On unit units units' state state' held held' gives took =
    brings_on unit units units' state state' held held' [] gives (took.1 ∙ ap Ok took.2)
brings_step (step.Shown p) unit units units' state state' held held' gives took =
    brings_on unit units units' state state' held held' (p ∷ []) gives (took.1 ∙ ap Ok took.2)
brings_step step.Drains unit units units' state state' held held' gives took =
    brings_drain unit units units' state state' held held' gives (took.1 ∙ ap Ok took.2)
