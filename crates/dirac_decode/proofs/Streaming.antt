-- What was written of a stream, and what its decoding answers at the end.
use Rattle.std.proofs.Common.{◌≡◌, ◌∙◌, ℕ, ◌+◌, ◌≤◌, List, [], ◌∷◌, ◌++◌, length, Option, None, Some, refl, sym, ap, subst, append_assoc, length-append}
use Rattle.std.specs.Prelude.{IfSome}
use Rattle.std.specs.Io.KnownBytes.{Appends, Consumes, prepend_known}
use Rattle.std.proofs.KnownBytes.{Appends-nil, Appends-trans}
use Rattle.std.proofs.lemmas.List.{append-nil}
use Rattle.dirac_common.specs.declared.faults.Fault.{Fault}
use Rattle.dirac_common.specs.declared.picture.Picture.{Picture}
use Rattle.dirac_io.specs.Faults.{Rose}
use Rattle.dirac_io.specs.Writing.{AppendsFront}
use Rattle.dirac_units.specs.declared.unit_place.UnitPlace.{UnitPlace}
use Rattle.dirac_units.specs.declared.unit.StreamEnd.{StreamEnd}
use Rattle.dirac_units.specs.declared.unit.StreamEnd.TheVariants as stream_end
use Rattle.dirac_units.specs.Cut.{EachHasACut, IsCut, UnitText}
use Rattle.dirac_units.specs.Progress.{CuttingProgress}
use Rattle.dirac_content.specs.declared.tally.Tally.{Tally}
use Rattle.dirac_decode.specs.declared.answers.Decoded.TheVariants as decoded
use Rattle.dirac_decode.specs.declared.answers.Next.TheVariants as next
use Rattle.dirac_content.specs.StreamState.{StreamState, stream_begun}
use Rattle.dirac_content.specs.Shown.{IsShown, Outcome, Shows, outcome, tally_of, with_front}
use Rattle.dirac_decode.specs.Decoding.{BreaksIn, BreaksOff, BringsAlone, Comes, ComesIn, Decoding, Gives, LeadsTo, Passed, Remains, RemainsIn, StopsIn, decoder_begun, tally}
use Rattle.dirac_content.specs.Leaving.{IsBrokenOff, IsFrontOfRead, leaving}
use Rattle.dirac_decode.proofs.Alone.{alone_on}
use Rattle.dirac_decode.proofs.Passed.{passed_on}
use Rattle.dirac_content.specs.Raw.{raw, raws}
use Rattle.dirac_decode.specs.Decoded.{IsDecodedStream}
use Rattle.dirac_decode.specs.Streamed.{CountsFaults}
use Rattle.dirac_content.proofs.Raws.{raws_front, raws_more}
use Rattle.dirac_decode.proofs.Leading.{leads_same}

-- these pictures were given and written
pub record IsStreamed (d : Decoding) (held held' taken taken' : Option (List ℕ)) : Type 0 where
  pub given : List Picture
  pub leads : LeadsTo decoder_begun d held held' given
  pub counted : d.given ≡ length given
  pub written : Appends taken taken' (raws given)

-- none was
pub streamed_none : (d : Decoding) (held taken : Option (List ℕ)) → d ≡ decoder_begun → IsStreamed d held held taken taken
streamed_none d held taken same = record {
  given = [];
  leads = leads_same decoder_begun d held same;
  counted = ap (λ x. x.given) same;
  written = Appends-nil taken;
}

front_more : (given : List Picture) (p : Picture) (o : Outcome) → with_front given (with_front (p ∷ []) o) ≡ with_front (given ++ p ∷ []) o
front_more given p o =
    let make : List Picture → Outcome = λ shown. record { shown = shown; most = o.most; end = o.end } in
    ap make (sym (append_assoc given (p ∷ []) o.shown))

-- one more was
pub streamed_more : (d d' : Decoding) (p : Picture) (held held' held'' taken taken' taken'' : Option (List ℕ)) → IsStreamed d held held' taken taken' → Gives (next.Shown p) d d' held' held'' → Appends taken' taken'' (raw p) → IsStreamed d' held held'' taken taken''
streamed_more d d' p held held' held'' taken taken' taken'' so gives written = record {
  given = so.given ++ p ∷ [];
  leads = record {
    comes = λ o comes. subst (λ (x : Outcome). Comes decoder_begun held x) (front_more so.given p o) (so.leads.comes (with_front (p ∷ []) o) (gives.0.comes o comes));
    going = λ e. so.leads.going (gives.0.going e);
    passed = λ e.
        passed_on (prepend_known decoder_begun.units.ahead held) (prepend_known d.units.ahead held') (prepend_known d'.units.ahead held'') decoder_begun d d' so.given (p ∷ []) (so.leads.passed (gives.0.going e)) (gives.0.passed e);
    alone =
        alone_on (prepend_known decoder_begun.units.ahead held) (prepend_known d.units.ahead held') (prepend_known d'.units.ahead held'') decoder_begun d d' so.given (p ∷ []) so.leads.going gives.0.going so.leads.alone gives.0.alone;
  };
  counted = gives.1 ∙ ap (λ n. n + 1) so.counted ∙ sym (length-append so.given (p ∷ []));
  written = subst (λ (t : List ℕ). Appends taken taken'' t) (sym (raws_more so.given p)) (Appends-trans taken taken' taken'' (raws so.given) (raw p) so.written written);
}

-- what comes from the start on is what the stream shows
pub comes_shown : (bytes : List ℕ) (o : Outcome) → Comes decoder_begun (Some bytes) o → IsShown bytes o
comes_shown bytes o comes = subst (λ (x : Outcome). IsShown bytes x) (sym comes.same) comes.remains

-- what comes behind an end or a fault
abbrev pub closed : ℕ → Option Fault → Outcome
closed most end = record { shown = []; most = most; end = end }

closed_comes : (d : Decoding) (held : Option (List ℕ)) (end : Option Fault) → d.due ≡ [] → Remains d.stream_end d.state d.units held (closed d.state.most end) → Comes d held (closed d.state.most end)
closed_comes d held end none remains = record {
  rest = closed d.state.most end;
  same = ap (λ due. with_front due (closed d.state.most end)) (sym none);
  remains = remains;
}

-- what the stream shows, once its end or fault was answered
ends_shown : (bytes : List ℕ) (given : List Picture) (d d' : Decoding) (held' held'' : Option (List ℕ)) (end : Option Fault) → LeadsTo decoder_begun d (Some bytes) held' given → LeadsTo d d' held' held'' [] → d'.due ≡ [] → Remains d'.stream_end d'.state d'.units held'' (closed d'.state.most end) → IsShown bytes (record { shown = given; most = d'.state.most; end = end })
ends_shown bytes given d d' held' held'' end leads last none remains =
    let make : List Picture → Outcome = λ shown. record { shown = shown; most = d'.state.most; end = end } in
    let o : Outcome = closed d'.state.most end in
    subst (λ (x : Outcome). IsShown bytes x) (ap make (append-nil given))
    (comes_shown bytes (with_front given o) (leads.comes o (last.comes o (closed_comes d' held'' end none remains))))

remains_ended : (d : Decoding) (held : Option (List ℕ)) → d.stream_end ≡ stream_end.Ended → Remains d.stream_end d.state d.units held (closed d.state.most None)
remains_ended d held is = subst (λ (m : StreamEnd). Remains m d.state d.units held (closed d.state.most None)) (sym is) refl

pub remains_faulted : (d : Decoding) (held : Option (List ℕ)) (fault : Fault) → d.stream_end ≡ stream_end.Faulted fault → Remains d.stream_end d.state d.units held (closed d.state.most (Some fault))
remains_faulted d held fault is = subst (λ (m : StreamEnd). Remains m d.state d.units held (closed d.state.most (Some fault))) (sym is) refl

tally_is : (d d' : Decoding) (given : List Picture) (end : Option Fault) → d.given ≡ length given → d'.given ≡ d.given → tally d' ≡ tally_of (record { shown = given; most = d'.state.most; end = end })
tally_is d d' given end counted same = ap (λ n. record { pictures = n; references = d'.state.most }) (same ∙ counted)

-- the stream ended lawfully
pub streamed_done : (d d' : Decoding) (held held' held'' taken taken' : Option (List ℕ)) → IsStreamed d held held' taken taken' → Gives next.End d d' held' held'' → IfSome held (λ bytes. IsDecodedStream bytes (decoded.Done (tally d')) taken taken')
streamed_done d d' None held' held'' taken taken' so gives = tt
streamed_done d d' (Some bytes) held' held'' taken taken' so gives = (
  record { shown = so.given; most = d'.state.most; end = None },
  ends_shown bytes so.given d d' held' held'' None so.leads gives.0 gives.2 (remains_ended d' held'' gives.1),
  (refl, tally_is d d' so.given None so.counted gives.3, so.written),
)

-- the stream ended with a fault
pub streamed_fault : (d d' : Decoding) (fault : Fault) (held held' held'' taken taken' : Option (List ℕ)) → IsStreamed d held held' taken taken' → Gives (next.Fault fault) d d' held' held'' → IfSome held (λ bytes. IsDecodedStream bytes (decoded.Fault fault (tally d')) taken taken')
streamed_fault d d' fault None held' held'' taken taken' so gives = tt
streamed_fault d d' fault (Some bytes) held' held'' taken taken' so gives = (
  record { shown = so.given; most = d'.state.most; end = Some fault },
  ends_shown bytes so.given d d' held' held'' (Some fault) so.leads gives.0 gives.2 (remains_faulted d' held'' fault gives.1),
  (refl, tally_is d d' so.given (Some fault) so.counted gives.3, so.written),
)

shows_some : (c : StreamState) (unit_place : UnitPlace) (known : Option (List ℕ)) → EachHasACut → (o : Outcome) × IfSome known (λ bytes. Shows c unit_place bytes o)
shows_some c unit_place None cuts = (closed 0 None, tt)
shows_some c unit_place (Some bytes) cuts =
    let cut : (units : List UnitText) × (end : Option Fault) × IsCut unit_place bytes units end = cuts unit_place bytes in
    (outcome c unit_place cut.0 cut.1, record { units = cut.0; end = cut.1; cut = cut.2; same = refl })

-- something comes from each place of a stream
remains_some : (m : StreamEnd) (c : StreamState) (units : CuttingProgress) (held : Option (List ℕ)) → EachHasACut → (m ≡ stream_end.Stopped → ⊥) → (o : Outcome) × Remains m c units held o
remains_some stream_end.Going c units held cuts moving = shows_some c units.unit_place (prepend_known units.ahead held) cuts
remains_some stream_end.Ended c units held cuts moving = (closed c.most None, refl)
remains_some (stream_end.Faulted fault) c units held cuts moving = (closed c.most (Some fault), refl)
remains_some stream_end.Stopped c units held cuts moving = absurd (moving refl)

comes_some : (d : Decoding) (held : Option (List ℕ)) → EachHasACut → (d.stream_end ≡ stream_end.Stopped → ⊥) → (o : Outcome) × Comes d held o
comes_some d held cuts moving =
    let rest : (o : Outcome) × Remains d.stream_end d.state d.units held o = remains_some d.stream_end d.state d.units held cuts moving in
    (with_front d.due rest.0, record { rest = rest.0; same = refl; remains = rest.1 })

-- a front of all that comes was written, and the stream isn't gone on with
abbrev IsCutOff : List ℕ → Option (List ℕ) → Option (List ℕ) → Type 0
IsCutOff bytes taken taken' = (o : Outcome) × IsShown bytes o × AppendsFront taken taken' (raws o.shown)

pub cut_off : (d : Decoding) (held held' taken taken' : Option (List ℕ)) → EachHasACut → (d.stream_end ≡ stream_end.Stopped → ⊥) → IsStreamed d held held' taken taken' → IfSome held (λ bytes. IsCutOff bytes taken taken')
cut_off d None held' taken taken' cuts moving so = tt
cut_off d (Some bytes) held' taken taken' cuts moving so =
    let later : (o : Outcome) × Comes d held' o = comes_some d held' cuts moving in (
      with_front so.given later.0,
      comes_shown bytes (with_front so.given later.0) (so.leads.comes later.0 later.1),
      (raws so.given, raws later.0.shown, raws_front so.given later.0.shown, so.written),
    )

-- the same in the middle of a picture
pub cut_off_in : (d d' : Decoding) (p : Picture) (held held' held'' taken taken' taken'' : Option (List ℕ)) → EachHasACut → (d.stream_end ≡ stream_end.Stopped → ⊥) → IsStreamed d held held' taken taken' → Gives (next.Shown p) d d' held' held'' → AppendsFront taken' taken'' (raw p) → IfSome held (λ bytes. IsCutOff bytes taken taken'')
cut_off_in d d' p None held' held'' taken taken' taken'' cuts moving so gives front = tt
cut_off_in d d' p (Some bytes) held' held'' taken taken' taken'' cuts moving so gives front =
    let later : (o : Outcome) × Comes d' held'' o = comes_some d' held'' cuts (λ e. moving (gives.2 e)) in
    let o : Outcome = with_front so.given (with_front (p ∷ []) later.0) in
    let text : raws o.shown ≡ (raws so.given ++ front.0) ++ (front.1 ++ raws later.0.shown) =
    raws_front so.given (p ∷ later.0.shown)
    ∙ ap (λ t. raws so.given ++ (t ++ raws later.0.shown)) front.2
    ∙ ap (λ t. raws so.given ++ t) (append_assoc front.0 front.1 (raws later.0.shown))
    ∙ sym (append_assoc (raws so.given) front.0 (front.1 ++ raws later.0.shown)) in (
      o,
      comes_shown bytes o (so.leads.comes (with_front (p ∷ []) later.0) (gives.0.comes later.0 later.1)),
      (raws so.given ++ front.0, front.1 ++ raws later.0.shown, text, Appends-trans taken taken' taken'' (raws so.given) front.0 so.written front.3),
    )

-- a read failed: just what leaves while the units that were read whole are taken was written
broken_in : (bytes : List ℕ) (d : Decoding) (given : List Picture) (known held' taken taken' : Option (List ℕ)) → Passed decoder_begun d bytes known given → IfSome known (λ rest. BreaksIn d rest held') → Appends taken taken' (raws given) → IsBrokenOff bytes held' taken taken'
broken_in bytes d given known held' taken taken' p breaks written =
    let b : BreaksIn d p.rest held' = subst (λ (k : Option (List ℕ)). IfSome k (λ rest. BreaksIn d rest held')) p.holds breaks in
    let all : leaving stream_begun (p.units ++ b.units) ≡ given =
    p.leaves b.units ∙ ap (λ l. given ++ l) b.none_due ∙ append-nil given in
    record {
      read = p.read ++ b.read;
      rest = b.rest;
      parts = p.parts ∙ ap (λ l. p.read ++ l) b.parts ∙ sym (append_assoc p.read b.read b.rest);
      holds = b.holds;
      units = p.units ++ b.units;
      end = b.end;
      cut = p.cut b.read b.units b.end b.cut;
      bytes_end = b.bytes_end;
      accepts = p.accepts b.units ∙ ap (λ l. p.units ++ l) b.accepts;
      delivered = subst (λ (ps : List Picture). Appends taken taken' (raws ps)) (sym all) written;
    }

pub broken_off : (d : Decoding) (held held' held'' taken taken' : Option (List ℕ)) → IsStreamed d held held' taken taken' → BreaksOff d held' held'' → IfSome held (λ bytes. IsBrokenOff bytes held'' taken taken')
broken_off d None held' held'' taken taken' so breaks = tt
broken_off d (Some bytes) held' held'' taken taken' so breaks =
    broken_in bytes d so.given (prepend_known d.units.ahead held') held'' taken taken' (so.leads.passed breaks.going) breaks.told so.written

-- ---- what was written is a front of what the bytes read show by themselves

remains_in_some : (m : StreamEnd) (c : StreamState) (unit_place : UnitPlace) (bytes : List ℕ) → EachHasACut → (m ≡ stream_end.Stopped → ⊥) → (o : Outcome) × RemainsIn m c unit_place bytes o
remains_in_some stream_end.Going c unit_place bytes cuts moving =
    let cut : (units : List UnitText) × (end : Option Fault) × IsCut unit_place bytes units end = cuts unit_place bytes in
    (outcome c unit_place cut.0 cut.1, record { units = cut.0; end = cut.1; cut = cut.2; same = refl })
remains_in_some stream_end.Ended c unit_place bytes cuts moving = (closed c.most None, refl)
remains_in_some (stream_end.Faulted fault) c unit_place bytes cuts moving = (closed c.most (Some fault), refl)
remains_in_some stream_end.Stopped c unit_place bytes cuts moving = absurd (moving refl)

pub comes_in_some : (d : Decoding) (bytes : List ℕ) → EachHasACut → (d.stream_end ≡ stream_end.Stopped → ⊥) → (o : Outcome) × ComesIn d bytes o
comes_in_some d bytes cuts moving =
    let later : (o : Outcome) × RemainsIn d.stream_end d.state d.units.unit_place bytes o = remains_in_some d.stream_end d.state d.units.unit_place bytes cuts moving in
    (with_front d.due later.0, record { rest = later.0; same = refl; remains = later.1 })

pub left_behind : (bytes part : List ℕ) (held' : Option (List ℕ)) → Consumes (Some bytes) held' part → (rest : List ℕ) × (held' ≡ Some rest) × (bytes ≡ part ++ rest)
left_behind bytes part None is = absurd is
left_behind bytes part (Some rest) is = (rest, refl, is)

shown_of_read : (bytes : List ℕ) (d : Decoding) (given : List Picture) (known held' taken taken' : Option (List ℕ)) (part : List ℕ) → EachHasACut → (d.stream_end ≡ stream_end.Stopped → ⊥) → BringsAlone decoder_begun d bytes known given → Consumes known held' part
    → ((d.stream_end ≡ stream_end.Going → ⊥) → part ≡ []) → ((more : List Picture) → AppendsFront taken taken' (raws (given ++ more))) → IsFrontOfRead bytes held' taken taken'
shown_of_read bytes d given known held' taken taken' part cuts moving p takes still front =
    let later : (o : Outcome) × ComesIn d part o = comes_in_some d part cuts moving in
    let comes : ComesIn decoder_begun (p.read ++ part) (with_front given later.0) = p.alone part still later.0 later.1 in
    let left = left_behind p.rest part held' (subst (λ (k : Option (List ℕ)). Consumes k held' part) p.holds takes) in
    record {
      read = p.read ++ part;
      rest = left.0;
      parts = p.parts ∙ ap (λ (l : List ℕ). p.read ++ l) left.2 ∙ sym (append_assoc p.read part left.0);
      holds = left.1;
      shows = with_front given later.0;
      shown = subst (λ (x : Outcome). IsShown (p.read ++ part) x) (sym comes.same) comes.remains;
      delivered = front later.0.shown;
    }

of_read : (d : Decoding) (given : List Picture) (held known held' taken taken' : Option (List ℕ)) (part : List ℕ) → EachHasACut → (d.stream_end ≡ stream_end.Stopped → ⊥) → IfSome (prepend_known decoder_begun.units.ahead held) (λ bytes. BringsAlone decoder_begun d bytes known given) → Consumes known held' part
    → ((d.stream_end ≡ stream_end.Going → ⊥) → part ≡ []) → ((more : List Picture) → AppendsFront taken taken' (raws (given ++ more))) → IfSome held (λ bytes. IsFrontOfRead bytes held' taken taken')
of_read d given None known held' taken taken' part cuts moving alone takes still front = tt
of_read d given (Some bytes) known held' taken taken' part cuts moving alone takes still front =
    shown_of_read bytes d given known held' taken taken' part cuts moving alone takes still front

-- nothing more was taken
none_taken : (ahead : List ℕ) (held : Option (List ℕ)) → ahead ≡ [] → Consumes (prepend_known ahead held) held []
none_taken ahead None none = tt
none_taken ahead (Some bytes) none = ap (λ (l : List ℕ). l ++ bytes) none

pub written_front : (given : List Picture) (taken taken' : Option (List ℕ)) → Appends taken taken' (raws given) → (more : List Picture) → AppendsFront taken taken' (raws (given ++ more))
written_front given taken taken' written more = (raws given, raws more, raws_front given more, written)

-- while a picture was written
pub written_in : (given : List Picture) (p : Picture) (taken taken' taken'' : Option (List ℕ)) → Appends taken taken' (raws given) → AppendsFront taken' taken'' (raw p) → (more : List Picture) → AppendsFront taken taken'' (raws ((given ++ p ∷ []) ++ more))
written_in given p taken taken' taken'' written front more =
    let text : raws ((given ++ p ∷ []) ++ more) ≡ (raws given ++ front.0) ++ (front.1 ++ raws more) =
    raws_front (given ++ p ∷ []) more
    ∙ ap (λ t. t ++ raws more) (raws_more given p ∙ ap (λ t. raws given ++ t) front.2 ∙ sym (append_assoc (raws given) front.0 front.1))
    ∙ append_assoc (raws given ++ front.0) front.1 (raws more) in
    (raws given ++ front.0, front.1 ++ raws more, text, Appends-trans taken taken' taken'' (raws given) front.0 written front.3)

pub read_in : (d d' : Decoding) (p : Picture) (held held' held'' taken taken' taken'' : Option (List ℕ)) → EachHasACut → (d.stream_end ≡ stream_end.Stopped → ⊥) → d'.units.ahead ≡ [] → IsStreamed d held held' taken taken' → Gives (next.Shown p) d d' held' held'' → AppendsFront taken' taken'' (raw p)
    → IfSome held (λ bytes. IsFrontOfRead bytes held'' taken taken'')
read_in d d' p held held' held'' taken taken' taken'' cuts moving none so gives front =
    of_read d' (so.given ++ p ∷ []) held (prepend_known d'.units.ahead held'') held'' taken taken'' [] cuts (λ e. moving (gives.2 e))
    (alone_on (prepend_known decoder_begun.units.ahead held) (prepend_known d.units.ahead held') (prepend_known d'.units.ahead held'') decoder_begun d d' so.given (p ∷ []) so.leads.going gives.0.going so.leads.alone gives.0.alone)
    (none_taken d'.units.ahead held'' none) (λ ne. refl) (written_in so.given p taken taken' taken'' so.written front)

-- at the end or a fault
pub read_out : (d d' : Decoding) (held held' held'' taken taken' : Option (List ℕ)) → EachHasACut → (d'.stream_end ≡ stream_end.Stopped → ⊥) → d'.units.ahead ≡ [] → IsStreamed d held held' taken taken' → LeadsTo d d' held' held'' []
    → IfSome held (λ bytes. IsFrontOfRead bytes held'' taken taken')
read_out d d' held held' held'' taken taken' cuts moving none so last =
    of_read d' (so.given ++ []) held (prepend_known d'.units.ahead held'') held'' taken taken' [] cuts moving
    (alone_on (prepend_known decoder_begun.units.ahead held) (prepend_known d.units.ahead held') (prepend_known d'.units.ahead held'') decoder_begun d d' so.given [] so.leads.going last.going so.leads.alone last.alone)
    (none_taken d'.units.ahead held'' none) (λ ne. refl) (written_front (so.given ++ []) taken taken' (subst (λ (ps : List Picture). Appends taken taken' (raws ps)) (sym (append-nil so.given)) so.written))

pub not_stopped_by_end : (m : StreamEnd) → m ≡ stream_end.Ended → m ≡ stream_end.Stopped → ⊥
not_stopped_by_end m is e = let both : stream_end.Ended ≡ stream_end.Stopped = sym is ∙ e in cc

pub not_stopped_by_fault : (m : StreamEnd) (fault : Fault) → m ≡ stream_end.Faulted fault → m ≡ stream_end.Stopped → ⊥
not_stopped_by_fault m fault is e = let both : stream_end.Faulted fault ≡ stream_end.Stopped = sym is ∙ e in cc

-- where a read failed or memory was wanting
pub read_some : (d : Decoding) (held held' held'' taken taken' : Option (List ℕ)) → EachHasACut → (d.stream_end ≡ stream_end.Stopped → ⊥) → IsStreamed d held held' taken taken' → StopsIn d held' held''
    → IfSome held (λ bytes. IsFrontOfRead bytes held'' taken taken')
read_some d held held' held'' taken taken' cuts moving so stops =
    of_read d so.given held (prepend_known d.units.ahead held') held'' taken taken' stops.1.0 cuts moving so.leads.alone stops.1.1 (λ ne. absurd (ne stops.0)) (written_front so.given taken taken' so.written)

break_taken : (d : Decoding) (known held' : Option (List ℕ)) → IfSome known (λ bytes. BreaksIn d bytes held') → (part : List ℕ) × Consumes known held' part
break_taken d None held' breaks = ([], tt)
break_taken d (Some bytes) held' breaks =
    (breaks.read, subst (λ (k : Option (List ℕ)). Consumes (Some bytes) k breaks.read) (sym breaks.holds) breaks.parts)

pub stops_at_break : (d : Decoding) (held held' : Option (List ℕ)) → BreaksOff d held held' → StopsIn d held held'
stops_at_break d held held' breaks = (breaks.going, break_taken d (prepend_known d.units.ahead held) held' breaks.told)

-- ---- how often reads and writes failed meanwhile

pub counted_to_end : (t : Tally) (r r' w w' : ℕ) → r ≤ r' → w ≤ w' → CountsFaults (decoded.Done t) r r' w w'
counted_to_end t r r' w w' reads writes = record {
  read = λ (e : decoded.Done t ≡ decoded.ReadFault). cc;
  write = λ (e : decoded.Done t ≡ decoded.WriteFault). cc;
  reads_never_fall = reads;
  writes_never_fall = writes;
}

pub counted_to_fault : (fault : Fault) (t : Tally) (r r' w w' : ℕ) → r ≤ r' → w ≤ w' → CountsFaults (decoded.Fault fault t) r r' w w'
counted_to_fault fault t r r' w w' reads writes = record {
  read = λ (e : decoded.Fault fault t ≡ decoded.ReadFault). cc;
  write = λ (e : decoded.Fault fault t ≡ decoded.WriteFault). cc;
  reads_never_fall = reads;
  writes_never_fall = writes;
}

pub counted_to_read_fault : (r r' w w' : ℕ) → Rose r r' → r ≤ r' → w ≤ w' → CountsFaults decoded.ReadFault r r' w w'
counted_to_read_fault r r' w w' rose reads writes = record {
  read = λ is. rose;
  write = λ (e : decoded.ReadFault ≡ decoded.WriteFault). cc;
  reads_never_fall = reads;
  writes_never_fall = writes;
}

pub counted_to_want : (r r' w w' : ℕ) → r ≤ r' → w ≤ w' → CountsFaults decoded.NoMemory r r' w w'
counted_to_want r r' w w' reads writes = record {
  read = λ (e : decoded.NoMemory ≡ decoded.ReadFault). cc;
  write = λ (e : decoded.NoMemory ≡ decoded.WriteFault). cc;
  reads_never_fall = reads;
  writes_never_fall = writes;
}

pub counted_to_write_fault : (r r' w w' : ℕ) → Rose w w' → r ≤ r' → w ≤ w' → CountsFaults decoded.WriteFault r r' w w'
counted_to_write_fault r r' w w' rose reads writes = record {
  read = λ (e : decoded.WriteFault ≡ decoded.ReadFault). cc;
  write = λ is. rose;
  reads_never_fall = reads;
  writes_never_fall = writes;
}
