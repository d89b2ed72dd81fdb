-- What was written is a front of what the bytes read show by themselves, also with some of the bytes behind them.
use Rattle.std.proofs.Common.{◌≡◌, ◌∙◌, ℕ, List, [], ◌∷◌, ◌++◌, Option, None, Some, refl, sym, ap, subst, append_assoc, append-nil}
use Rattle.std.specs.Prelude.{IfSome}
use Rattle.std.specs.Io.KnownBytes.{Consumes, IsAtEnd, prepend_known}
use Rattle.std.proofs.KnownBytes.{prepend_known-nil}
use Rattle.dirac_common.specs.declared.faults.Fault.{Fault}
use Rattle.dirac_common.specs.declared.picture.Picture.{Picture}
use Rattle.dirac_io.specs.Writing.{AppendsFront}
use Rattle.dirac_units.specs.declared.unit.StreamEnd.{StreamEnd}
use Rattle.dirac_units.specs.declared.unit.StreamEnd.TheVariants as stream_end
use Rattle.dirac_units.specs.Cut.{EachHasACut}
use Rattle.dirac_decode.specs.declared.answers.Next.TheVariants as next
use Rattle.dirac_content.specs.Raw.{raw, raws}
use Rattle.dirac_content.specs.Shown.{IsShown, Outcome, with_front}
use Rattle.dirac_decode.specs.Decoded.{IsFrontOfMore}
use Rattle.dirac_decode.specs.Decoding.{BringsAlone, Comes, ComesBehind, ComesIn, Decoding, Gives, LeadsTo, RemainsIn, StopsIn, decoder_begun}
use Rattle.dirac_decode.proofs.Alone.{alone_on}
use Rattle.dirac_decode.proofs.Between.{shown_between}
use Rattle.dirac_decode.proofs.Streaming.{IsStreamed, closed, comes_in_some, comes_shown, left_behind, remains_faulted, written_front, written_in}

-- what comes behind pictures comes behind those before them
comes_on : (a b c : Decoding) (held held' held'' : Option (List ℕ)) (given more : List Picture) → ComesBehind a b held held' given → ComesBehind b c held' held'' more → ComesBehind a c held held'' (given ++ more)
comes_on a b c held held' held'' given more first second = λ o comes.
    let make : List Picture → Outcome = λ shown. record { shown = shown; most = o.most; end = o.end } in
    subst (λ (x : Outcome). Comes a held x) (ap make (sym (append_assoc given more o.shown))) (first (with_front more o) (second o comes))

-- an outcome of just those read, from the start on
shown_in : (bytes : List ℕ) (o : Outcome) → ComesIn decoder_begun bytes o → IsShown bytes o
shown_in bytes o comes = subst (λ (x : Outcome). IsShown bytes x) (sym comes.same) comes.remains

none_first : (more behind : List ℕ) → more ++ behind ≡ [] → more ≡ []
none_first [] behind is = refl
none_first (x ∷ more) behind is = absurd cc

at_end_none : (held : Option (List ℕ)) (rest : List ℕ) → held ≡ Some rest → IsAtEnd held → rest ≡ []
at_end_none None rest is end = absurd cc
at_end_none (Some bytes) rest is end = let same : bytes ≡ rest = cc in sym same ∙ end

-- some more of the bytes left are read
abbrev Front : (bytes : List ℕ) (taken taken' : Option (List ℕ)) → Type 0
Front bytes taken taken' = (o : Outcome) × IsShown bytes o × AppendsFront taken taken' (raws o.shown)

more_going : (bytes more : List ℕ) (d : Decoding) (given : List Picture) (known taken taken' : Option (List ℕ)) → EachHasACut → (d.stream_end ≡ stream_end.Stopped → ⊥) → d.stream_end ≡ stream_end.Going → (p : BringsAlone decoder_begun d bytes known given)
    → ((more : List Picture) → AppendsFront taken taken' (raws (given ++ more))) → Front (p.read ++ more) taken taken'
more_going bytes more d given known taken taken' cuts moving going p front =
    let later : (o : Outcome) × ComesIn d more o = comes_in_some d more cuts moving in (
      with_front given later.0,
      shown_in (p.read ++ more) (with_front given later.0) (p.alone more (λ ne. absurd (ne going)) later.0 later.1),
      front later.0.shown,
    )

more_none : (bytes more : List ℕ) (d : Decoding) (given : List Picture) (known taken taken' : Option (List ℕ)) → EachHasACut → (d.stream_end ≡ stream_end.Stopped → ⊥) → more ≡ [] → (p : BringsAlone decoder_begun d bytes known given)
    → ((more : List Picture) → AppendsFront taken taken' (raws (given ++ more))) → Front (p.read ++ more) taken taken'
more_none bytes more d given known taken taken' cuts moving none p front =
    let later : (o : Outcome) × ComesIn d more o = comes_in_some d more cuts moving in (
      with_front given later.0,
      shown_in (p.read ++ more) (with_front given later.0) (p.alone more (λ ne. none) later.0 later.1),
      front later.0.shown,
    )

-- a fault was met: all bytes and just those read show the same pictures
more_faulted : (bytes more behind : List ℕ) (d : Decoding) (fault : Fault) (given : List Picture) (known held' taken taken' : Option (List ℕ)) → EachHasACut → d.stream_end ≡ stream_end.Faulted fault → (p : BringsAlone decoder_begun d bytes known given) → p.rest ≡ more ++ behind
    → ComesBehind decoder_begun d (Some bytes) held' given → ((more : List Picture) → AppendsFront taken taken' (raws (given ++ more))) → Front (p.read ++ more) taken taken'
more_faulted bytes more behind d fault given known held' taken taken' cuts is p left comes front =
    let last : Outcome = closed d.state.most (Some fault) in
    let o : Outcome = with_front d.due last in
    let here : RemainsIn d.stream_end d.state d.units.unit_place [] last =
    subst (λ (m : StreamEnd). RemainsIn m d.state d.units.unit_place [] last) (sym is) refl in
    let read : IsShown (p.read ++ []) (with_front given o) =
    shown_in (p.read ++ []) (with_front given o) (p.alone [] (λ ne. refl) o (record { rest = last; same = refl; remains = here })) in
    let all : IsShown bytes (with_front given o) =
    comes_shown bytes (with_front given o) (comes o (record { rest = last; same = refl; remains = remains_faulted d held' fault is })) in
    let between = shown_between p.read more behind (with_front given o) (with_front given o) cuts
    (subst (λ (l : List ℕ). IsShown l (with_front given o)) (append-nil p.read) read)
    (subst (λ (l : List ℕ). IsShown l (with_front given o)) (p.parts ∙ ap (λ (l : List ℕ). p.read ++ l) left) all) refl in
    (between.0, between.1, subst (λ (ps : List Picture). AppendsFront taken taken' (raws ps)) (sym between.2) (front o.shown))

more_by : (m : StreamEnd) (bytes more behind : List ℕ) (d : Decoding) (given : List Picture) (held' taken taken' : Option (List ℕ)) → EachHasACut → d.stream_end ≡ m → (d.stream_end ≡ stream_end.Stopped → ⊥) → (d.stream_end ≡ stream_end.Ended → IsAtEnd held') → (p : BringsAlone decoder_begun d bytes held' given) → p.rest ≡ more ++ behind
    → ComesBehind decoder_begun d (Some bytes) held' given → ((more : List Picture) → AppendsFront taken taken' (raws (given ++ more))) → Front (p.read ++ more) taken taken'
more_by stream_end.Going bytes more behind d given held' taken taken' cuts is moving whole p left comes front =
    more_going bytes more d given held' taken taken' cuts moving is p front
more_by stream_end.Ended bytes more behind d given held' taken taken' cuts is moving whole p left comes front =
    more_none bytes more d given held' taken taken' cuts moving (none_first more behind (sym left ∙ at_end_none held' p.rest p.holds (whole is))) p front
more_by (stream_end.Faulted fault) bytes more behind d given held' taken taken' cuts is moving whole p left comes front =
    more_faulted bytes more behind d fault given held' held' taken taken' cuts is p left comes front
more_by stream_end.Stopped bytes more behind d given held' taken taken' cuts is moving whole p left comes front = absurd (moving is)

known_is : (ahead : List ℕ) (held : Option (List ℕ)) → ahead ≡ [] → prepend_known ahead held ≡ held
known_is ahead held none = ap (λ (l : List ℕ). prepend_known l held) none ∙ prepend_known-nil held

of_more : (d : Decoding) (given : List Picture) (held held' taken taken' : Option (List ℕ)) → EachHasACut → (d.stream_end ≡ stream_end.Stopped → ⊥) → (d.stream_end ≡ stream_end.Ended → IsAtEnd held') → IfSome (prepend_known decoder_begun.units.ahead held) (λ bytes. BringsAlone decoder_begun d bytes held' given)
    → ComesBehind decoder_begun d held held' given → ((more : List Picture) → AppendsFront taken taken' (raws (given ++ more))) → IfSome held (λ bytes. IsFrontOfMore bytes held' taken taken')
of_more d given None held' taken taken' cuts moving whole alone comes front = tt
of_more d given (Some bytes) held' taken taken' cuts moving whole p comes front = record {
  read = p.read;
  rest = p.rest;
  parts = p.parts;
  holds = p.holds;
  shows = λ more behind left. more_by d.stream_end bytes more behind d given held' taken taken' cuts refl moving whole p left comes front;
}

-- where pictures were given, whatever was met then
pub more_at : (d d' : Decoding) (given : List Picture) (held held' held'' taken taken' taken'' : Option (List ℕ)) → EachHasACut → (d'.stream_end ≡ stream_end.Stopped → ⊥) → d'.units.ahead ≡ [] → (d'.stream_end ≡ stream_end.Ended → IsAtEnd held'') → (so : IsStreamed d held held' taken taken') → LeadsTo d d' held' held'' given
    → ((more : List Picture) → AppendsFront taken taken'' (raws ((so.given ++ given) ++ more))) → IfSome held (λ bytes. IsFrontOfMore bytes held'' taken taken'')
more_at d d' given held held' held'' taken taken' taken'' cuts moving none whole so last front =
    let alone = alone_on (prepend_known decoder_begun.units.ahead held) (prepend_known d.units.ahead held') (prepend_known d'.units.ahead held'') decoder_begun d d' so.given given so.leads.going last.going so.leads.alone last.alone in
    of_more d' (so.given ++ given) held held'' taken taken'' cuts moving whole
    (subst (λ (k : Option (List ℕ)). IfSome (prepend_known decoder_begun.units.ahead held) (λ bytes. BringsAlone decoder_begun d' bytes k (so.given ++ given))) (known_is d'.units.ahead held'' none) alone)
    (comes_on decoder_begun d d' held held' held'' so.given given so.leads.comes last.comes) front

-- while a picture was written
pub more_in : (d d' : Decoding) (p : Picture) (held held' held'' taken taken' taken'' : Option (List ℕ)) → EachHasACut → (d.stream_end ≡ stream_end.Stopped → ⊥) → d'.units.ahead ≡ [] → (d'.stream_end ≡ stream_end.Ended → IsAtEnd held'') → IsStreamed d held held' taken taken' → Gives (next.Shown p) d d' held' held'' → AppendsFront taken' taken'' (raw p)
    → IfSome held (λ bytes. IsFrontOfMore bytes held'' taken taken'')
more_in d d' p held held' held'' taken taken' taken'' cuts moving none whole so gives front =
    more_at d d' (p ∷ []) held held' held'' taken taken' taken'' cuts (λ e. moving (gives.2 e)) none whole so gives.0
    (written_in so.given p taken taken' taken'' so.written front)

-- at the end or a fault
pub more_out : (d d' : Decoding) (held held' held'' taken taken' : Option (List ℕ)) → EachHasACut → (d'.stream_end ≡ stream_end.Stopped → ⊥) → d'.units.ahead ≡ [] → (d'.stream_end ≡ stream_end.Ended → IsAtEnd held'') → IsStreamed d held held' taken taken' → LeadsTo d d' held' held'' []
    → IfSome held (λ bytes. IsFrontOfMore bytes held'' taken taken')
more_out d d' held held' held'' taken taken' cuts moving none whole so last =
    more_at d d' [] held held' held'' taken taken' taken' cuts moving none whole so last
    (λ more. subst (λ (ps : List Picture). AppendsFront taken taken' (raws (ps ++ more))) (sym (append-nil so.given)) (written_front so.given taken taken' so.written more))

-- where a read failed or memory was wanting, some bytes more were taken
some_in : (bytes part : List ℕ) (d : Decoding) (given : List Picture) (known held' taken taken' : Option (List ℕ)) → EachHasACut → (d.stream_end ≡ stream_end.Stopped → ⊥) → d.stream_end ≡ stream_end.Going → (p : BringsAlone decoder_begun d bytes known given) → Consumes known held' part
    → ((more : List Picture) → AppendsFront taken taken' (raws (given ++ more))) → IsFrontOfMore bytes held' taken taken'
some_in bytes part d given known held' taken taken' cuts moving going p takes front =
    let left = left_behind p.rest part held' (subst (λ (k : Option (List ℕ)). Consumes k held' part) p.holds takes) in
    record {
      read = p.read ++ part;
      rest = left.0;
      parts = p.parts ∙ ap (λ (l : List ℕ). p.read ++ l) left.2 ∙ sym (append_assoc p.read part left.0);
      holds = left.1;
      shows = λ more behind is.
          subst (λ (l : List ℕ). Front l taken taken') (sym (append_assoc p.read part more))
          (more_going bytes (part ++ more) d given known taken taken' cuts moving going p front);
    }

some_known : (d : Decoding) (given : List Picture) (held known held' taken taken' : Option (List ℕ)) (part : List ℕ) → EachHasACut → (d.stream_end ≡ stream_end.Stopped → ⊥) → d.stream_end ≡ stream_end.Going → IfSome (prepend_known decoder_begun.units.ahead held) (λ bytes. BringsAlone decoder_begun d bytes known given) → Consumes known held' part
    → ((more : List Picture) → AppendsFront taken taken' (raws (given ++ more))) → IfSome held (λ bytes. IsFrontOfMore bytes held' taken taken')
some_known d given None known held' taken taken' part cuts moving going alone takes front = tt
some_known d given (Some bytes) known held' taken taken' part cuts moving going alone takes front =
    some_in bytes part d given known held' taken taken' cuts moving going alone takes front

pub more_some : (d : Decoding) (held held' held'' taken taken' : Option (List ℕ)) → EachHasACut → (d.stream_end ≡ stream_end.Stopped → ⊥) → IsStreamed d held held' taken taken' → StopsIn d held' held''
    → IfSome held (λ bytes. IsFrontOfMore bytes held'' taken taken')
more_some d held held' held'' taken taken' cuts moving so stops =
    some_known d so.given held (prepend_known d.units.ahead held') held'' taken taken' stops.1.0 cuts moving stops.0 so.leads.alone stops.1.1 (written_front so.given taken taken' so.written)
