-- What calls take of the bytes there, one behind another.
use Rattle.std.proofs.Common.{◌≡◌, ◌∙◌, ℕ, List, [], ◌∷◌, ◌++◌, drop, Option, None, Some, Ok, Err, refl, sym, ap, ap₂, subst, inl, inr, ◌⊎◌, append_assoc}
use Rattle.std.proofs.lemmas.List.{append-nil}
use Rattle.std.specs.Prelude.{IfSome}
use Rattle.std.specs.Io.KnownBytes.{prepend_known}
use Rattle.dirac_common.specs.declared.picture.Picture.{Picture}
use Rattle.dirac_sequence_header.specs.declared.sequence.Sequence.{Sequence}
use Rattle.dirac_units.specs.declared.unit.StreamEnd.{StreamEnd}
use Rattle.dirac_units.specs.declared.unit.StreamEnd.TheVariants as stream_end
use Rattle.dirac_units.specs.declared.unit_place.UnitPlace.{UnitPlace}
use Rattle.dirac_units.specs.Cut.{UnitText, after, front_of}
use Rattle.dirac_units.specs.Info.{span_of}
use Rattle.dirac_decode.specs.declared.answers.Next.{Next}
use Rattle.dirac_content.specs.declared.opened.Opened.{Opened}
use Rattle.dirac_content.specs.Leaving.{leaving, leaving_on}
use Rattle.dirac_decode.specs.Decoding.{Decoding}
use Rattle.dirac_decode.specs.Stepping.{DueGives, FaultsAt, TakesAs, TakesOne, StepTakesUnit, given_by, opened_sequence}
use Rattle.dirac_content.specs.StreamState.{StreamState, StreamStep, unit_step}
use Rattle.dirac_push.specs.Pushing.{AreTaken, IsFormat, MeetsBehind, Pushed, TakesSilently, TakesUnits, kept_bytes, latest, opened_last, opened_on}

-- ---- units behind units

taken_on : (p q r : UnitPlace) (s t v : StreamState) (bytes behind rest : List ℕ) (us ws : List UnitText) → AreTaken p s bytes us q t behind → AreTaken q t behind ws r v rest → AreTaken p s bytes (us ++ ws) r v rest
taken_on p q r s t v bytes behind rest [] ws first second =
    subst (λ (x : UnitPlace). AreTaken x s bytes ws r v rest) (sym first.0)
    (subst (λ (x : StreamState). AreTaken q x bytes ws r v rest) (sym first.1)
    (subst (λ (x : List ℕ). AreTaken q t x ws r v rest) (sym first.2) second))
taken_on p q r s t v bytes behind rest (u ∷ us) ws first second =
    (first.0, first.1, first.2, taken_on (after p u.info) q r first.0.state t v (drop (span_of u.info) bytes) behind rest us ws first.3 second)

last_by : (before : Option Sequence) (state : StreamState) (unit : UnitText) (units : List UnitText) (m : StreamStep) → unit_step state unit.info.code unit.payload ≡ Ok m → opened_last before state (unit ∷ units) ≡ opened_last (latest (opened_sequence m.state.opened) before) m.state units
unfolding opened_last
last_by before state unit units m is =
    ap (opened_on (λ next. opened_last (latest (opened_sequence next.opened) before) next units) before) is

last_none : (before : Option Sequence) (state : StreamState) → opened_last before state [] ≡ before
unfolding opened_last
last_none before state = refl

last_on : (p q : UnitPlace) (s t : StreamState) (bytes behind : List ℕ) (us ws : List UnitText) (before : Option Sequence) → AreTaken p s bytes us q t behind → opened_last before s (us ++ ws) ≡ opened_last (opened_last before s us) t ws
last_on p q s t bytes behind [] ws before first =
    ap (λ x. opened_last before x ws) first.1 ∙ ap (λ f. opened_last f t ws) (sym (last_none before s))
last_on p q s t bytes behind (u ∷ us) ws before first =
    last_by before s u (us ++ ws) first.0 first.2
    ∙ last_on (after p u.info) q first.0.state t (drop (span_of u.info) bytes) behind us ws (latest (opened_sequence first.0.state.opened) before) first.3
    ∙ ap (λ f. opened_last f t ws) (sym (last_by before s u us first.0 first.2))

-- ---- pictures that leave with units

none_leave : (state : StreamState) → leaving state [] ≡ []
unfolding leaving
none_leave state = refl

leave_by : (state : StreamState) (unit : UnitText) (units : List UnitText) (m : StreamStep) → unit_step state unit.info.code unit.payload ≡ Ok m → leaving state (unit ∷ units) ≡ m.gone ++ leaving m.state units
unfolding leaving
leave_by state unit units m is = ap (leaving_on (λ next. leaving next units)) is

leave_on : (p q : UnitPlace) (s t : StreamState) (bytes behind : List ℕ) (us ws : List UnitText) → AreTaken p s bytes us q t behind → leaving s (us ++ ws) ≡ leaving s us ++ leaving t ws
leave_on p q s t bytes behind [] ws first =
    ap (λ x. leaving x ws) first.1 ∙ ap (λ (xs : List Picture). xs ++ leaving t ws) (sym (none_leave s))
leave_on p q s t bytes behind (u ∷ us) ws first =
    leave_by s u (us ++ ws) first.0 first.2
    ∙ ap (λ (xs : List Picture). first.0.gone ++ xs) (leave_on (after p u.info) q first.0.state t (drop (span_of u.info) bytes) behind us ws first.3)
    ∙ sym (append_assoc first.0.gone (leaving first.0.state us) (leaving t ws))
    ∙ ap (λ (xs : List Picture). xs ++ leaving t ws) (sym (leave_by s u us first.0 first.2))

-- with no unit nothing more is due
due_still : (due due' : List Picture) (state : StreamState) → due' ≡ due → due ++ leaving state [] ≡ due'
due_still due due' state same = ap (λ (xs : List Picture). due ++ xs) (none_leave state) ∙ append-nil due ∙ sym same

-- the last of no unit, of one, and of two lists of them
no_last : (front : List UnitText) (last : UnitText) → [] ≡ front ++ last ∷ [] → ⊥
no_last [] last is = cc
no_last (x ∷ front) last is = cc

only_last : (u : UnitText) (front : List UnitText) (last : UnitText) → u ∷ [] ≡ front ++ last ∷ [] → front ≡ []
only_last u [] last is = refl
only_last u (x ∷ []) last is = absurd cc
only_last u (x ∷ y ∷ front) last is = absurd cc

last_of : (us ws front : List UnitText) (last : UnitText) → us ++ ws ≡ front ++ last ∷ [] → (us ≡ front ++ last ∷ []) ⊎ ((behind : List UnitText) × (ws ≡ behind ++ last ∷ []) × (front ≡ us ++ behind))
last_of [] ws front last is = inr (front, is, refl)
last_of (u ∷ []) [] [] last is = inl is
last_of (u ∷ []) (w ∷ ws) [] last is = absurd cc
last_of (u ∷ v ∷ us) ws [] last is = absurd cc
last_of (u ∷ us) ws (x ∷ front) last is =
    let head : u ≡ x = cc in
    let tail : us ++ ws ≡ front ++ last ∷ [] = cc in
    elim (last_of us ws front last tail) [
      | inl e ↦ inl (ap₂ (λ (y : UnitText) (ys : List UnitText). y ∷ ys) head e)
      | inr e ↦ inr (e.0, e.1, ap₂ (λ (y : UnitText) (ys : List UnitText). y ∷ ys) (sym head) e.2)
    ]

-- ---- a call that takes no unit

meets_going : (m : StreamEnd) (new : Pushed) (p : UnitPlace) (s : StreamState) (bytes : List ℕ) → m ≡ stream_end.Going → p ≡ new.decoder.units.unit_place → s ≡ new.decoder.state → bytes ≡ new.there → MeetsBehind m new p s bytes
meets_going m new p s bytes going place state there =
    subst (λ (x : StreamEnd). MeetsBehind x new p s bytes) (sym going) (place, state, there)

abbrev none_taken : (old new : Pushed) → new.decoder.units ≡ old.decoder.units → new.decoder.state ≡ old.decoder.state → new.decoder.stream_end ≡ old.decoder.stream_end → new.there ≡ old.there → new.format ≡ old.format → TakesUnits old new
none_taken old new units state met there format = record {
  units = [];
  unit_place = old.decoder.units.unit_place;
  state = old.decoder.state;
  rest = old.there;
  taken = (refl, refl, refl);
  format = format ∙ sym (last_none old.format old.decoder.state);
  met = λ going.
      meets_going new.decoder.stream_end new old.decoder.units.unit_place old.decoder.state old.there (met ∙ going) (ap (λ u. u.unit_place) (sym units)) (sym state) (sym there);
  still = λ ne. (refl, met);
  up_to = λ front last is. absurd (no_last front last is);
  none_left = λ going ne. absurd (ne (met ∙ going));
}

pub silent_same : (old new : Pushed) → new.decoder.units ≡ old.decoder.units → new.decoder.state ≡ old.decoder.state → new.decoder.stream_end ≡ old.decoder.stream_end → new.there ≡ old.there → new.format ≡ old.format → new.decoder.due ≡ old.decoder.due → TakesSilently old new
silent_same old new units state met there format due = record {
  takes = none_taken old new units state met there format;
  due = λ going. due_still old.decoder.due new.decoder.due old.decoder.state due;
}

-- a due picture left, or none is due
pub takes_due : (due : Option Picture) (old new : Pushed) → DueGives due old.decoder new.decoder → new.there ≡ old.there → new.format ≡ old.format → TakesUnits old new
takes_due None old new gives there format =
    none_taken old new (ap (λ (d : Decoding). d.units) gives.1) (ap (λ (d : Decoding). d.state) gives.1) (ap (λ (d : Decoding). d.stream_end) gives.1) there format
takes_due (Some p) old new gives there format =
    none_taken old new (ap (λ (d : Decoding). d.units) gives.1) (ap (λ (d : Decoding). d.state) gives.1) (ap (λ (d : Decoding). d.stream_end) gives.1) there format

-- nothing is due, as was found
pub none_left : (old d : Decoding) → DueGives None old d → d.due ≡ []
none_left old d due = ap (λ (x : Decoding). x.due) due.1 ∙ due.0

pub takes_taken : (old new : Pushed) (d : Decoding) → DueGives None old.decoder d → TakesUnits (record old { decoder = d }) new → TakesUnits old new
takes_taken old new d due takes = subst (λ (x : Decoding). TakesUnits (record old { decoder = x }) new) due.1 takes

pub silent_taken : (old new : Pushed) (d : Decoding) → DueGives None old.decoder d → TakesSilently (record old { decoder = d }) new → TakesSilently old new
silent_taken old new d due silent = subst (λ (x : Decoding). TakesSilently (record old { decoder = x }) new) due.1 silent

-- ---- a call that takes one

latest_same : (o : Option Opened) (format : Option Sequence) → IsFormat o format → latest (opened_sequence o) format ≡ format
latest_same None format is = refl
latest_same (Some o) format is = sym is

-- nothing is ahead
told_at : (ahead there : List ℕ) (P : List ℕ → Type 0) → ahead ≡ [] → IfSome (prepend_known ahead (Some there)) P → P there
told_at ahead there P none is = subst (λ (x : List ℕ). P (x ++ there)) none is

held_at : (ahead there rest : List ℕ) → ahead ≡ [] → prepend_known ahead (Some there) ≡ Some rest → rest ≡ there
held_at ahead there rest none is =
    let at : Some (ahead ++ there) ≡ Some there = ap (λ (x : List ℕ). Some (x ++ there)) none in
    let both : Some rest ≡ Some there = sym is ∙ at in
    cc

-- the state stays, so no other sequence was opened
stays : (old new : Pushed) (m : StreamEnd) → old.decoder.stream_end ≡ stream_end.Going → old.decoder.due ≡ [] → new.decoder.stream_end ≡ m → new.decoder.state.opened ≡ old.decoder.state.opened → IsFormat old.decoder.state.opened old.format
    → new.format ≡ latest (opened_sequence new.decoder.state.opened) old.format → MeetsBehind m new old.decoder.units.unit_place old.decoder.state old.there → TakesUnits old new
stays old new m going none_due is opened kept format meets = record {
  units = [];
  unit_place = old.decoder.units.unit_place;
  state = old.decoder.state;
  rest = old.there;
  taken = (refl, refl, refl);
  format = format ∙ ap (λ o. latest (opened_sequence o) old.format) opened ∙ latest_same old.decoder.state.opened old.format kept ∙ sym (last_none old.format old.decoder.state);
  met = λ e. subst (λ (x : StreamEnd). MeetsBehind x new old.decoder.units.unit_place old.decoder.state old.there) (sym is) meets;
  still = λ ne. absurd (ne going);
  up_to = λ front last is. absurd (no_last front last is);
  none_left = λ e ne.
      ap (λ (due : List Picture). due ++ leaving old.decoder.state []) none_due ∙ none_leave old.decoder.state;
}

abbrev one_taken : (old new : Pushed) (gone : List Picture) → old.decoder.stream_end ≡ stream_end.Going → old.decoder.due ≡ [] → new.decoder.stream_end ≡ stream_end.Going → new.decoder.units.ahead ≡ [] → new.format ≡ latest (opened_sequence new.decoder.state.opened) old.format
    → StepTakesUnit old.decoder.units.unit_place new.decoder.units.unit_place old.decoder.state (record { state = new.decoder.state; gone = gone }) old.there (prepend_known new.decoder.units.ahead (Some new.there)) → TakesUnits old new
one_taken old new gone going none_due goes none format t =
    let m : StreamStep = record { state = new.decoder.state; gone = gone } in
    record {
      units = t.unit ∷ [];
      unit_place = new.decoder.units.unit_place;
      state = new.decoder.state;
      rest = new.there;
      taken = (m, t.front, t.content, (sym t.next, refl, held_at new.decoder.units.ahead new.there (drop (span_of t.unit.info) old.there) none t.holds));
      format = format ∙ sym (last_by old.format old.decoder.state t.unit [] m t.content ∙ last_none (latest (opened_sequence new.decoder.state.opened) old.format) new.decoder.state);
      met = λ e. meets_going new.decoder.stream_end new new.decoder.units.unit_place new.decoder.state new.there goes refl refl refl;
      still = λ ne. absurd (ne going);
      up_to = λ front last is.
          ap₂ (λ (due : List Picture) (units : List UnitText). due ++ leaving old.decoder.state units) none_due (only_last t.unit front last is)
          ∙ none_leave old.decoder.state;
      none_left = λ e ne. absurd (ne goes);
    }

takes_by : (m : StreamEnd) (answer : Option Next) (old new : Pushed) → new.decoder.stream_end ≡ m → old.decoder.stream_end ≡ stream_end.Going → old.decoder.due ≡ [] → old.decoder.units.ahead ≡ [] → new.decoder.units.ahead ≡ [] → IsFormat old.decoder.state.opened old.format
    → new.format ≡ latest (opened_sequence new.decoder.state.opened) old.format → TakesAs m answer old.decoder new.decoder (Some old.there) (Some new.there) → TakesUnits old new
takes_by stream_end.Going answer old new is going none_due before none kept format takes =
    one_taken old new (given_by answer ++ new.decoder.due) going none_due is none format
    (told_at old.decoder.units.ahead old.there (λ bytes. StepTakesUnit old.decoder.units.unit_place new.decoder.units.unit_place old.decoder.state (record { state = new.decoder.state; gone = given_by answer ++ new.decoder.due }) bytes (prepend_known new.decoder.units.ahead (Some new.there))) before takes)
takes_by stream_end.Ended answer old new is going none_due before none kept format takes =
    stays old new stream_end.Ended going none_due is (ap (λ (s : StreamState). s.opened) takes.0.0) kept format
    (told_at old.decoder.units.ahead old.there (λ bytes. front_of old.decoder.units.unit_place bytes ≡ Err None) before takes.1)
takes_by (stream_end.Faulted fault) answer old new is going none_due before none kept format takes =
    stays old new (stream_end.Faulted fault) going none_due is (ap (λ (s : StreamState). s.opened) takes.0.0) kept format
    (told_at old.decoder.units.ahead old.there (FaultsAt old.decoder.units.unit_place old.decoder.state fault) before takes.1)
takes_by stream_end.Stopped answer old new is going none_due before none kept format takes =
    stays old new stream_end.Stopped going none_due is (ap (λ (s : StreamState). s.opened) takes.0) kept format (sym takes.0)

-- a step of the decoder, where nothing is due
pub takes_one : (answer : Option Next) (old new : Pushed) → old.decoder.stream_end ≡ stream_end.Going → old.decoder.due ≡ [] → old.decoder.units.ahead ≡ [] → new.decoder.units.ahead ≡ [] → IsFormat old.decoder.state.opened old.format
    → new.format ≡ latest (opened_sequence new.decoder.state.opened) old.format → TakesOne answer old.decoder new.decoder (Some old.there) (Some new.there) → TakesUnits old new
takes_one answer old new going none_due before none kept format one =
    takes_by new.decoder.stream_end answer old new refl going none_due before none kept format (one.unit going none_due)

-- a step that answers nothing
silent_by : (m : StreamEnd) (old new : Pushed) → new.decoder.stream_end ≡ m → old.decoder.stream_end ≡ stream_end.Going → old.decoder.due ≡ [] → old.decoder.units.ahead ≡ [] → new.decoder.units.ahead ≡ [] → IsFormat old.decoder.state.opened old.format
    → new.format ≡ latest (opened_sequence new.decoder.state.opened) old.format → TakesOne None old.decoder new.decoder (Some old.there) (Some new.there) → TakesSilently old new
silent_by stream_end.Going old new is going none_due before none kept format one =
    let taken : TakesAs stream_end.Going None old.decoder new.decoder (Some old.there) (Some new.there) =
    subst (λ (x : StreamEnd). TakesAs x None old.decoder new.decoder (Some old.there) (Some new.there)) is (one.unit going none_due) in
    let t : StepTakesUnit old.decoder.units.unit_place new.decoder.units.unit_place old.decoder.state (record { state = new.decoder.state; gone = new.decoder.due }) old.there (prepend_known new.decoder.units.ahead (Some new.there)) =
    told_at old.decoder.units.ahead old.there (λ bytes. StepTakesUnit old.decoder.units.unit_place new.decoder.units.unit_place old.decoder.state (record { state = new.decoder.state; gone = new.decoder.due }) bytes (prepend_known new.decoder.units.ahead (Some new.there))) before taken in
    record {
      takes = one_taken old new new.decoder.due going none_due is none format t;
      due = λ goes.
          ap (λ (due : List Picture). due ++ leaving old.decoder.state (t.unit ∷ [])) none_due
          ∙ leave_by old.decoder.state t.unit [] (record { state = new.decoder.state; gone = new.decoder.due }) t.content
          ∙ due_still new.decoder.due new.decoder.due new.decoder.state refl;
    }
silent_by stream_end.Ended old new is going none_due before none kept format one = record {
  takes = takes_one None old new going none_due before none kept format one;
  due = λ goes. absurd cc;
}
silent_by (stream_end.Faulted fault) old new is going none_due before none kept format one = record {
  takes = takes_one None old new going none_due before none kept format one;
  due = λ goes. absurd cc;
}
silent_by stream_end.Stopped old new is going none_due before none kept format one = record {
  takes = takes_one None old new going none_due before none kept format one;
  due = λ goes. absurd cc;
}

pub silent_one : (old new : Pushed) → old.decoder.stream_end ≡ stream_end.Going → old.decoder.due ≡ [] → old.decoder.units.ahead ≡ [] → new.decoder.units.ahead ≡ [] → IsFormat old.decoder.state.opened old.format
    → new.format ≡ latest (opened_sequence new.decoder.state.opened) old.format → TakesOne None old.decoder new.decoder (Some old.there) (Some new.there) → TakesSilently old new
silent_one old new going none_due before none kept format one =
    silent_by new.decoder.stream_end old new refl going none_due before none kept format one

-- ---- bytes that are given up where something was met

meets_left : (m : StreamEnd) (new : Pushed) (left : List ℕ) (p : UnitPlace) (s : StreamState) (rest : List ℕ) → left ≡ kept_bytes m new.there → MeetsBehind m new p s rest → MeetsBehind m (record new { there = left }) p s rest
meets_left stream_end.Going new left p s rest is meets = (meets.0, meets.1, meets.2 ∙ sym is)
meets_left stream_end.Ended new left p s rest is meets = meets
meets_left (stream_end.Faulted fault) new left p s rest is meets = meets
meets_left stream_end.Stopped new left p s rest is meets = meets

pub takes_left : (old mid : Pushed) (left : List ℕ) → left ≡ kept_bytes mid.decoder.stream_end mid.there → TakesUnits old mid → TakesUnits old (record mid { there = left })
takes_left old mid left is takes = record {
  units = takes.units;
  unit_place = takes.unit_place;
  state = takes.state;
  rest = takes.rest;
  taken = takes.taken;
  format = takes.format;
  met = λ going.
      meets_left mid.decoder.stream_end mid left takes.unit_place takes.state takes.rest is (takes.met going);
  still = takes.still;
  up_to = takes.up_to;
  none_left = takes.none_left;
}

pub silent_left : (old mid : Pushed) (left : List ℕ) → left ≡ kept_bytes mid.decoder.stream_end mid.there → TakesSilently old mid → TakesSilently old (record mid { there = left })
unfolding takes_left
silent_left old mid left is silent =
    record { takes = takes_left old mid left is silent.takes; due = silent.due }

-- ---- one call and then another

-- whether units go on
going_or_not : (m : StreamEnd) → (m ≡ stream_end.Going) ⊎ (m ≡ stream_end.Going → ⊥)
going_or_not stream_end.Going = inl refl
going_or_not stream_end.Ended = inr (λ (e : stream_end.Ended ≡ stream_end.Going). cc)
going_or_not (stream_end.Faulted fault) = inr (λ (e : stream_end.Faulted fault ≡ stream_end.Going). cc)
going_or_not stream_end.Stopped = inr (λ (e : stream_end.Stopped ≡ stream_end.Going). cc)

-- where units go on behind the first, what it took stands before what the second finds
taken_to : (a b : Pushed) (first : TakesUnits a b) → a.decoder.stream_end ≡ stream_end.Going → b.decoder.stream_end ≡ stream_end.Going
    → AreTaken a.decoder.units.unit_place a.decoder.state a.there first.units b.decoder.units.unit_place b.decoder.state b.there
taken_to a b first going goes =
    let met : MeetsBehind stream_end.Going b first.unit_place first.state first.rest =
    subst (λ (x : StreamEnd). MeetsBehind x b first.unit_place first.state first.rest) goes (first.met going) in
    subst (λ (x : UnitPlace). AreTaken a.decoder.units.unit_place a.decoder.state a.there first.units x b.decoder.state b.there) met.0
    (subst (λ (x : StreamState). AreTaken a.decoder.units.unit_place a.decoder.state a.there first.units first.unit_place x b.there) met.1
    (subst (λ (x : List ℕ). AreTaken a.decoder.units.unit_place a.decoder.state a.there first.units first.unit_place first.state x) met.2 first.taken))

-- what left with the units of both
left_on : (a b : Pushed) (first : TakesUnits a b) (units : List UnitText) → a.decoder.stream_end ≡ stream_end.Going → b.decoder.stream_end ≡ stream_end.Going → a.decoder.due ++ leaving a.decoder.state first.units ≡ b.decoder.due
    → a.decoder.due ++ leaving a.decoder.state (first.units ++ units) ≡ b.decoder.due ++ leaving b.decoder.state units
left_on a b first units going goes due =
    ap (λ (xs : List Picture). a.decoder.due ++ xs) (leave_on a.decoder.units.unit_place b.decoder.units.unit_place a.decoder.state b.decoder.state a.there b.there first.units units (taken_to a b first going goes))
    ∙ sym (append_assoc a.decoder.due (leaving a.decoder.state first.units) (leaving b.decoder.state units))
    ∙ ap (λ (xs : List Picture). xs ++ leaving b.decoder.state units) due

-- units went on at the second
abbrev on_going : (a b c : Pushed) (first : TakesUnits a b) (second : TakesUnits b c) → a.decoder.stream_end ≡ stream_end.Going → b.decoder.stream_end ≡ stream_end.Going → a.decoder.due ++ leaving a.decoder.state first.units ≡ b.decoder.due → TakesUnits a c
on_going a b c first second going goes due = record {
  units = first.units ++ second.units;
  unit_place = second.unit_place;
  state = second.state;
  rest = second.rest;
  taken =
      taken_on a.decoder.units.unit_place b.decoder.units.unit_place second.unit_place a.decoder.state b.decoder.state second.state a.there b.there second.rest first.units second.units (taken_to a b first going goes) second.taken;
  format =
      second.format ∙ ap (λ f. opened_last f b.decoder.state second.units) first.format
      ∙ sym (last_on a.decoder.units.unit_place b.decoder.units.unit_place a.decoder.state b.decoder.state a.there b.there first.units second.units a.format (taken_to a b first going goes));
  met = λ e. second.met goes;
  still = λ ne. absurd (ne going);
  up_to = λ front last is. elim (last_of first.units second.units front last is) [
    | inl e ↦ first.up_to front last e
    | inr e ↦
        ap (λ (xs : List UnitText). a.decoder.due ++ leaving a.decoder.state xs) e.2
        ∙ left_on a b first e.0 going goes due ∙ second.up_to e.0 last e.1
  ];
  none_left = λ e ne. left_on a b first second.units going goes due ∙ second.none_left goes ne;
}

-- the second takes none
still_format : (b c : Pushed) (second : TakesUnits b c) → (b.decoder.stream_end ≡ stream_end.Going → ⊥) → c.format ≡ b.format
still_format b c second ne =
    second.format ∙ ap (opened_last b.format b.decoder.state) (second.still ne).0 ∙ last_none b.format b.decoder.state

-- what was met isn't told by what is there
meets_still : (m : StreamEnd) (b c : Pushed) (p : UnitPlace) (s : StreamState) (rest : List ℕ) → (m ≡ stream_end.Going → ⊥) → (m ≡ stream_end.Stopped → ⊥) → MeetsBehind m b p s rest → MeetsBehind m c p s rest
meets_still stream_end.Going b c p s rest ne moving is = absurd (ne refl)
meets_still stream_end.Ended b c p s rest ne moving is = is
meets_still (stream_end.Faulted fault) b c p s rest ne moving is = is
meets_still stream_end.Stopped b c p s rest ne moving is = absurd (moving refl)

abbrev on_still : (a b c : Pushed) (first : TakesUnits a b) (second : TakesUnits b c) → (b.decoder.stream_end ≡ stream_end.Going → ⊥) → (b.decoder.stream_end ≡ stream_end.Stopped → ⊥) → TakesUnits a c
on_still a b c first second ne moving = record {
  units = first.units;
  unit_place = first.unit_place;
  state = first.state;
  rest = first.rest;
  taken = first.taken;
  format = still_format b c second ne ∙ first.format;
  met = λ going.
      subst (λ (x : StreamEnd). MeetsBehind x c first.unit_place first.state first.rest) (sym (second.still ne).1)
      (meets_still b.decoder.stream_end b c first.unit_place first.state first.rest ne moving (first.met going));
  still = λ stopped. ((first.still stopped).0, (second.still ne).1 ∙ (first.still stopped).1);
  up_to = first.up_to;
  none_left = λ going stopped. first.none_left going ne;
}

pub takes_on : (a b c : Pushed) → (b.decoder.stream_end ≡ stream_end.Stopped → ⊥) → TakesSilently a b → TakesUnits b c → TakesUnits a c
takes_on a b c moving first second = elim (going_or_not b.decoder.stream_end) [
  | inr ne ↦ on_still a b c first.takes second ne moving
  | inl goes ↦ elim (going_or_not a.decoder.stream_end) [
    | inl going ↦ on_going a b c first.takes second going goes (first.due goes)
    | inr ne ↦ absurd (ne (sym (first.takes.still ne).1 ∙ goes))
  ]
]

pub silent_on : (a b c : Pushed) → (b.decoder.stream_end ≡ stream_end.Stopped → ⊥) → TakesSilently a b → TakesSilently b c → TakesSilently a c
silent_on a b c moving first second = elim (going_or_not b.decoder.stream_end) [
  | inr ne ↦ record {
    takes = on_still a b c first.takes second.takes ne moving;
    due = λ goes. absurd (ne (sym (second.takes.still ne).1 ∙ goes));
  }
  | inl goes ↦ elim (going_or_not a.decoder.stream_end) [
    | inl going ↦ record {
      takes = on_going a b c first.takes second.takes going goes (first.due goes);
      due = λ still. left_on a b first.takes second.takes.units going goes (first.due goes) ∙ second.due still;
    }
    | inr ne ↦ absurd (ne (sym (first.takes.still ne).1 ∙ goes))
  ]
]
