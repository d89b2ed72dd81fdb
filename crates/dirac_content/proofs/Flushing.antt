-- A stream shows the pictures of its sequences in the order of delivery.
use Rattle.std.proofs.Common.{◌≡◌, ◌≢◌, ◌∙◌, ℕ, ◌==◌, Bool, true, false, not, ◌&&◌, if◌then◌else◌, List, [], ◌∷◌, ◌++◌, Option, None, Some, Result, Ok, Err, refl, sym, ap, subst, arith, append-nil, append_assoc, ne_eqb}
use Rattle.std.proofs.lemmas.List.Elements.{All-get_or, All-drop}
use Rattle.dirac_common.specs.declared.faults.Fault.{Fault}
use Rattle.dirac_common.specs.declared.faults.Refusal.{Refusal}
use Rattle.dirac_common.specs.declared.faults.Cause.TheVariants.{SequenceChanged}
use Rattle.dirac_sequence_header.specs.declared.sequence.Sequence.{Sequence}
use Rattle.dirac_sequence_header.specs.Grammar.{sequence_read}
use Rattle.dirac_common.specs.declared.picture.Picture.{Picture}
use Rattle.dirac_units.specs.declared.unit_place.UnitPlace.{UnitPlace}
use Rattle.dirac_units.specs.Cut.{UnitText, after}
use Rattle.dirac_units.specs.Info.{fields_are_read}
use Rattle.dirac_refs.specs.declared.waiting.Waiting.{Waiting}
use Rattle.dirac_refs.specs.Delivery.{Leaving, delivered, flushed, pushed_all}
use Rattle.dirac_picture.specs.declared.coded.CodedPicture.{CodedPicture}
use Rattle.dirac_picture.specs.Grammar.{picture_read}
use Rattle.dirac_content.specs.declared.opened.Opened.{Opened}
use Rattle.dirac_content.specs.Content.{rebuilt}
use Rattle.dirac_content.specs.StreamState.{StreamState, StreamStep, ended, header_step, shown_or_refused, unit_step, opening, picture_step, shows, staying, is_same}
use Rattle.dirac_content.specs.Sequences.{AreOfOneSequence, EachIsFlushed, LastIsFlushed, ShowsBehind, flushed_behind, pushed, pushed_by, pushed_in, pushed_of, pushed_on}
use Rattle.dirac_content.specs.Shown.{accepted, accepted_on, follows, outcome}

-- what a unit's content left behind
abbrev left_by : StreamStep → Leaving
left_by m = record { waiting = m.state.waiting; gone = m.gone }

-- pictures, and then others
pub pushed_append : (waiting xs ys : List Waiting)
    → pushed_all waiting (xs ++ ys) ≡ record { waiting = (pushed_all (pushed_all waiting xs).waiting ys).waiting; gone = (pushed_all waiting xs).gone ++ (pushed_all (pushed_all waiting xs).waiting ys).gone }
pushed_append waiting [] ys = refl
pushed_append waiting (x ∷ xs) ys =
    let now = delivered (waiting ++ x ∷ []) in
    let rest = pushed_append now.waiting xs ys in
    let gone = ap (λ (l : Leaving). now.gone ++ l.gone) rest in
    let waits = ap (λ (l : Leaving). l.waiting) rest in
    let joined : now.gone ++ ((pushed_all now.waiting xs).gone ++ (pushed_all (pushed_all now.waiting xs).waiting ys).gone)
    ≡ (now.gone ++ (pushed_all now.waiting xs).gone) ++ (pushed_all (pushed_all now.waiting xs).waiting ys).gone = sym (append_assoc now.gone (pushed_all now.waiting xs).gone (pushed_all (pushed_all now.waiting xs).waiting ys).gone) in
    ap (λ (w : List Waiting). let l : Leaving = record { waiting = w; gone = now.gone ++ (pushed_all now.waiting (xs ++ ys)).gone } in l) waits
    ∙ ap (λ (g : List Picture). let l : Leaving = record { waiting = (pushed_all (pushed_all now.waiting xs).waiting ys).waiting; gone = g } in l) (gone ∙ joined)

-- a picture that was read
made_leaves : (state : StreamState) (o : Opened) (r : Result CodedPicture Refusal) (m : StreamStep) → shown_or_refused state o r ≡ Ok m → pushed_all state.waiting (pushed_of state o r) ≡ left_by m
made_leaves state o (Err refusal) m is = absurd cc
made_leaves state o (Ok coded) m is =
    let s = shows state coded (rebuilt o.sequence state.list coded) in
    let same : s ≡ m = cc in
    ap (λ (g : List Picture). let l : Leaving = record { waiting = s.state.waiting; gone = g } in l) (append-nil s.gone) ∙ ap left_by same

picture_leaves : (state : StreamState) (o : Option Opened) (unit : UnitText) (m : StreamStep) → picture_step state o unit.info.code unit.payload ≡ Ok m
    → pushed_all state.waiting (pushed_in state o unit) ≡ left_by m
picture_leaves state None unit m is = absurd cc
picture_leaves state (Some o) unit m is = made_leaves state o (picture_read unit.info.code o.sequence state.list unit.payload) m is

-- a sequence header pushes nothing
opening_leaves : (state : StreamState) (payload : List ℕ) (r : Result Sequence Refusal) (m : StreamStep) → opening state payload r ≡ Ok m → pushed_all state.waiting [] ≡ left_by m
opening_leaves state payload (Ok s) m is =
    let opened : StreamStep = staying (record state { opened = Some (record { header = payload; sequence = s }); first = None }) in
    let same : opened ≡ m = cc in
    ap left_by same
opening_leaves state payload (Err refusal) m is = absurd cc

abbrev changed : Refusal
changed = record { at = 0; cause = SequenceChanged }

repeat_leaves : (state : StreamState) (same : Bool) (m : StreamStep) → (if same then Ok (staying state) else Err changed) ≡ Ok m → pushed_all state.waiting [] ≡ left_by m
repeat_leaves state true m is = let same : staying state ≡ m = cc in ap left_by same
repeat_leaves state false m is = absurd cc

header_leaves : (state : StreamState) (o : Option Opened) (payload : List ℕ) (m : StreamStep) → header_step state o payload ≡ Ok m → pushed_all state.waiting [] ≡ left_by m
header_leaves state None payload m is = opening_leaves state payload (sequence_read payload) m is
header_leaves state (Some o) payload m is = repeat_leaves state (is_same payload o.header) m is

-- a unit other than an end unit
unit_chosen : (state : StreamState) (unit : UnitText) (m : StreamStep) (fields header end : Bool) → end ≡ false
    → (if fields then (if header then header_step state state.opened unit.payload else picture_step state state.opened unit.info.code unit.payload) else Ok (if end then ended state else staying state)) ≡ Ok m
    → pushed_all state.waiting (if fields && not header then pushed_in state state.opened unit else []) ≡ left_by m
unit_chosen state unit m true true end shut is = header_leaves state state.opened unit.payload m is
unit_chosen state unit m true false end shut is = picture_leaves state state.opened unit m is
unit_chosen state unit m false header true shut is = absurd cc
unit_chosen state unit m false header false shut is = let same : staying state ≡ m = cc in ap left_by same

unit_leaves : (state : StreamState) (unit : UnitText) (m : StreamStep) → unit.info.code ≢ 0x10 → unit_step state unit.info.code unit.payload ≡ Ok m
    → pushed_all state.waiting (pushed_by state unit) ≡ left_by m
unfolding unit_step
unit_leaves state unit m other is =
    unit_chosen state unit m (fields_are_read unit.info.code) (unit.info.code == 0x00) (unit.info.code == 0x10) (ne_eqb unit.info.code 0x10 other) is

-- pictures behind others that are known
behind_step : (waiting xs ys : List Waiting) (l : Leaving) → pushed_all waiting xs ≡ l → flushed_behind waiting (xs ++ ys) ≡ l.gone ++ flushed_behind l.waiting ys
behind_step waiting xs ys l is =
    let one = pushed_all waiting xs in
    let two = pushed_all one.waiting ys in
    let P : Leaving → Type 0 = λ k. flushed_behind waiting (xs ++ ys) ≡ k.gone ++ flushed_behind k.waiting ys in
    let whole : P one = ap (λ (k : Leaving). k.gone ++ flushed k.waiting) (pushed_append waiting xs ys) ∙ append_assoc one.gone two.gone (flushed two.waiting) in
    subst P is whole

first_of : (unit : UnitText) (units : List UnitText) → AreOfOneSequence (unit ∷ units) → unit.info.code ≢ 0x10
first_of unit units all = All-get_or (λ (u : UnitText). u.info.code ≢ 0x10) (unit ∷ units) 0 unit (omega arith) all

rest_of : (unit : UnitText) (units : List UnitText) → AreOfOneSequence (unit ∷ units) → AreOfOneSequence units
rest_of unit units all = All-drop (λ (u : UnitText). u.info.code ≢ 0x10) 1 (unit ∷ units) all

last_step : (state : StreamState) (unit_place : UnitPlace) (unit : UnitText) (units : List UnitText) (end : Option Fault) (r : Result StreamStep Refusal) → unit.info.code ≢ 0x10
    → unit_step state unit.info.code unit.payload ≡ r
    → ((next : StreamState) → (outcome next (after unit_place unit.info) units end).shown ≡ flushed_behind next.waiting (pushed next units))
    → (follows state unit_place (λ next. outcome next (after unit_place unit.info) units end) r).shown ≡ flushed_behind state.waiting (pushed_on (pushed_by state unit) (λ next. pushed next units) r)
last_step state unit_place unit units end (Err refusal) other is later = refl
last_step state unit_place unit units end (Ok m) other is later =
    ap (λ (ps : List Picture). m.gone ++ ps) (later m.state)
    ∙ sym (behind_step state.waiting (pushed_by state unit) (pushed m.state units) (left_by m) (unit_leaves state unit m other is))

pub last_is_flushed : LastIsFlushed
unfolding outcome pushed
last_is_flushed state unit_place [] end all = refl
last_is_flushed state unit_place (unit ∷ units) end all =
    last_step state unit_place unit units end (unit_step state unit.info.code unit.payload) (first_of unit units all) refl
    (λ next. last_is_flushed next (after unit_place unit.info) units end (rest_of unit units all))

-- an end unit
pub end_moves : (state : StreamState) (code : ℕ) (payload : List ℕ) → code ≡ 0x10 → unit_step state code payload ≡ Ok (ended state)
unfolding unit_step
end_moves state code payload is = subst (λ (n : ℕ). unit_step state n payload ≡ Ok (ended state)) (sym is) refl

each_step : (state : StreamState) (unit_place : UnitPlace) (unit : UnitText) (units rest : List UnitText) (last : UnitText) (end : Option Fault) (r : Result StreamStep Refusal)
    → unit.info.code ≢ 0x10 → unit_step state unit.info.code unit.payload ≡ r → accepted_on unit (λ next. accepted next units) r ≡ unit ∷ units
    → ((next : StreamState) → accepted next units ≡ units → ShowsBehind (outcome next (after unit_place unit.info) (units ++ last ∷ rest) end).shown (flushed_behind next.waiting (pushed next units)) rest end)
    → ShowsBehind (follows state unit_place (λ next. outcome next (after unit_place unit.info) (units ++ last ∷ rest) end) r).shown (flushed_behind state.waiting (pushed_on (pushed_by state unit) (λ next. pushed next units) r)) rest end
each_step state unit_place unit units rest last end (Err refusal) other is all later = absurd cc
each_step state unit_place unit units rest last end (Ok m) other is all later =
    let accepts : accepted m.state units ≡ units = cc in
    let behind = later m.state accepts in
    let front = flushed_behind m.state.waiting (pushed m.state units) in
    let rest_shown = (outcome behind.state behind.unit_place rest end).shown in
    let same : m.gone ++ front ≡ flushed_behind state.waiting (pushed_by state unit ++ pushed m.state units) =
    sym (behind_step state.waiting (pushed_by state unit) (pushed m.state units) (left_by m) (unit_leaves state unit m other is)) in
    record {
      state = behind.state;
      unit_place = behind.unit_place;
      between = behind.between;
      shows =
          ap (λ (ps : List Picture). m.gone ++ ps) behind.shows
          ∙ sym (append_assoc m.gone front rest_shown)
          ∙ ap (λ (ps : List Picture). ps ++ rest_shown) same;
    }

end_step : (state : StreamState) (unit_place : UnitPlace) (rest : List UnitText) (last : UnitText) (end : Option Fault) (r : Result StreamStep Refusal) → r ≡ Ok (ended state)
    → ShowsBehind (follows state unit_place (λ next. outcome next (after unit_place last.info) rest end) r).shown (flushed state.waiting) rest end
end_step state unit_place rest last end r is =
    let m = ended state in
    subst (λ (x : Result StreamStep Refusal). ShowsBehind (follows state unit_place (λ next. outcome next (after unit_place last.info) rest end) x).shown (flushed state.waiting) rest end) (sym is)
    (record {
      state = m.state;
      unit_place = after unit_place last.info;
      between = record { opened = refl; first = refl; list = refl; waiting = refl };
      shows = refl;
    })

pub each_is_flushed : EachIsFlushed
unfolding outcome pushed accepted
each_is_flushed state unit_place [] rest last end all accepts is =
    end_step state unit_place rest last end (unit_step state last.info.code last.payload) (end_moves state last.info.code last.payload is)
each_is_flushed state unit_place (unit ∷ units) rest last end all accepts is =
    each_step state unit_place unit units rest last end (unit_step state unit.info.code unit.payload) (first_of unit units all) refl accepts
    (λ next accepts'. each_is_flushed next (after unit_place unit.info) units rest last end (rest_of unit units all) accepts' is)
