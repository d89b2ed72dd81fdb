-- A decoder's way through the units of a stream, seen by its sequences.
use Rattle.std.proofs.Common.{◌≡◌, ◌==◌, if◌then◌else◌, Bool, true, false, ℕ, suc, List, [], ◌∷◌, ◌++◌, map, Option, None, Some, Result, Ok, Err, refl, sym, ◌∙◌, ap, ap₂, subst, append_assoc, append-nil}
use Rattle.std.specs.List.{AllByRecursion}
use Rattle.std.proofs.lemmas.List.{map-append}
use Rattle.std.proofs.lemmas.Grind.{flat_map-append}
use Rattle.dirac_common.specs.declared.faults.Cause.TheVariants.{SequenceChanged}
use Rattle.dirac_common.specs.declared.faults.Refusal.{Refusal}
use Rattle.dirac_common.specs.declared.picture.Picture.{Picture}
use Rattle.dirac_sequence_header.specs.declared.sequence.Sequence.{Sequence}
use Rattle.dirac_sequence_header.specs.Grammar.{sequence_read}
use Rattle.dirac_units.specs.declared.unit_place.UnitPlace.{UnitPlace}
use Rattle.dirac_units.specs.Cut.{UnitText, after, first_unit_place}
use Rattle.dirac_units.specs.Info.{fields_are_read}
use Rattle.dirac_refs.specs.declared.waiting.Waiting.{Waiting}
use Rattle.dirac_refs.specs.Delivery.{Leaving, delivered, flushed, pushed_all}
use Rattle.dirac_picture.specs.declared.coded.CodedPicture.{CodedPicture}
use Rattle.dirac_picture.specs.Grammar.{picture_read}
use Rattle.dirac_plan_laws.specs.Headers.{IsPictureCode}
use Rattle.dirac_plan_laws.proofs.Each.{each_append}
use Rattle.dirac_content.specs.declared.opened.Opened.{Opened}
use Rattle.dirac_content.specs.Content.{rebuilt}
use Rattle.dirac_content.specs.Sequences.{IsBetween}
use Rattle.dirac_content.specs.Shown.{Outcome, follows, outcome}
use Rattle.dirac_content.specs.StreamState.{StreamState, StreamStep, stream_begun, content, ended, first_or, header_step, is_same, shown_or_refused, opening, passed, picture_step, shows, staying, unit_step}
use Rattle.dirac_content.proofs.Flushing.{pushed_append}
use Rattle.dirac_edit_laws.specs.Laws.{UnitsShowTheirSequences}
use Rattle.dirac_edit_laws.specs.Rebuilt.{AreRead, IsRead, RebuiltText, all_shown, list_behind, rebuilt_picture, rebuilt_behind, rebuilt_from, rebuilt_of, rebuilt_text, sequence_shown, waiting_from, with_keys}
use Rattle.dirac_edit_laws.specs.Texts.{PictureText, SequenceText, closed_off, opened_by, picture_text_at, points_up_to, sequences_from, with_picture_text}
use Rattle.dirac_edit_laws.proofs.Closed.{one_rebuilt}
use Rattle.dirac_edit_laws.proofs.UnitKinds.{behind_end, behind_header, behind_other, behind_picture, kind_of, of_end, of_header, of_other, of_picture}
use Rattle.dirac_content.proofs.Flushing.{end_moves}

-- ---- pictures one after another

-- the list behind pictures
abbrev pub lists_behind : List Picture → List RebuiltText → List Picture
lists_behind list [] = list
lists_behind list (r ∷ rs) = lists_behind (list_behind list r) rs

-- one picture more behind these
pub record OneMore (s : Sequence) (list : List Picture) (pictures : List PictureText) (p : PictureText) (r : RebuiltText) : Type 0 where
  pub read : AreRead s list (pictures ++ p ∷ [])
  pub rebuilt : rebuilt_from s list (pictures ++ p ∷ []) ≡ rebuilt_from s list pictures ++ r ∷ []
  pub lists : lists_behind list (rebuilt_from s list (pictures ++ p ∷ [])) ≡ list_behind (lists_behind list (rebuilt_from s list pictures)) r

one_more : (s : Sequence) (list : List Picture) (pictures : List PictureText) (p : PictureText) (coded : CodedPicture) → AreRead s list pictures
    → picture_read p.code s (lists_behind list (rebuilt_from s list pictures)) p.payload ≡ Ok coded
    → OneMore s list pictures p (rebuilt_text s (lists_behind list (rebuilt_from s list pictures)) p coded)
unfolding AreRead rebuilt_from
one_more s list [] p coded all is =
    let one = rebuilt_text s list p coded in
    let whole : rebuilt_from s list (p ∷ []) ≡ one ∷ [] = one_rebuilt s list p [] coded is in
    record {
      read = (coded, is, tt);
      rebuilt = whole;
      lists = ap (lists_behind list) whole;
    }
one_more s list (q ∷ pictures) p coded all is =
    let first = rebuilt_text s list q all.0 in
    let next = list_behind list first in
    let front = one_rebuilt s list q pictures all.0 all.1 in
    let is' : picture_read p.code s (lists_behind next (rebuilt_from s next pictures)) p.payload ≡ Ok coded =
    sym (ap (λ (rs : List RebuiltText). picture_read p.code s (lists_behind list rs) p.payload) front) ∙ is in
    let rest = one_more s next pictures p coded all.2 is' in
    let longer = one_rebuilt s list q (pictures ++ p ∷ []) all.0 all.1 in
    let last = rebuilt_text s (lists_behind next (rebuilt_from s next pictures)) p coded in
    subst (λ (rs : List RebuiltText). OneMore s list (q ∷ pictures) p (rebuilt_text s (lists_behind list rs) p coded)) (sym front)
    (record {
      read = (all.0, all.1, rest.read);
      rebuilt = longer ∙ ap (λ (rs : List RebuiltText). first ∷ rs) rest.rebuilt ∙ ap (λ (rs : List RebuiltText). rs ++ last ∷ []) (sym front);
      lists = ap (lists_behind list) longer ∙ rest.lists ∙ ap (λ (rs : List RebuiltText). list_behind (lists_behind list rs) last) (sym front);
    })

-- the number of the first picture
abbrev pub first_in : List Picture → Option ℕ
first_in [] = None
first_in (p ∷ pictures) = Some p.number

keys_more : (pictures : List Picture) (q : Picture) → with_keys (pictures ++ q ∷ []) ≡ with_keys pictures ++ waiting_from (first_or (first_in pictures) q.number) q ∷ []
keys_more [] q = refl
keys_more (p ∷ pictures) q = map-append (waiting_from p.number) (p ∷ pictures) (q ∷ [])

first_more : (pictures : List Picture) (q : Picture) → first_in (pictures ++ q ∷ []) ≡ Some (first_or (first_in pictures) q.number)
first_more [] q = refl
first_more (p ∷ pictures) q = refl

-- ---- the state of a decoder within a sequence

-- the pictures of a sequence so far, with their keys
abbrev pub keys_of : Sequence → SequenceText → List Waiting
keys_of s t = with_keys (map rebuilt_picture (rebuilt_from s [] t.pictures))

-- what left so far, and what waits
abbrev pub left_of : Sequence → SequenceText → Leaving
left_of s t = pushed_all [] (keys_of s t)

-- a decoder that read this sequence so far
pub record IsIn (s : Sequence) (t : SequenceText) (state : StreamState) : Type 0 where
  pub opened : state.opened ≡ Some (record { header = t.header; sequence = s })
  pub header : sequence_read t.header ≡ Ok s
  pub pictures : AreRead s [] t.pictures
  pub list : state.list ≡ lists_behind [] (rebuilt_from s [] t.pictures)
  pub first : state.first ≡ first_in (map rebuilt_picture (rebuilt_from s [] t.pictures))
  pub waits : state.waiting ≡ (left_of s t).waiting

pub is_read : (s : Sequence) (t : SequenceText) (state : StreamState) → IsIn s t state → IsRead t
is_read s t state i = record { sequence = s; header = i.header; pictures = i.pictures }

pub shown_is : (s : Sequence) (t : SequenceText) → sequence_read t.header ≡ Ok s → sequence_shown t ≡ (left_of s t).gone ++ flushed (left_of s t).waiting
unfolding rebuilt_of
shown_is s t is =
    ap (λ r. let all = pushed_all [] (with_keys (map rebuilt_picture (rebuilt_behind t.pictures r))) in all.gone ++ flushed all.waiting) is

-- a sequence with one picture more
abbrev pub longer : SequenceText → PictureText → SequenceText
longer t p = record { header = t.header; pictures = t.pictures ++ p ∷ [] }

-- a picture that is read
pub record Moves (s : Sequence) (t : SequenceText) (p : PictureText) (state : StreamState) (m : StreamStep) : Type 0 where
  pub inside : IsIn s (longer t p) m.state
  pub gone : (left_of s (longer t p)).gone ≡ (left_of s t).gone ++ m.gone

-- by the list that its sequence has so far
moves_by : (s : Sequence) (t : SequenceText) (p : PictureText) (state : StreamState) (coded : CodedPicture) (list : List Picture) → IsIn s t state → state.list ≡ list
    → OneMore s [] t.pictures p (rebuilt_text s list p coded) → Moves s t p state (shows state coded (rebuilt s list coded))
moves_by s t p state coded list i same more =
    let q = rebuilt s list coded in
    let r = rebuilt_text s list p coded in
    let before = map rebuilt_picture (rebuilt_from s [] t.pictures) in
    let now = map rebuilt_picture (rebuilt_from s [] (longer t p).pictures) in
    let all : now ≡ before ++ q ∷ [] = ap (map rebuilt_picture) more.rebuilt ∙ map-append rebuilt_picture (rebuilt_from s [] t.pictures) (r ∷ []) in
    let w = waiting_from (first_or (first_in before) q.number) q in
    let keys : keys_of s (longer t p) ≡ keys_of s t ++ w ∷ [] = ap with_keys all ∙ keys_more before q in
    let left = left_of s t in
    let added = pushed_all left.waiting (w ∷ []) in
    let pushed : left_of s (longer t p) ≡ record { waiting = added.waiting; gone = left.gone ++ added.gone } = ap (pushed_all []) keys ∙ pushed_append [] (keys_of s t) (w ∷ []) in
    let end : left.waiting ++ w ∷ [] ≡ state.waiting ++ waiting_from (first_or state.first q.number) q ∷ [] =
    ap₂ (λ (ws : List Waiting) (o : Option ℕ). ws ++ waiting_from (first_or o q.number) q ∷ []) (sym i.waits) (sym i.first) in
    record {
      inside = record {
        opened = i.opened;
        header = i.header;
        pictures = more.read;
        list = ap (λ l. list_behind l r) i.list ∙ sym more.lists;
        first = ap (λ o. Some (first_or o q.number)) i.first ∙ sym (first_more before q) ∙ sym (ap first_in all);
        waits = sym (ap (λ (l : Leaving). l.waiting) pushed ∙ ap (λ ws. (delivered ws).waiting) end);
      };
      gone = ap (λ (l : Leaving). l.gone) pushed ∙ ap (λ g. left.gone ++ g) (append-nil (delivered (left.waiting ++ w ∷ [])).gone) ∙ ap (λ ws. left.gone ++ (delivered ws).gone) end;
    }

pub moves : (s : Sequence) (t : SequenceText) (p : PictureText) (state : StreamState) (coded : CodedPicture) → IsIn s t state → picture_read p.code s state.list p.payload ≡ Ok coded
    → Moves s t p state (shows state coded (rebuilt s state.list coded))
moves s t p state coded i is =
    let list = lists_behind [] (rebuilt_from s [] t.pictures) in
    let read : picture_read p.code s list p.payload ≡ Ok coded = sym (ap (λ l. picture_read p.code s l p.payload) i.list) ∙ is in
    let more = one_more s [] t.pictures p coded i.pictures read in
    subst (λ (l : List Picture). Moves s t p state (shows state coded (rebuilt s l coded))) (sym i.list) (moves_by s t p state coded list i i.list more)

-- ---- the whole way

-- a decoder between sequences, or within one
unfoldable pub IsAt : Option SequenceText → StreamState → Type 0
IsAt None state = IsBetween state
IsAt (Some t) state = (s : Sequence) × IsIn s t state

-- what left of the open sequence so far
unfoldable pub gone_of : Option SequenceText → List Picture
gone_of None = []
gone_of (Some t) = (pushed_all [] (with_keys (map rebuilt_picture (rebuilt_of t)))).gone

gone_is : (s : Sequence) (t : SequenceText) → sequence_read t.header ≡ Ok s → gone_of (Some t) ≡ (left_of s t).gone
unfolding gone_of rebuilt_of
gone_is s t is = ap (λ r. (pushed_all [] (with_keys (map rebuilt_picture (rebuilt_behind t.pictures r)))).gone) is

-- the units behind this one
abbrev pub Rest : Type 0
Rest = StreamState → Outcome

-- a unit was passed without a fault: now this sequence is open, these were shown to the end, and the rest follows
pub record Goes (now now' : Option SequenceText) (front : List Picture) (rest : Rest) (o : Outcome) : Type 0 where
  pub later : StreamState
  pub at : IsAt now' later
  pub none : (rest later).end ≡ None
  pub shown : gone_of now ++ o.shown ≡ front ++ (gone_of now' ++ (rest later).shown)

-- where what the unit brings is followed by no fault
abbrev pub GoesBy : StreamState → UnitPlace → Rest → Option SequenceText → Option SequenceText → List Picture → Result StreamStep Refusal → Type 0
GoesBy state unit_place rest now now' front r = (follows state unit_place rest r).end ≡ None → Goes now now' front rest (follows state unit_place rest r)

-- ---- a sequence header

abbrev pub fresh : StreamState → List ℕ → Sequence → StreamState
fresh state payload s = record state { opened = Some (record { header = payload; sequence = s }); first = None }

abbrev pub bare_text : List ℕ → SequenceText
bare_text payload = record { header = payload; pictures = [] }

pub fresh_inside : (state : StreamState) (payload : List ℕ) (s : Sequence) → IsBetween state → sequence_read payload ≡ Ok s → IsIn s (bare_text payload) (fresh state payload s)
unfolding AreRead rebuilt_from
fresh_inside state payload s i is = record { opened = refl; header = is; pictures = tt; list = i.list; first = refl; waits = i.waiting }

nothing_gone : (payload : List ℕ) (s : Sequence) → sequence_read payload ≡ Ok s → gone_of (Some (bare_text payload)) ≡ []
unfolding rebuilt_from
nothing_gone payload s is = gone_is s (bare_text payload) is

header_none : (state : StreamState) (unit_place : UnitPlace) (rest : Rest) (payload : List ℕ) → IsBetween state
    → GoesBy state unit_place rest None (Some (bare_text payload)) [] (header_step state None payload)
unfolding IsAt gone_of
header_none state unit_place rest payload i =
    elim (sequence_read payload) as (λ r. sequence_read payload ≡ r → GoesBy state unit_place rest None (Some (bare_text payload)) [] (opening state payload r)) [
      | Err refusal ↦ λ is none. absurd cc
      | Ok s ↦ λ is none.
          let next = fresh state payload s in
          record {
            later = next;
            at = (s, fresh_inside state payload s i is);
            none = none;
            shown = sym (ap (λ g. g ++ (rest next).shown) (nothing_gone payload s is));
          }
    ] refl

abbrev changed : Refusal
changed = record { at = 0; cause = SequenceChanged }

header_some : (state : StreamState) (unit_place : UnitPlace) (rest : Rest) (payload : List ℕ) (o : Opened) (t : SequenceText) → IsAt (Some t) state
    → GoesBy state unit_place rest (Some t) (Some t) [] (header_step state (Some o) payload)
header_some state unit_place rest payload o t i =
    elim (is_same payload o.header) as (λ b. GoesBy state unit_place rest (Some t) (Some t) [] (if b then Ok (staying state) else Err changed)) [
      | true ↦ λ none. record { later = state; at = i; none = none; shown = refl }
      | false ↦ λ none. absurd cc
    ]

header_goes : (state : StreamState) (unit_place : UnitPlace) (rest : Rest) (payload : List ℕ) (now : Option SequenceText) → IsAt now state
    → GoesBy state unit_place rest now (opened_by now payload) [] (header_step state state.opened payload)
unfolding IsAt
header_goes state unit_place rest payload None i =
    subst (λ (o : Option Opened). GoesBy state unit_place rest None (Some (bare_text payload)) [] (header_step state o payload)) (sym i.opened) (header_none state unit_place rest payload i)
header_goes state unit_place rest payload (Some t) i =
    let o : Opened = record { header = t.header; sequence = i.0 } in
    subst (λ (x : Option Opened). GoesBy state unit_place rest (Some t) (Some t) [] (header_step state x payload)) (sym i.1.opened) (header_some state unit_place rest payload o t i)

-- ---- an end unit

pub closed_state : (state : StreamState) → IsBetween (ended state).state
closed_state state = record { opened = refl; first = refl; list = refl; waiting = refl }

end_goes : (state : StreamState) (unit_place : UnitPlace) (rest : Rest) (now : Option SequenceText) → IsAt now state
    → GoesBy state unit_place rest now None (all_shown (closed_off now)) (Ok (ended state))
unfolding IsAt gone_of
end_goes state unit_place rest None i none =
    let next = (ended state).state in
    record { later = next; at = closed_state state; none = none; shown = ap (λ ws. flushed ws ++ (rest next).shown) i.waiting }
end_goes state unit_place rest (Some t) i none =
    let next = (ended state).state in
    let left = left_of i.0 t in
    let shown = (rest next).shown in
    record {
      later = next;
      at = closed_state state;
      none = none;
      shown =
          ap₂ (λ (g : List Picture) (ws : List Waiting). g ++ (flushed ws ++ shown)) (gone_is i.0 t i.1.header) i.1.waits
          ∙ sym (append_assoc left.gone (flushed left.waiting) shown)
          ∙ ap (λ l. l ++ shown) (sym (append-nil (sequence_shown t) ∙ shown_is i.0 t i.1.header));
    }

-- ---- a picture

picture_some : (state : StreamState) (unit_place : UnitPlace) (rest : Rest) (s : Sequence) (t : SequenceText) (p : PictureText) → IsIn s t state
    → GoesBy state unit_place rest (Some t) (Some (longer t p)) [] (picture_step state (Some (record { header = t.header; sequence = s })) p.code p.payload)
unfolding IsAt
picture_some state unit_place rest s t p i =
    let o : Opened = record { header = t.header; sequence = s } in
    elim (picture_read p.code s state.list p.payload) as (λ r. picture_read p.code s state.list p.payload ≡ r → GoesBy state unit_place rest (Some t) (Some (longer t p)) [] (shown_or_refused state o r)) [
      | Err refusal ↦ λ is none. absurd cc
      | Ok coded ↦ λ is none.
          let m = shows state coded (rebuilt s state.list coded) in
          let step = moves s t p state coded i is in
          let shown = (rest m.state).shown in
          record {
            later = m.state;
            at = (s, step.inside);
            none = none;
            shown =
                ap (λ g. g ++ (m.gone ++ shown)) (gone_is s t i.header)
                ∙ sym (append_assoc (left_of s t).gone m.gone shown)
                ∙ ap (λ g. g ++ shown) (sym (gone_is s (longer t p) step.inside.header ∙ step.gone));
          }
    ] refl

picture_goes : (state : StreamState) (unit_place : UnitPlace) (rest : Rest) (p : PictureText) (now : Option SequenceText) → IsAt now state
    → GoesBy state unit_place rest now (with_picture_text now p) [] (picture_step state state.opened p.code p.payload)
unfolding IsAt
picture_goes state unit_place rest p None i =
    subst (λ (o : Option Opened). GoesBy state unit_place rest None None [] (picture_step state o p.code p.payload)) (sym i.opened) (λ none. absurd cc)
picture_goes state unit_place rest p (Some t) i =
    subst (λ (o : Option Opened). GoesBy state unit_place rest (Some t) (Some (longer t p)) [] (picture_step state o p.code p.payload)) (sym i.1.opened) (picture_some state unit_place rest i.0 t p i.1)

-- a picture has an open sequence
unfoldable pub IsOpen : Option SequenceText → Type 0
IsOpen None = ⊥
IsOpen (Some t) = Unit {0}

picture_open : (state : StreamState) (unit_place : UnitPlace) (rest : Rest) (p : PictureText) (now : Option SequenceText) → IsAt now state
    → (follows state unit_place rest (picture_step state state.opened p.code p.payload)).end ≡ None → IsOpen now
unfolding IsAt IsOpen
picture_open state unit_place rest p None i none =
    let refused = subst (λ (o : Option Opened). (follows state unit_place rest (picture_step state o p.code p.payload)).end ≡ None) i.opened none in
    absurd cc
picture_open state unit_place rest p (Some t) i none = tt

-- ---- what each unit brings

pub step_header : (state : StreamState) (code : ℕ) (payload : List ℕ) → code ≡ 0x00 → unit_step state code payload ≡ header_step state state.opened payload
unfolding unit_step
step_header state code payload is = ap (λ n. if fields_are_read n then content state n payload else Ok (passed state n)) is

pub step_picture : (state : StreamState) (code : ℕ) (payload : List ℕ) → IsPictureCode code → unit_step state code payload ≡ picture_step state state.opened code payload
unfolding unit_step
step_picture state code payload is =
    ap (λ (b : Bool). if b then content state code payload else Ok (passed state code)) is.read
    ∙ ap (λ (b : Bool). if b then header_step state state.opened payload else picture_step state state.opened code payload) is.other

pub step_other : (state : StreamState) (code : ℕ) (payload : List ℕ) → fields_are_read code ≡ false → (code == 0x10) ≡ false → unit_step state code payload ≡ Ok (staying state)
unfolding unit_step
step_other state code payload fields end =
    ap (λ (b : Bool). if b then content state code payload else Ok (passed state code)) fields
    ∙ ap (λ (b : Bool). Ok (if b then ended state else staying state)) end

-- the units behind one, as its content leads on
abbrev pub rest_behind : UnitPlace → UnitText → List UnitText → Rest
rest_behind unit_place u units = λ next. outcome next (after unit_place u.info) units None

-- the outcome by what the first unit brings
by_step : (state : StreamState) (unit_place : UnitPlace) (u : UnitText) (units : List UnitText) (now now' : Option SequenceText) (front : List Picture) (r : Result StreamStep Refusal)
    → unit_step state u.info.code u.payload ≡ r → GoesBy state unit_place (rest_behind unit_place u units) now now' front r
    → (outcome state unit_place (u ∷ units) None).end ≡ None → Goes now now' front (rest_behind unit_place u units) (outcome state unit_place (u ∷ units) None)
unfolding outcome
by_step state unit_place u units now now' front r is by =
    subst (λ (x : Result StreamStep Refusal). GoesBy state unit_place (rest_behind unit_place u units) now now' front x) (sym is) by

-- this unit is passed, where no fault follows
abbrev pub Passing : StreamState → UnitPlace → UnitText → List UnitText → Option SequenceText → Option SequenceText → List Picture → Type 0
Passing state unit_place u units now now' front =
    IsAt now state → (outcome state unit_place (u ∷ units) None).end ≡ None → Goes now now' front (rest_behind unit_place u units) (outcome state unit_place (u ∷ units) None)

pub pass_header : (state : StreamState) (unit_place : UnitPlace) (u : UnitText) (units : List UnitText) (now : Option SequenceText) → u.info.code ≡ 0x00
    → Passing state unit_place u units now (opened_by now u.payload) []
pass_header state unit_place u units now is i =
    by_step state unit_place u units now (opened_by now u.payload) [] (header_step state state.opened u.payload) (step_header state u.info.code u.payload is)
    (header_goes state unit_place (rest_behind unit_place u units) u.payload now i)

pub pass_end : (state : StreamState) (unit_place : UnitPlace) (u : UnitText) (units : List UnitText) (now : Option SequenceText) → u.info.code ≡ 0x10
    → Passing state unit_place u units now None (all_shown (closed_off now))
pass_end state unit_place u units now is i =
    by_step state unit_place u units now None (all_shown (closed_off now)) (Ok (ended state)) (end_moves state u.info.code u.payload is)
    (end_goes state unit_place (rest_behind unit_place u units) now i)

pub pass_picture : (state : StreamState) (unit_place : UnitPlace) (u : UnitText) (units : List UnitText) (now : Option SequenceText) (index points : ℕ) → IsPictureCode u.info.code
    → Passing state unit_place u units now (with_picture_text now (picture_text_at index points u)) []
pass_picture state unit_place u units now index points is i =
    let p = picture_text_at index points u in
    by_step state unit_place u units now (with_picture_text now p) [] (picture_step state state.opened u.info.code u.payload) (step_picture state u.info.code u.payload is)
    (picture_goes state unit_place (rest_behind unit_place u units) p now i)

pub pass_open : (state : StreamState) (unit_place : UnitPlace) (u : UnitText) (units : List UnitText) (now : Option SequenceText) → IsPictureCode u.info.code
    → IsAt now state → (outcome state unit_place (u ∷ units) None).end ≡ None → IsOpen now
unfolding outcome
pass_open state unit_place u units now is i =
    let rest = rest_behind unit_place u units in
    subst (λ (r : Result StreamStep Refusal). (follows state unit_place rest r).end ≡ None → IsOpen now) (sym (step_picture state u.info.code u.payload is))
    (picture_open state unit_place rest (picture_text_at 0 0 u) now i)

pub pass_other : (state : StreamState) (unit_place : UnitPlace) (u : UnitText) (units : List UnitText) (now : Option SequenceText) → (u.info.code == 0x10) ≡ false → fields_are_read u.info.code ≡ false
    → Passing state unit_place u units now now []
pass_other state unit_place u units now not_end fields i =
    by_step state unit_place u units now now [] (Ok (staying state)) (step_other state u.info.code u.payload fields not_end)
    (λ none. record { later = state; at = i; none = none; shown = refl })

-- ---- all units

-- sequences that are read and shown from there on
record Walks (now : Option SequenceText) (texts : List SequenceText) (shown : List Picture) : Type 0 where
  pub each : AllByRecursion IsRead texts
  pub shows : all_shown texts ≡ gone_of now ++ shown

closed_read : (now : Option SequenceText) (state : StreamState) → IsAt now state → AllByRecursion IsRead (closed_off now)
unfolding IsAt
closed_read None state i = tt
closed_read (Some t) state i = (is_read i.0 t state i.1, tt)

last_walk : (state : StreamState) (now : Option SequenceText) → IsAt now state → all_shown (closed_off now) ≡ gone_of now ++ flushed state.waiting
unfolding IsAt gone_of
last_walk state None i = ap flushed (sym i.waiting)
last_walk state (Some t) i =
    append-nil (sequence_shown t) ∙ shown_is i.0 t i.1.header
    ∙ ap₂ (λ (g : List Picture) (ws : List Waiting). g ++ flushed ws) (sym (gone_is i.0 t i.1.header)) (sym i.1.waits)

-- a unit that leaves the sequences as they are
walk_on : (now now' : Option SequenceText) (texts texts' : List SequenceText) (rest : Rest) (o : Outcome) (g : Goes now now' [] rest o) → texts ≡ texts' → Walks now' texts' (rest g.later).shown → Walks now texts o.shown
walk_on now now' texts texts' rest o g same w =
    subst (λ (x : List SequenceText). Walks now x o.shown) (sym same) (record { each = w.each; shows = w.shows ∙ sym g.shown })

-- a unit that ends the open one
walk_end : (state : StreamState) (now : Option SequenceText) (texts texts' : List SequenceText) (rest : Rest) (o : Outcome) (g : Goes now None (all_shown (closed_off now)) rest o) → IsAt now state
    → texts ≡ closed_off now ++ texts' → Walks None texts' (rest g.later).shown → Walks now texts o.shown
walk_end state now texts texts' rest o g i same w =
    subst (λ (x : List SequenceText). Walks now x o.shown) (sym same) (record {
      each = each_append IsRead (closed_off now) texts' (closed_read now state i) w.each;
      shows = flat_map-append sequence_shown (closed_off now) texts' ∙ ap (λ l. all_shown (closed_off now) ++ l) w.shows ∙ sym g.shown;
    })

walk : (units : List UnitText) (state : StreamState) (unit_place : UnitPlace) (index points : ℕ) (now : Option SequenceText) → IsAt now state → (outcome state unit_place units None).end ≡ None
    → Walks now (sequences_from index points now units) (outcome state unit_place units None).shown
unfolding outcome sequences_from
walk [] state unit_place index points now i none = record { each = closed_read now state i; shows = last_walk state now i }
walk (u ∷ units) state unit_place index points now i none =
    let texts = sequences_from index points now (u ∷ units) in
    let o = outcome state unit_place (u ∷ units) None in
    let rest = rest_behind unit_place u units in
    let place = after unit_place u.info in
    elim (kind_of u.info.code) [
      | of_header is ↦
          let next = opened_by now u.payload in
          let g = pass_header state unit_place u units now is i none in
          walk_on now next texts (sequences_from (suc index) points next units) rest o g (behind_header index points now u units is) (walk units g.later place (suc index) points next g.at g.none)
      | of_end is ↦
          let g = pass_end state unit_place u units now is i none in
          walk_end state now texts (sequences_from (suc index) points None units) rest o g i (behind_end index points now u units is) (walk units g.later place (suc index) points None g.at g.none)
      | of_picture a b c is ↦
          let up_to = points_up_to points u in
          let next = with_picture_text now (picture_text_at index up_to u) in
          let g = pass_picture state unit_place u units now index up_to is i none in
          walk_on now next texts (sequences_from (suc index) up_to next units) rest o g (behind_picture index points now u units a b c) (walk units g.later place (suc index) up_to next g.at g.none)
      | of_other a b c d ↦
          let g = pass_other state unit_place u units now b d i none in
          walk_on now now texts (sequences_from (suc index) points now units) rest o g (behind_other index points now u units a b c) (walk units g.later place (suc index) points now g.at g.none)
    ]

pub at_start : IsAt None stream_begun
unfolding IsAt
at_start = record { opened = refl; first = refl; list = refl; waiting = refl }

-- the law
pub units_shown : UnitsShowTheirSequences
unfolding gone_of
units_shown units none =
    let w = walk units stream_begun first_unit_place 0 0 None at_start none in
    (w.each, sym w.shows)
