-- Where bytes show the same pictures as longer ones, all bytes between them do.
use Rattle.std.proofs.Common.{◌≡◌, ◌∙◌, ◌⊎◌, inl, inr, ℕ, zero, suc, ◌+◌, ◌-◌, ◌≤◌, ◌<◌, ◌==◌, nat_le, Bool, true, false, if◌then◌else◌, List, [], ◌∷◌, ◌++◌, length, take, drop, slice_range, Option, None, Some, Result, Ok, Err, refl, sym, ap, subst, arith, append_assoc, append-nil, length-append, length-drop}
use Rattle.std.specs.Prelude.{slice_get}
use Rattle.std.proofs.lemmas.Bool.{leb-false}
use Rattle.std.proofs.lemmas.List.{append_cancel_left, drop-append-le, take-append-le}
use Rattle.std.proofs.lemmas.List.Edits.{length-remove}
use Rattle.dirac_common.specs.declared.faults.Fault.{Fault}
use Rattle.dirac_common.specs.declared.faults.Refusal.{Refusal}
use Rattle.dirac_common.specs.declared.faults.Cause.TheVariants.{SequenceChanged}
use Rattle.dirac_common.specs.declared.picture.Picture.{Picture}
use Rattle.dirac_units.specs.declared.info.ParseInfo.{ParseInfo}
use Rattle.dirac_units.specs.declared.unit_place.UnitPlace.{UnitPlace}
use Rattle.dirac_units.specs.Cut.{EachHasACut, IsCut, UnitText, after, first_unit_place, front_of}
use Rattle.dirac_units.specs.Info.{fields_are_read, span_of}
use Rattle.dirac_units.proofs.Fronts.{err_is_no_ok, front_more, front_whole, ok_same}
use Rattle.dirac_sequence_header.specs.declared.sequence.Sequence.{Sequence}
use Rattle.dirac_sequence_header.specs.Grammar.{sequence_read}
use Rattle.dirac_refs.specs.declared.waiting.Waiting.{Waiting}
use Rattle.dirac_refs.specs.Delivery.{Leaving, delivered, flushed, flushed_by, key_of, least, least_place, others, picture_of}
use Rattle.dirac_refs.proofs.Least.{leaves_first}
use Rattle.dirac_picture.specs.declared.coded.CodedPicture.{CodedPicture}
use Rattle.dirac_picture.specs.Grammar.{picture_read}
use Rattle.dirac_content.specs.declared.opened.Opened.{Opened}
use Rattle.dirac_content.specs.Content.{rebuilt}
use Rattle.dirac_content.specs.Shown.{IsShown, Outcome, follows, outcome}
use Rattle.dirac_content.specs.StreamState.{StreamState, StreamStep, ended, first_or, header_step, is_same, opening, picture_step, shown_or_refused, shows, staying, stream_begun, unit_step}

-- ---- what leaves, counted

some_at : (ws : List Waiting) (n : ℕ) → n < length ws → length (picture_of (slice_get ws n)) ≡ 1
some_at [] n inside = absurd (omega arith)
some_at (w ∷ ws) zero inside = refl
some_at (w ∷ ws) (suc n) inside = some_at ws n (omega arith)

one_leaves : (ws : List Waiting) → 0 < length ws → length (least ws) ≡ 1
one_leaves ws some = some_at ws (least_place ws) (leaves_first ws some).waits

flushed_length : (n : ℕ) (ws : List Waiting) → length ws ≡ n → length (flushed_by n ws) ≡ n
flushed_length zero ws e = refl
flushed_length (suc n) ws e =
    let some : 0 < length ws = omega (arith, e) in
    let fewer = length-remove ws (least_place ws) (leaves_first ws some).waits in
    let rest = flushed_length n (others ws) (omega (arith, fewer, e)) in
    omega (arith, length-append (least ws) (flushed_by n (others ws)), one_leaves ws some, rest)

all_leave : (ws : List Waiting) → length (flushed ws) ≡ length ws
all_leave ws = flushed_length (length ws) ws refl

abbrev left_from : Bool → List Waiting → Leaving
left_from b ws = if b then record { waiting = ws; gone = [] } else record { waiting = others ws; gone = least ws }

left_length : (ws : List Waiting) (b : Bool) → nat_le (length ws) 4 ≡ b → length (left_from b ws).gone + length (left_from b ws).waiting ≡ length ws
left_length ws true is = omega arith
left_length ws false is =
    let many = leb-false (length ws) 4 is in
    let some : 0 < length ws = omega (arith, many) in
    let fewer = length-remove ws (least_place ws) (leaves_first ws some).waits in
    omega (arith, fewer, one_leaves ws some)

-- where a picture is pushed, it waits or one leaves
pushed_length : (ws : List Waiting) (w : Waiting) → length (delivered (ws ++ w ∷ [])).gone + length (delivered (ws ++ w ∷ [])).waiting ≡ length ws + 1
pushed_length ws w =
    let whole : length (delivered (ws ++ w ∷ [])).gone + length (delivered (ws ++ w ∷ [])).waiting ≡ length (ws ++ w ∷ []) =
    left_length (ws ++ w ∷ []) (nat_le (length (ws ++ w ∷ [])) 4) refl in
    omega (arith, whole, length-append ws (w ∷ []))

-- ---- the content of a unit: one picture more, or just those that wait are to come

abbrev StaysOrGains : StreamState → StreamStep → Type 0
StaysOrGains state m =
    (m.gone ++ flushed m.state.waiting ≡ flushed state.waiting) ⊎ (length state.waiting + 1 ≤ length m.gone + length m.state.waiting)

stays : (state next : StreamState) (m : StreamStep) → staying next ≡ m → next.waiting ≡ state.waiting → StaysOrGains state m
stays state next m same waits =
    inl (subst (λ (x : StreamStep). x.gone ++ flushed x.state.waiting ≡ flushed state.waiting) same (ap flushed waits))

end_stays : (state : StreamState) (m : StreamStep) → ended state ≡ m → StaysOrGains state m
end_stays state m same =
    inl (subst (λ (x : StreamStep). x.gone ++ flushed x.state.waiting ≡ flushed state.waiting) same (append-nil (flushed state.waiting)))

made_gains : (state : StreamState) (o : Opened) (r : Result CodedPicture Refusal) (m : StreamStep) → shown_or_refused state o r ≡ Ok m → StaysOrGains state m
made_gains state o (Err refusal) m is = absurd cc
made_gains state o (Ok coded) m is =
    let p = rebuilt o.sequence state.list coded in
    let s = shows state coded p in
    let same : s ≡ m = cc in
    let count : length s.gone + length s.state.waiting ≡ length state.waiting + 1 =
    pushed_length state.waiting (record { key = key_of (first_or state.first p.number) p.number; picture = p }) in
    inr (subst (λ (x : StreamStep). length state.waiting + 1 ≤ length x.gone + length x.state.waiting) same (omega (arith, count)))

picture_gains : (state : StreamState) (o : Option Opened) (code : ℕ) (payload : List ℕ) (m : StreamStep) → picture_step state o code payload ≡ Ok m → StaysOrGains state m
picture_gains state None code payload m is = absurd cc
picture_gains state (Some o) code payload m is = made_gains state o (picture_read code o.sequence state.list payload) m is

opening_stays : (state : StreamState) (payload : List ℕ) (r : Result Sequence Refusal) (m : StreamStep) → opening state payload r ≡ Ok m → StaysOrGains state m
opening_stays state payload (Ok s) m is =
    let next : StreamState = record state { opened = Some (record { header = payload; sequence = s }); first = None } in
    let same : staying next ≡ m = cc in
    stays state next m same refl
opening_stays state payload (Err refusal) m is = absurd cc

abbrev changed : Refusal
changed = record { at = 0; cause = SequenceChanged }

repeat_stays : (state : StreamState) (same : Bool) (m : StreamStep) → (if same then Ok (staying state) else Err changed) ≡ Ok m → StaysOrGains state m
repeat_stays state true m is = let same : staying state ≡ m = cc in stays state state m same refl
repeat_stays state false m is = absurd cc

header_stays : (state : StreamState) (o : Option Opened) (payload : List ℕ) (m : StreamStep) → header_step state o payload ≡ Ok m → StaysOrGains state m
header_stays state None payload m is = opening_stays state payload (sequence_read payload) m is
header_stays state (Some o) payload m is = repeat_stays state (is_same payload o.header) m is

unit_chosen : (state : StreamState) (code : ℕ) (payload : List ℕ) (m : StreamStep) (fields header end : Bool)
    → (if fields then (if header then header_step state state.opened payload else picture_step state state.opened code payload) else Ok (if end then ended state else staying state)) ≡ Ok m
    → StaysOrGains state m
unit_chosen state code payload m true true end is = header_stays state state.opened payload m is
unit_chosen state code payload m true false end is = picture_gains state state.opened code payload m is
unit_chosen state code payload m false header true is = let same : ended state ≡ m = cc in end_stays state m same
unit_chosen state code payload m false header false is = let same : staying state ≡ m = cc in stays state state m same refl

unit_stays_or_gains : (state : StreamState) (code : ℕ) (payload : List ℕ) (m : StreamStep) → unit_step state code payload ≡ Ok m → StaysOrGains state m
unfolding unit_step
unit_stays_or_gains state code payload m is = unit_chosen state code payload m (fields_are_read code) (code == 0x00) (code == 0x10) is

-- ---- at least those that wait are shown

at_least_on : (unit : UnitText) (units : List UnitText) (state : StreamState) (unit_place : UnitPlace) (end : Option Fault) (r : Result StreamStep Refusal) → unit_step state unit.info.code unit.payload ≡ r
    → ((next : StreamState) → length next.waiting ≤ length (outcome next (after unit_place unit.info) units end).shown)
    → length state.waiting ≤ length (follows state unit_place (λ next. outcome next (after unit_place unit.info) units end) r).shown
at_least_on unit units state unit_place end (Err refusal) is later = omega (arith, all_leave state.waiting)
at_least_on unit units state unit_place end (Ok m) is later =
    let rest = (outcome m.state (after unit_place unit.info) units end).shown in
    let behind : length m.state.waiting ≤ length rest = later m.state in
    elim (unit_stays_or_gains state unit.info.code unit.payload m is) [
      | inl same ↦ omega (arith, ap length same, length-append m.gone (flushed m.state.waiting), all_leave m.state.waiting, all_leave state.waiting, behind, length-append m.gone rest)
      | inr more ↦ omega (arith, more, behind, length-append m.gone rest)
    ]

at_least : (units : List UnitText) (state : StreamState) (unit_place : UnitPlace) (end : Option Fault) → length state.waiting ≤ length (outcome state unit_place units end).shown
unfolding outcome
at_least [] state unit_place end = omega (arith, all_leave state.waiting)
at_least (unit ∷ units) state unit_place end =
    at_least_on unit units state unit_place end (unit_step state unit.info.code unit.payload) refl (λ next. at_least units next (after unit_place unit.info) end)

-- ---- where no more than those are shown, each front of the units shows just those

still_on : (unit : UnitText) (units more : List UnitText) (state : StreamState) (unit_place : UnitPlace) (end end' : Option Fault) (r : Result StreamStep Refusal) → unit_step state unit.info.code unit.payload ≡ r
    → length (follows state unit_place (λ next. outcome next (after unit_place unit.info) (units ++ more) end') r).shown ≤ length state.waiting
    → ((next : StreamState) → length (outcome next (after unit_place unit.info) (units ++ more) end').shown ≤ length next.waiting → (outcome next (after unit_place unit.info) units end).shown ≡ flushed next.waiting)
    → (follows state unit_place (λ next. outcome next (after unit_place unit.info) units end) r).shown ≡ flushed state.waiting
still_on unit units more state unit_place end end' (Err refusal) is few later = refl
still_on unit units more state unit_place end end' (Ok m) is few later =
    let rest = (outcome m.state (after unit_place unit.info) (units ++ more) end').shown in
    let whole = length-append m.gone rest in
    elim (unit_stays_or_gains state unit.info.code unit.payload m is) [
      | inl same ↦
          let fewer : length rest ≤ length m.state.waiting =
          omega (arith, few, whole, ap length same, length-append m.gone (flushed m.state.waiting), all_leave m.state.waiting, all_leave state.waiting) in
          ap (λ (ps : List Picture). m.gone ++ ps) (later m.state fewer) ∙ same
      | inr gains ↦ absurd (omega (arith, few, whole, gains, at_least (units ++ more) m.state (after unit_place unit.info) end'))
    ]

still : (units more : List UnitText) (state : StreamState) (unit_place : UnitPlace) (end end' : Option Fault) → length (outcome state unit_place (units ++ more) end').shown ≤ length state.waiting → (outcome state unit_place units end).shown ≡ flushed state.waiting
unfolding outcome
still [] more state unit_place end end' few = refl
still (unit ∷ units) more state unit_place end end' few =
    still_on unit units more state unit_place end end' (unit_step state unit.info.code unit.payload) refl few
    (λ next fewer. still units more next (after unit_place unit.info) end end' fewer)

-- ---- units between a front that shows the same pictures and the whole

between_on : (unit : UnitText) (units more last : List UnitText) (state : StreamState) (unit_place : UnitPlace) (end end' end'' : Option Fault) (r : Result StreamStep Refusal)
    → (follows state unit_place (λ next. outcome next (after unit_place unit.info) units end) r).shown ≡ (follows state unit_place (λ next. outcome next (after unit_place unit.info) (units ++ (more ++ last)) end'') r).shown
    → ((next : StreamState) → (outcome next (after unit_place unit.info) units end).shown ≡ (outcome next (after unit_place unit.info) (units ++ (more ++ last)) end'').shown → (outcome next (after unit_place unit.info) (units ++ more) end').shown ≡ (outcome next (after unit_place unit.info) units end).shown)
    → (follows state unit_place (λ next. outcome next (after unit_place unit.info) (units ++ more) end') r).shown ≡ (follows state unit_place (λ next. outcome next (after unit_place unit.info) units end) r).shown
between_on unit units more last state unit_place end end' end'' (Err refusal) same later = refl
between_on unit units more last state unit_place end end' end'' (Ok m) same later =
    ap (λ (ps : List Picture). m.gone ++ ps) (later m.state (append_cancel_left m.gone (outcome m.state (after unit_place unit.info) units end).shown (outcome m.state (after unit_place unit.info) (units ++ (more ++ last)) end'').shown same))

between : (units more last : List UnitText) (state : StreamState) (unit_place : UnitPlace) (end end' end'' : Option Fault) → (outcome state unit_place units end).shown ≡ (outcome state unit_place (units ++ (more ++ last)) end'').shown → (outcome state unit_place (units ++ more) end').shown ≡ (outcome state unit_place units end).shown
unfolding outcome
between [] more last state unit_place end end' end'' same =
    still more last state unit_place end' end'' (omega (arith, ap length same, all_leave state.waiting))
between (unit ∷ units) more last state unit_place end end' end'' same =
    between_on unit units more last state unit_place end end' end'' (unit_step state unit.info.code unit.payload) same
    (λ next is. between units more last next (after unit_place unit.info) end end' end'' is)

-- ---- the units of bytes come first among those of longer ones

same_unit : (u v : UnitText) → u.info ≡ v.info → u.payload ≡ v.payload → u ≡ v
same_unit u v is_info is_payload =
    let make : ParseInfo → List ℕ → UnitText = λ i p. record { info = i; payload = p } in
    ap (λ i. make i u.payload) is_info ∙ ap (λ p. make v.info p) is_payload

same_cons : {A : Type 0} (x y : A) (xs ys : List A) → x ≡ y → xs ≡ ys → (x ∷ xs) ≡ (y ∷ ys)
same_cons x y xs ys p q = cc

units_first : (units : List UnitText) (unit_place : UnitPlace) (bytes more : List ℕ) (end : Option Fault) (units' : List UnitText) (end' : Option Fault) → IsCut unit_place bytes units end → IsCut unit_place (bytes ++ more) units' end' → (later : List UnitText) × (units' ≡ units ++ later)
units_first [] unit_place bytes more end units' end' cut cut' = (units', refl)
units_first (u ∷ us) unit_place bytes more end [] end' cut cut' =
    absurd (err_is_no_ok (front_of unit_place (bytes ++ more)) u.info end' cut' (front_more unit_place bytes more u.info cut.0))
units_first (u ∷ us) unit_place bytes more end (v ∷ vs) end' cut cut' =
    let span = span_of u.info in
    let whole = front_whole unit_place bytes u.info cut.0 in
    let info : v.info ≡ u.info = ok_same (front_of unit_place (bytes ++ more)) v.info u.info cut'.0 (front_more unit_place bytes more u.info cut.0) in
    let part : slice_range (bytes ++ more) 13 span ≡ slice_range bytes 13 span =
    ap (take (span - 13)) (drop-append-le 13 bytes more whole.0) ∙ take-append-le (span - 13) (drop 13 bytes) more (omega (arith, length-drop 13 bytes, whole.2)) in
    let payload : v.payload ≡ u.payload =
    cut'.1 ∙ ap (λ (i : ParseInfo). slice_range (bytes ++ more) 13 (span_of i)) info ∙ part ∙ sym cut.1 in
    let behind : IsCut (after unit_place u.info) (drop span bytes ++ more) vs end' =
    subst (λ (l : List ℕ). IsCut (after unit_place u.info) l vs end') (drop-append-le span bytes more whole.2)
    (subst (λ (i : ParseInfo). IsCut (after unit_place i) (drop (span_of i) (bytes ++ more)) vs end') info cut'.2) in
    let later = units_first us (after unit_place u.info) (drop span bytes) more end vs end' cut.2 behind in
    (later.0, same_cons v u vs (us ++ later.0) (same_unit v u info payload) later.1)

-- ---- bytes

pub shown_between : (read more last : List ℕ) (o o' : Outcome) → EachHasACut → IsShown read o → IsShown (read ++ (more ++ last)) o' → o.shown ≡ o'.shown → (m : Outcome) × IsShown (read ++ more) m × (m.shown ≡ o.shown)
shown_between read more last o o' cuts s s' same =
    let mid : (units : List UnitText) × (end : Option Fault) × IsCut first_unit_place (read ++ more) units end = cuts first_unit_place (read ++ more) in
    let all : IsCut first_unit_place ((read ++ more) ++ last) s'.units s'.end =
    subst (λ (l : List ℕ). IsCut first_unit_place l s'.units s'.end) (sym (append_assoc read more last)) s'.cut in
    let one = units_first s.units first_unit_place read more s.end mid.0 mid.1 s.cut mid.2 in
    let two = units_first mid.0 first_unit_place (read ++ more) last mid.1 s'.units s'.end mid.2 all in
    let whole : s'.units ≡ s.units ++ (one.0 ++ two.0) =
    two.1 ∙ ap (λ (us : List UnitText). us ++ two.0) one.1 ∙ append_assoc s.units one.0 two.0 in
    let shown : List UnitText → Option Fault → List Picture = λ us e. (outcome stream_begun first_unit_place us e).shown in
    let first : shown s.units s.end ≡ o.shown = ap (λ (x : Outcome). x.shown) s.same in
    let ends : shown s.units s.end ≡ shown (s.units ++ (one.0 ++ two.0)) s'.end =
    first ∙ same ∙ sym (ap (λ (x : Outcome). x.shown) s'.same) ∙ ap (λ us. shown us s'.end) whole in (
      outcome stream_begun first_unit_place mid.0 mid.1,
      record { units = mid.0; end = mid.1; cut = mid.2; same = refl },
      ap (λ us. shown us mid.1) one.1 ∙ between s.units one.0 two.0 stream_begun first_unit_place s.end mid.1 s'.end ends ∙ first,
    )
