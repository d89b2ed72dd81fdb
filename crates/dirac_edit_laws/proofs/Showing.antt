-- The units of sequences that are read show these sequences.
use Rattle.std.proofs.Common.{◌≡◌, ℕ, ◌+◌, List, [], ◌∷◌, ◌++◌, length, None, Ok, refl, sym, ◌∙◌, ap, ap₂, subst, append_assoc, append-nil}
use Rattle.std.specs.List.{AllByRecursion}
use Rattle.dirac_common.specs.declared.picture.Picture.{Picture}
use Rattle.dirac_sequence_header.specs.declared.sequence.Sequence.{Sequence}
use Rattle.dirac_sequence_header.specs.Grammar.{sequence_read}
use Rattle.dirac_units.specs.declared.unit_place.UnitPlace.{UnitPlace}
use Rattle.dirac_units.specs.Cut.{UnitText, after}
use Rattle.dirac_refs.specs.declared.waiting.Waiting.{Waiting}
use Rattle.dirac_refs.specs.Delivery.{flushed}
use Rattle.dirac_picture.specs.declared.coded.CodedPicture.{CodedPicture}
use Rattle.dirac_picture.specs.Grammar.{picture_read}
use Rattle.dirac_plan_laws.specs.Headers.{IsPictureCode}
use Rattle.dirac_content.specs.declared.opened.Opened.{Opened}
use Rattle.dirac_content.specs.Content.{rebuilt}
use Rattle.dirac_content.specs.Sequences.{IsBetween}
use Rattle.dirac_content.specs.Shown.{Outcome, outcome}
use Rattle.dirac_content.specs.StreamState.{StreamState, ended, header_step, shown_or_refused, opening, picture_step, shows, staying, unit_step}
use Rattle.dirac_encode_laws.proofs.Showing.{outcome_more}
use Rattle.dirac_edit_laws.specs.Rebuilt.{AreRead, IsRead, all_shown, rebuilt_from, sequence_shown}
use Rattle.dirac_edit_laws.specs.Texts.{PictureText, SequenceText}
use Rattle.dirac_edit_laws.specs.Units.{end_for, pictures_units, sequences_units, text_for}
use Rattle.dirac_edit_laws.proofs.Cutting.{FitsPicture, FitsSequence}
use Rattle.dirac_edit_laws.proofs.Walking.{IsIn, bare_text, closed_state, fresh, fresh_inside, left_of, longer, moves, shown_is, step_header, step_picture}
use Rattle.dirac_content.proofs.Flushing.{end_moves}

-- these pictures come out, and no fault
pub record Shows (o : Outcome) (pictures : List Picture) : Type 0 where
  pub shown : o.shown ≡ pictures
  pub none : o.end ≡ None

-- with those that left already
record ShowsBehind (o : Outcome) (gone pictures : List Picture) : Type 0 where
  pub shown : gone ++ o.shown ≡ pictures
  pub none : o.end ≡ None

-- the units behind an end unit
abbrev FollowsAs : List UnitText → List Picture → Type 0
FollowsAs rest pictures = (next : UnitPlace) (later : StreamState) → IsBetween later → Shows (outcome later next rest None) pictures

-- the open sequence with more pictures
abbrev with_more : SequenceText → List PictureText → SequenceText
with_more t pictures = record { header = t.header; pictures = t.pictures ++ pictures }

end_shown : (s : Sequence) (t : SequenceText) (previous : ℕ) (unit_place : UnitPlace) (state : StreamState) (rest : List UnitText) (pictures : List Picture) → IsIn s t state → FollowsAs rest pictures
    → ShowsBehind (outcome state unit_place (end_for previous ∷ rest) None) (left_of s t).gone (sequence_shown t ++ pictures)
end_shown s t previous unit_place state rest pictures i more =
    let u = end_for previous in
    let left = left_of s t in
    let later = more (after unit_place u.info) (ended state).state (closed_state state) in
    let step = outcome_more state unit_place u rest (ended state) (end_moves state u.info.code u.payload refl) in
    record {
      shown =
          ap (λ (o : Outcome). left.gone ++ o.shown) step
          ∙ ap₂ (λ (ws : List Waiting) (ps : List Picture). left.gone ++ (flushed ws ++ ps)) i.waits later.shown
          ∙ sym (append_assoc left.gone (flushed left.waiting) pictures)
          ∙ ap (λ l. l ++ pictures) (sym (shown_is s t i.header));
      none = ap (λ (o : Outcome). o.end) step ∙ later.none;
    }

-- a picture of the open sequence
reads : (s : Sequence) (t : SequenceText) (state : StreamState) (code : ℕ) (payload : List ℕ) (coded : CodedPicture) → IsIn s t state → IsPictureCode code → picture_read code s state.list payload ≡ Ok coded
    → unit_step state code payload ≡ Ok (shows state coded (rebuilt s state.list coded))
reads s t state code payload coded i code_is is =
    let o : Opened = record { header = t.header; sequence = s } in
    step_picture state code payload code_is ∙ ap (λ x. picture_step state x code payload) i.opened ∙ ap (shown_or_refused state o) is

pictures_shown : (pictures : List PictureText) (s : Sequence) (t : SequenceText) (previous : ℕ) (unit_place : UnitPlace) (state : StreamState) (rest : List UnitText) (others : List Picture)
    → IsIn s t state → AreRead s state.list pictures → AllByRecursion FitsPicture pictures → FollowsAs rest others
    → ShowsBehind (outcome state unit_place (pictures_units previous pictures rest) None) (left_of s t).gone (sequence_shown (with_more t pictures) ++ others)
unfolding AreRead pictures_units
pictures_shown [] s t previous unit_place state rest others i all fits more =
    subst (λ (ps : List PictureText). ShowsBehind (outcome state unit_place (end_for previous ∷ rest) None) (left_of s t).gone (sequence_shown (record { header = t.header; pictures = ps }) ++ others)) (sym (append-nil t.pictures))
    (end_shown s t previous unit_place state rest others i more)
pictures_shown (p ∷ pictures) s t previous unit_place state rest others i all fits more =
    let coded = all.0 in
    let u = text_for p.code previous p.payload in
    let m = shows state coded (rebuilt s state.list coded) in
    let length_of = 13 + length p.payload in
    let step = moves s t p state coded i all.1 in
    let units = pictures_units length_of pictures rest in
    let place = after unit_place u.info in
    let later = pictures_shown pictures s (longer t p) length_of place m.state rest others step.inside all.2 fits.1 more in
    let one = outcome_more state unit_place u units m (reads s t state p.code p.payload coded i fits.0.code all.1) in
    let shown = (outcome m.state place units None).shown in
    record {
      shown =
          ap (λ (o : Outcome). (left_of s t).gone ++ o.shown) one
          ∙ sym (append_assoc (left_of s t).gone m.gone shown)
          ∙ ap (λ g. g ++ shown) (sym step.gone)
          ∙ later.shown
          ∙ ap (λ ps. sequence_shown (record { header = t.header; pictures = ps }) ++ others) (append_assoc t.pictures (p ∷ []) pictures);
      none = ap (λ (o : Outcome). o.end) one ∙ later.none;
    }

opens : (state : StreamState) (payload : List ℕ) (s : Sequence) → IsBetween state → sequence_read payload ≡ Ok s → unit_step state 0x00 payload ≡ Ok (staying (fresh state payload s))
opens state payload s i is = step_header state 0x00 payload refl ∙ ap (λ o. header_step state o payload) i.opened ∙ ap (opening state payload) is

nothing_left : (s : Sequence) (payload : List ℕ) → (left_of s (bare_text payload)).gone ≡ []
unfolding rebuilt_from
nothing_left s payload = refl

pub sequences_shown : (ts : List SequenceText) (previous : ℕ) (unit_place : UnitPlace) (state : StreamState) → IsBetween state → AllByRecursion IsRead ts → AllByRecursion FitsSequence ts
    → Shows (outcome state unit_place (sequences_units previous ts) None) (all_shown ts)
unfolding sequences_units outcome
sequences_shown [] previous unit_place state i all fits = record { shown = ap flushed i.waiting; none = refl }
sequences_shown (t ∷ ts) previous unit_place state i all fits =
    let s = all.0.sequence in
    let u = text_for 0x00 previous t.header in
    let next = fresh state t.header s in
    let units = pictures_units (13 + length t.header) t.pictures (sequences_units 13 ts) in
    let read : AreRead s next.list t.pictures = subst (λ l. AreRead s l t.pictures) (sym i.list) all.0.pictures in
    let inside = fresh_inside state t.header s i all.0.header in
    let place = after unit_place u.info in
    let later = pictures_shown t.pictures s (bare_text t.header) (13 + length t.header) place next (sequences_units 13 ts) (all_shown ts) inside read fits.0.pictures
    (λ place' later i'. sequences_shown ts 13 place' later i' all.1 fits.1) in
    let step = outcome_more state unit_place u units (staying next) (opens state t.header s i all.0.header) in
    let shown = (outcome next place units None).shown in
    record {
      shown = ap (λ (o : Outcome). o.shown) step ∙ ap (λ g. g ++ shown) (sym (nothing_left s t.header)) ∙ later.shown;
      none = ap (λ (o : Outcome). o.end) step ∙ later.none;
    }
