-- The cut of a stream shows the part's pictures as the whole stream rebuilds them.
use Rattle.std.proofs.Common.{◌≡◌, ◌==◌, ◌<◌, ◌≤◌, ◌+◌, inl, inr, ◌||◌, if◌then◌else◌, Bool, true, false, ℕ, suc, List, [], ◌∷◌, ◌++◌, length, map, Option, None, Some, nat_lt, nat_le, refl, sym, ◌∙◌, ap, subst, arith, length-append}
use Rattle.std.specs.List.{AllByRecursion, filter}
use Rattle.std.proofs.lemmas.Bool.{cases_Bool, leb-false, leb-true, lt-ltb, or_left, or_parts}
use Rattle.std.proofs.lemmas.List.{map-append}
use Rattle.std.proofs.lemmas.List.Elements.{filter-append}
use Rattle.dirac_common.specs.declared.picture.Picture.{Picture}
use Rattle.dirac_units.specs.declared.unit_place.UnitPlace.{UnitPlace}
use Rattle.dirac_common.specs.Codes.{is_intra}
use Rattle.dirac_units.specs.Cut.{UnitText, after, first_unit_place}
use Rattle.dirac_units.specs.Info.{is_picture}
use Rattle.dirac_units.specs.Writing.{IsReadAsWritten}
use Rattle.dirac_content.specs.Shown.{outcome}
use Rattle.dirac_content.specs.StreamState.{StreamState, stream_begun}
use Rattle.dirac_edit_laws.specs.Cut.{end_point, is_between, part_of, part_shown, restricted, wrong_end, wrong_point}
use Rattle.dirac_edit_laws.specs.Laws.{CutsShowTheirParts, ShowsJust}
use Rattle.dirac_edit_laws.specs.Rebuilt.{IsRead, all_shown}
use Rattle.dirac_edit_laws.specs.Texts.{PictureText, SequenceText, closed_off, opened_by, picture_text_at, points_of, points_up_to, sequences, sequences_from, with_picture_text, with_pictures}
use Rattle.dirac_edit_laws.specs.Units.{sequences_bytes, sequences_units}
use Rattle.dirac_edit_laws.proofs.Cutting.{FitsOpen, FitsPicture, FitsSequence, sequences_cut, texts_fit, units_fit}
use Rattle.dirac_edit_laws.proofs.UnitKinds.{behind_end, behind_header, behind_other, behind_picture, kind_of, of_end, of_header, of_other, of_picture}
use Rattle.dirac_edit_laws.proofs.Parts.{RisesOpen, all_kept, same_with_pictures, texts_rise}
use Rattle.dirac_edit_laws.proofs.Showing.{Shows, sequences_shown}
use Rattle.dirac_edit_laws.proofs.Walking.{IsAt, IsOpen, at_start, pass_end, pass_header, pass_open, pass_other, pass_picture, units_shown}
use Rattle.dirac_encode_laws.proofs.Sourcing.{all_filtered}

-- ---- the part has pictures

abbrev pub in_part : ℕ → ℕ → List SequenceText → List SequenceText
in_part a b ts = with_pictures (map (restricted a b) ts)

part_append : (a b : ℕ) (xs ys : List SequenceText) → in_part a b (xs ++ ys) ≡ in_part a b xs ++ in_part a b ys
part_append a b xs ys = ap with_pictures (map-append (restricted a b) xs ys) ∙ filter-append (λ (s : SequenceText). nat_lt 0 (length s.pictures)) (map (restricted a b) xs) (map (restricted a b) ys)

-- some sequence has pictures of the part
pub record HasPart (a b : ℕ) (ts : List SequenceText) : Type 0 where
  pub some : 0 < length (in_part a b ts)

has_first : (a b : ℕ) (xs ys : List SequenceText) → HasPart a b xs → HasPart a b (xs ++ ys)
has_first a b xs ys has = record { some = omega (arith, has.some, ap length (part_append a b xs ys), length-append (in_part a b xs) (in_part a b ys)) }

has_later : (a b : ℕ) (xs ys : List SequenceText) → HasPart a b ys → HasPart a b (xs ++ ys)
has_later a b xs ys has = record { some = omega (arith, has.some, ap length (part_append a b xs ys), length-append (in_part a b xs) (in_part a b ys)) }

-- a sequence's pictures of the part
abbrev chosen : ℕ → ℕ → SequenceText → List PictureText
chosen a b t = filter (is_between a b) t.pictures

has_one : (a b : ℕ) (t : SequenceText) → 0 < length (chosen a b t) → HasPart a b (t ∷ [])
has_one a b t some =
    let one = restricted a b t in
    let is : in_part a b (t ∷ []) ≡ one ∷ [] = ap (λ (c : Bool). if c then one ∷ [] else []) (lt-ltb 0 (length (chosen a b t)) some) in
    record { some = omega (arith, ap length is) }

chosen_more : (a b : ℕ) (t : SequenceText) (p : PictureText) → 0 < length (chosen a b t) → 0 < length (filter (is_between a b) (t.pictures ++ p ∷ []))
chosen_more a b t p some =
    omega (arith, some, ap length (filter-append (is_between a b) t.pictures (p ∷ [])), length-append (chosen a b t) (filter (is_between a b) (p ∷ [])))

open_part : (units : List UnitText) (a b index points : ℕ) (t : SequenceText) → 0 < length (chosen a b t) → HasPart a b (sequences_from index points (Some t) units)
unfolding sequences_from
open_part [] a b index points t some = has_one a b t some
open_part (u ∷ units) a b index points t some =
    let now = Some t in
    elim (kind_of u.info.code) [
      | of_header e ↦ subst (HasPart a b) (sym (behind_header index points now u units e)) (open_part units a b (suc index) points t some)
      | of_end e ↦ subst (HasPart a b) (sym (behind_end index points now u units e)) (has_first a b (t ∷ []) (sequences_from (suc index) points None units) (has_one a b t some))
      | of_picture c d f e ↦
          let up_to = points_up_to points u in
          let p = picture_text_at index up_to u in
          subst (HasPart a b) (sym (behind_picture index points now u units c d f)) (open_part units a b (suc index) up_to (record { header = t.header; pictures = t.pictures ++ p ∷ [] }) (chosen_more a b t p some))
      | of_other c d f e ↦ subst (HasPart a b) (sym (behind_other index points now u units c d f)) (open_part units a b (suc index) points t some)
    ]

-- a picture at the first point of the part
at_first : (a b : ℕ) (now : Option SequenceText) (p : PictureText) (units : List UnitText) (index points : ℕ) → IsOpen now → is_between a b p ≡ true → HasPart a b (sequences_from index points (with_picture_text now p) units)
unfolding IsOpen
at_first a b None p units index points is within = absurd is
at_first a b (Some t) p units index points is within =
    let pictures = t.pictures ++ p ∷ [] in
    let one : filter (is_between a b) (p ∷ []) ≡ p ∷ [] = ap (λ (c : Bool). if c then p ∷ [] else []) within in
    let some : 0 < length (filter (is_between a b) pictures) = omega (arith, ap length (filter-append (is_between a b) t.pictures (p ∷ [])), length-append (chosen a b t) (filter (is_between a b) (p ∷ [])), ap length one) in
    open_part units a b index points (record { header = t.header; pictures = pictures }) some

point_there : (a b : ℕ) (p : PictureText) → p.points ≡ suc a → a < b → is_between a b p ≡ true
point_there a b p is less = grind arith

-- the points from a unit on
points_on : (u : UnitText) (units : List UnitText) (intra : Bool) → is_intra u.info.code ≡ intra → points_of (u ∷ units) ≡ (if intra then suc (points_of units) else points_of units)
unfolding points_of
points_on u units intra is = ap (λ (b : Bool). if b then suc (points_of units) else points_of units) is

points_up : (points : ℕ) (u : UnitText) (intra : Bool) → is_intra u.info.code ≡ intra → points_up_to points u ≡ (if intra then suc points else points)
points_up points u intra is = ap (λ (b : Bool). if b then suc points else points) is

no_points : points_of [] ≡ 0
unfolding points_of
no_points = refl

not_intra : (code : ℕ) → is_picture code ≡ false → is_intra code ≡ false
not_intra code is =
    let front = or_parts ((code == 0x08 || code == 0x0C) || (code == 0x09 || code == 0x0D)) (code == 0x0A || code == 0x0E) is in
    (or_parts (code == 0x08 || code == 0x0C) (code == 0x09 || code == 0x0D) front.0).0

pub some_part : (units : List UnitText) (a b : ℕ) (state : StreamState) (unit_place : UnitPlace) (index points : ℕ) (now : Option SequenceText) → IsAt now state → (outcome state unit_place units None).end ≡ None → points ≤ a
    → a < points + points_of units → a < b → HasPart a b (sequences_from index points now units)
some_part [] a b state unit_place index points now i none before there less = absurd (omega (arith, no_points))
some_part (u ∷ units) a b state unit_place index points now i none before there less =
    let place = after unit_place u.info in
    let code = u.info.code in
    elim (kind_of code) [
      | of_header e ↦
          let g = pass_header state unit_place u units now e i none in
          let same = points_on u units false (ap is_intra e) in
          subst (HasPart a b) (sym (behind_header index points now u units e))
          (some_part units a b g.later place (suc index) points (opened_by now u.payload) g.at g.none before (omega (arith, there, same)) less)
      | of_end e ↦
          let g = pass_end state unit_place u units now e i none in
          let same = points_on u units false (ap is_intra e) in
          let texts = sequences_from (suc index) points None units in
          subst (HasPart a b) (sym (behind_end index points now u units e))
          (has_later a b (closed_off now) texts (some_part units a b g.later place (suc index) points None g.at g.none before (omega (arith, there, same)) less))
      | of_picture c d f e ↦
          let up_to = points_up_to points u in
          let p = picture_text_at index up_to u in
          let next = with_picture_text now p in
          let g = pass_picture state unit_place u units now index up_to e i none in
          subst (HasPart a b) (sym (behind_picture index points now u units c d f)) (elim (cases_Bool (is_intra code)) [
            | inr other ↦
                let same = points_on u units false other in
                let up = points_up points u false other in
                some_part units a b g.later place (suc index) up_to next g.at g.none (omega (arith, up, before)) (omega (arith, there, same, up)) less
            | inl intra ↦
                let same = points_on u units true intra in
                let up = points_up points u true intra in
                elim (cases_Bool (nat_le up_to a)) [
                  | inl low ↦ some_part units a b g.later place (suc index) up_to next g.at g.none (leb-true up_to a low) (omega (arith, there, same, up)) less
                  | inr high ↦
                      let first : up_to ≡ suc a = omega (arith, up, before, leb-false up_to a high) in
                      at_first a b now p units (suc index) up_to (pass_open state unit_place u units now e i none) (point_there a b p first less)
                ]
          ])
      | of_other c d f e ↦
          let g = pass_other state unit_place u units now d e i none in
          let same = points_on u units false (not_intra code f) in
          subst (HasPart a b) (sym (behind_other index points now u units c d f))
          (some_part units a b g.later place (suc index) points now g.at g.none before (omega (arith, there, same)) less)
    ]

-- ---- the points are there

end_there : (from : ℕ) (to : Option ℕ) (points : ℕ) → from < points → wrong_end from to points ≡ None → from < end_point to points
end_there from None points less none = less
end_there from (Some to) points less none = elim (cases_Bool (nat_le to from)) [
  | inl bad ↦
      let wrong : (nat_le to from || nat_lt points to) ≡ true = or_left (nat_le to from) (nat_lt points to) bad in
      let some : wrong_end from (Some to) points ≡ Some to = ap (λ (b : Bool). if b then Some to else None) wrong in
      absurd cc
  | inr good ↦ leb-false to from good
]

record AreThere (from : ℕ) (to : Option ℕ) (points : ℕ) : Type 0 where
  pub inside : from < points
  pub ordered : from < end_point to points

are_there : (from : ℕ) (to : Option ℕ) (points : ℕ) → wrong_point from to points ≡ None → AreThere from to points
are_there from to points none = elim (cases_Bool (nat_le points from)) [
  | inl bad ↦
      let some : wrong_point from to points ≡ Some from = ap (λ (b : Bool). if b then Some from else wrong_end from to points) bad in
      absurd cc
  | inr good ↦
      let less = leb-false points from good in
      let rest : wrong_end from to points ≡ None = sym (ap (λ (b : Bool). if b then Some from else wrong_end from to points) good) ∙ none in
      record { inside = less; ordered = end_there from to points less rest }
]

-- ---- the units of the part fit

pub restricted_fit : (ts : List SequenceText) (a b : ℕ) → AllByRecursion FitsSequence ts → AllByRecursion FitsSequence (map (restricted a b) ts)
restricted_fit [] a b all = tt
restricted_fit (t ∷ ts) a b all = (record { header = all.0.header; pictures = all_filtered FitsPicture (is_between a b) t.pictures all.0.pictures }, restricted_fit ts a b all.1)

-- ---- sequences that are read, as a stream

pub stream_shown : IsReadAsWritten → (ts : List SequenceText) (pictures : List Picture) → 0 < length ts → AllByRecursion IsRead ts → AllByRecursion FitsSequence ts → all_shown ts ≡ pictures → ShowsJust (sequences_bytes 0 ts) pictures
unfolding IsAt
stream_shown written [] pictures some read fit same = absurd (omega arith)
stream_shown written (t ∷ ts) pictures some read fit same =
    let all = t ∷ ts in
    let units = sequences_units 0 all in
    let shows : Shows (outcome stream_begun first_unit_place units None) (all_shown all) = sequences_shown all 0 first_unit_place stream_begun at_start read fit in
    (outcome stream_begun first_unit_place units None, record { units = units; end = None; cut = sequences_cut written t ts 0 first_unit_place (omega arith) fit; same = refl }, shows.shown ∙ same, shows.none)

-- the law
pub cuts_shown : IsReadAsWritten → CutsShowTheirParts
unfolding FitsOpen RisesOpen
cuts_shown written bytes units from to f points closed =
    let to' = end_point to (points_of units) in
    let there = are_there from to (points_of units) points in
    let ts = sequences units in
    let read = (units_shown units f.none).0 in
    let fit = texts_fit units 0 0 None (units_fit units first_unit_place bytes None f.below f.cut) tt in
    let kept = all_kept ts from to' read (texts_rise units 0 0 None tt) closed in
    let parts = map (restricted from to') ts in
    let same = same_with_pictures parts kept.read in
    let has = some_part units from to' stream_begun first_unit_place 0 0 None at_start f.none (omega arith) (omega (arith, there.inside)) there.ordered in
    stream_shown written (part_of from to' units) (part_shown units from to') has.some same.read
    (all_filtered FitsSequence (λ (s : SequenceText). nat_lt 0 (length s.pictures)) parts (restricted_fit ts from to' fit)) (same.same ∙ kept.same)
