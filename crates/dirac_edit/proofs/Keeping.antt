-- The sequences that are kept while units are gone through are those of the stream, with the pictures that are kept.
use Rattle.std.proofs.Common.{◌≡◌, ◌∙◌, ℕ, suc, ◌==◌, Bool, true, false, if◌then◌else◌, List, [], ◌∷◌, ◌++◌, map, Option, None, Some, refl, sym, ap, append_assoc, append-nil}
use Rattle.std.specs.Prelude.{option_map}
use Rattle.std.specs.List.{filter}
use Rattle.std.proofs.lemmas.List.{map-append}
use Rattle.std.proofs.lemmas.List.Elements.{filter-append}
use Rattle.dirac_common.specs.declared.codes.TheConstants.{END_OF_SEQUENCE, SEQUENCE_HEADER}
use Rattle.dirac_units.specs.Cut.{UnitText}
use Rattle.dirac_units.specs.Info.{is_picture}
use Rattle.dirac_edit_laws.specs.Cut.{restricted}
use Rattle.dirac_edit_laws.specs.Texts.{PictureText, SequenceText, closed_off, opened_by, picture_text_at, points_up_to, sequences, sequences_from, with_picture_text}
use Rattle.dirac_edit.specs.declared.bounds.Part.{Part}
use Rattle.dirac_edit.specs.Kept.{Walked, all_of, keeps, kept_of, walked_from, with_kept}

-- a sequence with its pictures that are kept
abbrev cut_down : Option Part → SequenceText → SequenceText
cut_down part s = record { header = s.header; pictures = filter (keeps part) s.pictures }

closed_down : (part : Option Part) (now : Option SequenceText) → map (cut_down part) (closed_off now) ≡ closed_off (option_map (cut_down part) now)
closed_down part None = refl
closed_down part (Some s) = refl

opened_down : (part : Option Part) (now : Option SequenceText) (payload : List ℕ) → opened_by (option_map (cut_down part) now) payload ≡ option_map (cut_down part) (opened_by now payload)
opened_down part None payload = refl
opened_down part (Some s) payload = refl

-- a picture at the end, if it is kept
kept_last : (b : Bool) (header : List ℕ) (pictures : List PictureText) (p : PictureText)
    → (if b then with_picture_text (Some (record { header = header; pictures = pictures })) p else Some (record { header = header; pictures = pictures }))
    ≡ Some (record { header = header; pictures = pictures ++ (if b then p ∷ [] else []) })
kept_last true header pictures p = refl
kept_last false header pictures p = ap (λ (ps : List PictureText). let t : SequenceText = record { header = header; pictures = ps } in Some t) (sym (append-nil pictures))

kept_down : (part : Option Part) (now : Option SequenceText) (p : PictureText) → with_kept part (option_map (cut_down part) now) p ≡ option_map (cut_down part) (with_picture_text now p)
kept_down part None p = none_either (keeps part p) where
  none_either : (b : Bool) → (if b then with_picture_text None p else None) ≡ option_map (cut_down part) (with_picture_text None p)
  none_either true = refl
  none_either false = refl
kept_down part (Some s) p =
    kept_last (keeps part p) s.header (filter (keeps part) s.pictures) p
    ∙ ap (λ (ps : List PictureText). let t : SequenceText = record { header = s.header; pictures = ps } in Some t) (sym (filter-append (keeps part) s.pictures (p ∷ [])))

-- what a unit does, by what it is
abbrev walked_by : Bool → Bool → Bool → Option Part → ℕ → Walked → UnitText → Walked
walked_by header end picture part index w u =
    if header then record w { now = opened_by w.now u.payload }
    else if end then record w { ended = all_of w; now = None }
    else if picture then record w {
      now = with_kept part w.now (picture_text_at index (points_up_to w.points u) u);
      points = points_up_to w.points u;
    }
    else w

abbrev sequences_by : Bool → Bool → Bool → ℕ → ℕ → Option SequenceText → UnitText → List UnitText → List SequenceText
sequences_by header end picture index points now u units =
    if header then sequences_from (suc index) points (opened_by now u.payload) units
    else if end then closed_off now ++ sequences_from (suc index) points None units
    else if picture then sequences_from (suc index) (points_up_to points u) (with_picture_text now (picture_text_at index (points_up_to points u) u)) units
    else sequences_from (suc index) points now units

-- that is what is kept of them
abbrev IsKeptOf : Option Part → List UnitText → Type 0
IsKeptOf part units =
    (index points : ℕ) (ended : List SequenceText) (now : Option SequenceText)
    → all_of (walked_from part index (record { ended = ended; now = option_map (cut_down part) now; points = points }) units)
    ≡ ended ++ map (cut_down part) (sequences_from index points now units)

abbrev walking : Option Part → ℕ → List SequenceText → Option SequenceText → Walked
walking part points ended now = record { ended = ended; now = now; points = points }

step : (header end picture : Bool) (part : Option Part) (u : UnitText) (units : List UnitText) → IsKeptOf part units → (index points : ℕ) (ended : List SequenceText) (now : Option SequenceText)
    → all_of (walked_from part (suc index) (walked_by header end picture part index (walking part points ended (option_map (cut_down part) now)) u) units)
    ≡ ended ++ map (cut_down part) (sequences_by header end picture index points now u units)
step true end picture part u units later index points ended now =
    ap (λ s. all_of (walked_from part (suc index) (walking part points ended s) units)) (opened_down part now u.payload)
    ∙ later (suc index) points ended (opened_by now u.payload)
step false true picture part u units later index points ended now =
    let r : SequenceText → SequenceText = cut_down part in
    let rest : List SequenceText = sequences_from (suc index) points None units in
    later (suc index) points (ended ++ closed_off (option_map r now)) None
    ∙ append_assoc ended (closed_off (option_map r now)) (map r rest)
    ∙ ap (λ ss. ended ++ (ss ++ map r rest)) (sym (closed_down part now))
    ∙ ap (λ ss. ended ++ ss) (sym (map-append r (closed_off now) rest))
step false false true part u units later index points ended now =
    let p : PictureText = picture_text_at index (points_up_to points u) u in
    ap (λ s. all_of (walked_from part (suc index) (walking part (points_up_to points u) ended s) units)) (kept_down part now p)
    ∙ later (suc index) (points_up_to points u) ended (with_picture_text now p)
step false false false part u units later index points ended now = later (suc index) points ended now

kept_by : (part : Option Part) (units : List UnitText) → IsKeptOf part units
unfolding walked_from sequences_from
kept_by part [] index points ended now = ap (λ ss. ended ++ ss) (sym (closed_down part now))
kept_by part (u ∷ units) index points ended now =
    step (u.info.code == SEQUENCE_HEADER) (u.info.code == END_OF_SEQUENCE) (is_picture u.info.code) part u units (kept_by part units) index points ended now

-- the sequences of a part
pub part_kept : (part : Part) (units : List UnitText) → kept_of (Some part) units ≡ map (restricted part.from part.to) (sequences units)
part_kept part units = kept_by (Some part) units 0 0 [] None

-- and all
all_stay : (pictures : List PictureText) → filter (keeps None) pictures ≡ pictures
all_stay [] = refl
all_stay (p ∷ pictures) = ap (λ ps. p ∷ ps) (all_stay pictures)

whole_stay : (ts : List SequenceText) → map (cut_down None) ts ≡ ts
whole_stay [] = refl
whole_stay (t ∷ ts) =
    ap (λ (ps : List PictureText). let s : SequenceText = record { header = t.header; pictures = ps } in s ∷ map (cut_down None) ts) (all_stay t.pictures)
    ∙ ap (λ ss. t ∷ ss) (whole_stay ts)

pub all_kept : (units : List UnitText) → kept_of None units ≡ sequences units
all_kept units = kept_by None units 0 0 [] None ∙ whole_stay (sequences units)
