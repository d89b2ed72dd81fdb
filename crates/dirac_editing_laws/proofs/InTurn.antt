-- Two cuts that meet, one behind the other, show what the cut of both shows, where the later pictures follow in turn.
use Rattle.std.proofs.Common.{◌≡◌, ◌==◌, ◌||◌, ◌<◌, ◌≤◌, ◌-◌, ◌+◌, ◌%◌, ◌^◌, inl, inr, if◌then◌else◌, Bool, true, false, ℕ, ℤ, suc, pos, negsuc, ◌+ℤ◌, List, [], ◌∷◌, ◌++◌, length, map, Option, None, Some, nat_lt, refl, sym, ◌∙◌, ap, ap₂, subst, arith, append_assoc, append-nil}
use Rattle.std.specs.Prelude.{◌≤ℤ◌}
use Rattle.std.specs.Int.{cast_signed, to_be_bytes, w32}
use Rattle.std.specs.List.{All, AllByRecursion, filter, flat_map}
use Rattle.std.proofs.lemmas.Bool.{cases_lt, eqb-true, or_cases}
use Rattle.std.proofs.lemmas.Int.{ints, to_z_pos}
use Rattle.std.proofs.lemmas.List.{map-append}
use Rattle.std.proofs.lemmas.List.Elements.{recursion_from_All}
use Rattle.dirac_common.specs.declared.picture.Picture.{Picture}
use Rattle.dirac_common.specs.Codes.{is_intra}
use Rattle.dirac_units.specs.Cut.{UnitText, first_unit_place}
use Rattle.dirac_units.specs.Info.{is_picture}
use Rattle.dirac_units.specs.Writing.{IsReadAsWritten}
use Rattle.dirac_refs.specs.declared.waiting.Waiting.{Waiting}
use Rattle.dirac_refs.specs.Delivery.{in_delivery_order, key_of}
use Rattle.dirac_refs.specs.References.{as_reference}
use Rattle.dirac_refs.proofs.Listed.{few_committed}
use Rattle.dirac_plan_laws.proofs.Each.{each_append}
use Rattle.dirac_content.specs.Raw.{raws}
use Rattle.dirac_content.specs.Shown.{outcome}
use Rattle.dirac_content.specs.StreamState.{stream_begun}
use Rattle.dirac_encode_laws.specs.Stream.{end_info, info_for, unit}
use Rattle.dirac_units.specs.declared.info.ParseInfo.{ParseInfo}
use Rattle.dirac_units.specs.Writing.{info_bytes}
use Rattle.dirac_encode_laws.proofs.Sourcing.{all_filtered}
use Rattle.dirac_edit_laws.specs.Cut.{cut_bytes, first_answer, is_between, open_among, open_cut, open_from, part_of, part_rebuilt, part_shown, part_shown_of, restricted}
use Rattle.dirac_edit_laws.specs.Laws.{IsFaultless}
use Rattle.dirac_edit_laws.specs.Later.{AreNotBefore}
use Rattle.dirac_edit_laws.specs.Rebuilt.{IsRead, RebuiltText, all_shown, in_order, list_behind, rebuilt_picture, rebuilt_from, rebuilt_of, waiting_from}
use Rattle.dirac_edit_laws.specs.Restricted.{IsRestricted}
use Rattle.dirac_edit_laws.specs.Texts.{PictureText, SequenceText, closed_off, opened_by, picture_text_at, points_of, points_up_to, sequences, sequences_from, with_picture_text}
use Rattle.dirac_edit_laws.specs.Units.{pictures_bytes, sequences_bytes, sequences_units}
use Rattle.dirac_edit_laws.proofs.Alike.{all_listed}
use Rattle.dirac_edit_laws.proofs.Closed.{opens_later}
use Rattle.dirac_edit_laws.proofs.Cutting.{Fits, FitsOpen, FitsPicture, FitsSequence, sequences_cut, texts_fit, units_fit}
use Rattle.dirac_edit_laws.proofs.EncodedCut.{picture_unit}
use Rattle.dirac_edit_laws.proofs.Joining.{joins_shown}
use Rattle.dirac_edit_laws.proofs.Keys.{signed_high}
use Rattle.dirac_edit_laws.proofs.Later.{later_leave_later}
use Rattle.dirac_edit_laws.proofs.Parts.{Rises, RisesOpen, all_kept, filter_in, filter_out, is_among, rebuilt_is, rises_on, same_with_pictures, texts_rise}
use Rattle.dirac_edit_laws.proofs.Renumbered.{IsNumbered, all_onward}
use Rattle.dirac_edit_laws.proofs.Restricted.{keeps_committed, none_yet}
use Rattle.dirac_edit_laws.proofs.Shifted.{flush_moved, waiting_with}
use Rattle.dirac_edit_laws.proofs.Showing.{sequences_shown}
use Rattle.dirac_edit_laws.proofs.UnitKinds.{behind_end, behind_header, behind_other, behind_picture, kind_of, of_end, of_header, of_other, of_picture}
use Rattle.dirac_edit_laws.proofs.Walking.{IsAt, at_start, units_shown}
use Rattle.dirac_edit_laws.proofs.Whole.{restricted_fit, some_part}
use Rattle.dirac_editing_laws.specs.Editing.{CutsJoinedShowTheWholeCut, FollowsInTurn, shown_by}
use Rattle.dirac_editing_laws.proofs.Following.{streams_behind}

-- ---- sequences as a stream without a fault

four_below : (v : ℕ) → AllByRecursion (λ b. b < 2 ^ 8) (to_be_bytes w32 v)
four_below v = (omega arith, (omega arith, (omega arith, (omega arith, tt))))

pub info_below : (info : ParseInfo) → info.code < 2 ^ 8 → AllByRecursion (λ b. b < 2 ^ 8) (info_bytes info)
info_below info small =
    let rest = each_append (λ b. b < 2 ^ 8) (to_be_bytes w32 info.next) (to_be_bytes w32 info.previous) (four_below info.next) (four_below info.previous) in
    (omega arith, (omega arith, (omega arith, (omega arith, (small, rest)))))

pub code_below : (code : ℕ) → is_picture code ≡ true → code < 2 ^ 8
code_below code is =
    let known : (n : ℕ) → n < 2 ^ 8 → (code == n) ≡ true → code < 2 ^ 8 = λ n small e. subst (λ m. m < 2 ^ 8) (sym (eqb-true code n e)) small in
    elim (or_cases ((code == 0x08 || code == 0x0C) || (code == 0x09 || code == 0x0D)) (code == 0x0A || code == 0x0E) is) [
      | inl f ↦ elim (or_cases (code == 0x08 || code == 0x0C) (code == 0x09 || code == 0x0D) f) [
        | inl e ↦ elim (or_cases (code == 0x08) (code == 0x0C) e) [
          | inl x ↦ known 0x08 (omega arith) x
          | inr x ↦ known 0x0C (omega arith) x
        ]
        | inr e ↦ elim (or_cases (code == 0x09) (code == 0x0D) e) [
          | inl x ↦ known 0x09 (omega arith) x
          | inr x ↦ known 0x0D (omega arith) x
        ]
      ]
      | inr e ↦ elim (or_cases (code == 0x0A) (code == 0x0E) e) [
        | inl x ↦ known 0x0A (omega arith) x
        | inr x ↦ known 0x0E (omega arith) x
      ]
    ]

pub unit_below : (code previous : ℕ) (payload : List ℕ) → code < 2 ^ 8 → Fits payload → AllByRecursion (λ b. b < 2 ^ 8) (unit code previous payload)
unit_below code previous payload small fits =
    let info = info_for code previous payload in
    each_append (λ b. b < 2 ^ 8) (info_bytes info) payload (info_below info small) fits.below

pictures_below : (ps : List PictureText) (previous : ℕ) → AllByRecursion FitsPicture ps → AllByRecursion (λ b. b < 2 ^ 8) (pictures_bytes previous ps)
unfolding pictures_bytes
pictures_below [] previous fits = info_below (end_info previous) (omega arith)
pictures_below (p ∷ ps) previous fits =
    each_append (λ b. b < 2 ^ 8) (unit p.code previous p.payload) (pictures_bytes (13 + length p.payload) ps)
    (unit_below p.code previous p.payload (code_below p.code (picture_unit p.code fits.0.code).is) fits.0.payload) (pictures_below ps (13 + length p.payload) fits.1)

sequences_below : (ts : List SequenceText) (previous : ℕ) → AllByRecursion FitsSequence ts → AllByRecursion (λ b. b < 2 ^ 8) (sequences_bytes previous ts)
unfolding sequences_bytes
sequences_below [] previous fits = tt
sequences_below (t ∷ ts) previous fits =
    let header = unit 0x00 previous t.header in
    let pictures = pictures_bytes (13 + length t.header) t.pictures in
    each_append (λ b. b < 2 ^ 8) (header ++ pictures) (sequences_bytes 13 ts)
    (each_append (λ b. b < 2 ^ 8) header pictures (unit_below 0x00 previous t.header (omega arith) fits.0.header) (pictures_below t.pictures (13 + length t.header) fits.0.pictures))
    (sequences_below ts 13 fits.1)

-- what they are as a stream
pub record IsStream (ts : List SequenceText) : Type 0 where
  pub faultless : IsFaultless (sequences_bytes 0 ts) (sequences_units 0 ts)
  pub shown : shown_by (sequences_units 0 ts) ≡ all_shown ts

pub is_stream : IsReadAsWritten → (ts : List SequenceText) → 0 < length ts → AllByRecursion IsRead ts → AllByRecursion FitsSequence ts → IsStream ts
unfolding IsAt
is_stream written [] some read fits = absurd (omega arith)
is_stream written (t ∷ ts) some read fits =
    let all = t ∷ ts in
    let shows = sequences_shown all 0 first_unit_place stream_begun at_start read fits in
    record {
      faultless = record {
        below = sequences_below all 0 fits;
        cut = sequences_cut written t ts 0 first_unit_place (omega arith) fits;
        none = shows.none;
      };
      shown = shows.shown;
    }

-- ---- points rise from sequence to sequence

unfoldable OrderedFrom : ℕ → List SequenceText → Type 0
OrderedFrom low [] = Unit {0}
OrderedFrom low (t ∷ ts) = (high : ℕ) × Rises low high t.pictures × OrderedFrom high ts

unfoldable OrderedOpen : ℕ → ℕ → Option SequenceText → Type 0
OrderedOpen low points None = low ≤ points
OrderedOpen low points (Some t) = Rises low points t.pictures

opened_ordered : (low points : ℕ) (now : Option SequenceText) (payload : List ℕ) → OrderedOpen low points now → OrderedOpen low points (opened_by now payload)
unfolding OrderedOpen Rises
opened_ordered low points None payload is = is
opened_ordered low points (Some t) payload is = is

picture_ordered : (low points : ℕ) (now : Option SequenceText) (p : PictureText) → points ≤ p.points → OrderedOpen low points now → OrderedOpen low p.points (with_picture_text now p)
unfolding OrderedOpen
picture_ordered low points None p more is = omega (arith, is)
picture_ordered low points (Some t) p more is = rises_on t.pictures low points p more is

points_grow : (points : ℕ) (u : UnitText) → points ≤ points_up_to points u
points_grow points u = grow (is_intra u.info.code) points
  where
    grow : (b : Bool) (points : ℕ) → points ≤ (if b then suc points else points)
    grow true points = omega arith
    grow false points = omega arith

closed_ordered : (now : Option SequenceText) (low points : ℕ) (ts : List SequenceText) → OrderedOpen low points now → ((n : ℕ) → n ≤ points → OrderedFrom n ts) → OrderedFrom low (closed_off now ++ ts)
unfolding OrderedOpen OrderedFrom
closed_ordered None low points ts is rest = rest low is
closed_ordered (Some t) low points ts is rest = (points, is, rest points (omega arith))

texts_ordered : (units : List UnitText) (index points low : ℕ) (now : Option SequenceText) → OrderedOpen low points now → OrderedFrom low (sequences_from index points now units)
unfolding sequences_from OrderedFrom OrderedOpen
texts_ordered [] index points low now is =
    subst (OrderedFrom low) (append-nil (closed_off now)) (closed_ordered now low points [] is (λ n few. tt))
texts_ordered (u ∷ units) index points low now is = elim (kind_of u.info.code) [
  | of_header e ↦ subst (OrderedFrom low) (sym (behind_header index points now u units e)) (texts_ordered units (suc index) points low (opened_by now u.payload) (opened_ordered low points now u.payload is))
  | of_end e ↦
      subst (OrderedFrom low) (sym (behind_end index points now u units e))
      (closed_ordered now low points (sequences_from (suc index) points None units) is (λ n few. texts_ordered units (suc index) points n None few))
  | of_picture a b c e ↦
      let up_to = points_up_to points u in
      let p = picture_text_at index up_to u in
      subst (OrderedFrom low) (sym (behind_picture index points now u units a b c)) (texts_ordered units (suc index) up_to low (with_picture_text now p) (picture_ordered low points now p (points_grow points u) is))
  | of_other a b c d ↦ subst (OrderedFrom low) (sym (behind_other index points now u units a b c)) (texts_ordered units (suc index) points low now is)
]

-- ---- one sequence

-- rebuilt pictures whose points rise
unfoldable RisesIn : ℕ → ℕ → List RebuiltText → Type 0
RisesIn low high [] = low ≤ high
RisesIn low high (r ∷ rs) = (low ≤ r.text.points) × RisesIn r.text.points high rs

rises_in : (rs : List RebuiltText) (ps : List PictureText) (low high : ℕ) → map (λ (r : RebuiltText). r.text) rs ≡ ps → Rises low high ps → RisesIn low high rs
unfolding Rises RisesIn
rises_in [] [] low high e is = is
rises_in [] (p ∷ ps) low high e is = absurd cc
rises_in (r ∷ rs) [] low high e is = absurd cc
rises_in (r ∷ rs) (p ∷ ps) low high e is =
    let first : r.text ≡ p = cc in
    let rest : map (λ (x : RebuiltText). x.text) rs ≡ ps = cc in (
      subst (λ (x : PictureText). low ≤ x.points) (sym first) is.0,
      rises_in rs ps r.text.points high rest (subst (λ (x : PictureText). Rises x.points high ps) (sym first) is.1),
    )

is_in : (a b : ℕ) (p : PictureText) → a < p.points → p.points ≤ b → is_between a b p ≡ true
is_in a b p more few = grind arith

is_before : (a b : ℕ) (p : PictureText) → p.points ≤ a → is_between a b p ≡ false
is_before a b p few = grind arith

is_behind : (a b : ℕ) (p : PictureText) → b < p.points → is_between a b p ≡ false
is_behind a b p many = grind arith

-- none of a part that ends before
none_up : (rs : List RebuiltText) (a b low high : ℕ) → b < low → RisesIn low high rs → filter (is_among a b) rs ≡ []
unfolding RisesIn
none_up [] a b low high many is = refl
none_up (r ∷ rs) a b low high many is =
    filter_out (is_among a b) r rs (is_behind a b r.text (omega (arith, is.0))) ∙ none_up rs a b r.text.points high (omega (arith, is.0)) is.1

rises_to : (rs : List RebuiltText) (low high : ℕ) → RisesIn low high rs → low ≤ high
unfolding RisesIn
rises_to [] low high is = is
rises_to (r ∷ rs) low high is = omega (arith, is.0, rises_to rs r.text.points high is.1)

-- none of a part that begins behind
none_down : (rs : List RebuiltText) (b c low high : ℕ) → high ≤ b → RisesIn low high rs → filter (is_among b c) rs ≡ []
unfolding RisesIn
none_down [] b c low high few is = refl
none_down (r ∷ rs) b c low high few is =
    let top = rises_to rs r.text.points high is.1 in
    filter_out (is_among b c) r rs (is_before b c r.text (omega (arith, top))) ∙ none_down rs b c r.text.points high few is.1

-- behind point b both parts are the later one
only_later : (rs : List RebuiltText) (a b c low high : ℕ) → a < b → b < low → RisesIn low high rs → filter (is_among a c) rs ≡ filter (is_among b c) rs
unfolding RisesIn
only_later [] a b c low high less many is = refl
only_later (r ∷ rs) a b c low high less many is =
    let rest = only_later rs a b c r.text.points high less (omega (arith, is.0)) is.1 in
    elim (cases_lt c r.text.points) [
      | inl above ↦
          filter_out (is_among a c) r rs (is_behind a c r.text above) ∙ rest ∙ sym (filter_out (is_among b c) r rs (is_behind b c r.text above))
      | inr within ↦
          filter_in (is_among a c) r rs (is_in a c r.text (omega (arith, is.0)) within) ∙ ap (λ (l : List RebuiltText). r ∷ l) rest
          ∙ sym (filter_in (is_among b c) r rs (is_in b c r.text (omega (arith, is.0)) within))
    ]

parts_meet : (rs : List RebuiltText) (a b c low high : ℕ) → a < b → b < c → RisesIn low high rs → filter (is_among a c) rs ≡ filter (is_among a b) rs ++ filter (is_among b c) rs
unfolding RisesIn
parts_meet [] a b c low high less less' is = refl
parts_meet (r ∷ rs) a b c low high less less' is =
    elim (cases_lt b r.text.points) [
      | inl later ↦
          let all : RisesIn r.text.points high (r ∷ rs) = (omega arith, is.1) in
          only_later (r ∷ rs) a b c r.text.points high less later all
          ∙ sym (ap (λ (l : List RebuiltText). l ++ filter (is_among b c) (r ∷ rs)) (none_up (r ∷ rs) a b r.text.points high later all))
      | inr within ↦
          let rest = parts_meet rs a b c r.text.points high less less' is.1 in
          let behind = filter_out (is_among b c) r rs (is_before b c r.text within) in
          elim (cases_lt a r.text.points) [
            | inl above ↦
                filter_in (is_among a c) r rs (is_in a c r.text above (omega (arith, within))) ∙ ap (λ (l : List RebuiltText). r ∷ l) rest
                ∙ sym (ap₂ (λ (x y : List RebuiltText). x ++ y) (filter_in (is_among a b) r rs (is_in a b r.text above within)) behind)
            | inr below ↦
                filter_out (is_among a c) r rs (is_before a c r.text below) ∙ rest
                ∙ sym (ap₂ (λ (x y : List RebuiltText). x ++ y) (filter_out (is_among a b) r rs (is_before a b r.text below)) behind)
          ]
    ]

-- ---- keys that count from another number

-- a number below 2 ^ 32 that is 0 at least, read as signed
not_negative : (n : ℕ) → n < 2 ^ 32 → pos 0 ≤ℤ cast_signed w32 n → n < 2 ^ 31
not_negative n small is = elim (cases_lt n (2 ^ 31)) [
  | inl low ↦ low
  | inr high ↦ absurd (negative (2 ^ 32 - suc n) (subst (λ z. pos 0 ≤ℤ z) (signed_high n high small) is))
]
  where
    negative : (k : ℕ) → pos 0 ≤ℤ negsuc k → ⊥
    negative k is = omega (arith, ints)

difference : (u v w : ℕ) → u < 2 ^ 31 → v < 2 ^ 31 → w < 2 ^ 32 → (w + v) % 2 ^ 32 ≡ u → cast_signed w32 u ≡ cast_signed w32 w +ℤ cast_signed w32 v
difference u v w su sv sw is = elim (cases_lt u v) [
  | inr up ↦
      let here : w ≡ u - v = omega arith in
      to_z_pos w32 u su ∙ whole u v w here up ∙ sym (ap₂ (λ x y. x +ℤ y) (to_z_pos w32 w (omega (arith, here))) (to_z_pos w32 v sv))
  | inl down ↦
      let here : w + v ≡ u + 2 ^ 32 = omega arith in
      to_z_pos w32 u su ∙ back u v w here sw ∙ sym (ap₂ (λ x y. x +ℤ y) (signed_high w (omega (arith, here)) sw) (to_z_pos w32 v sv))
]
  where
    whole : (u v w : ℕ) → w ≡ u - v → v ≤ u → pos u ≡ pos w +ℤ pos v
    whole u v w here up = omega (arith, ints)

    back : (u v w : ℕ) → w + v ≡ u + 2 ^ 32 → w < 2 ^ 32 → pos u ≡ negsuc (2 ^ 32 - suc w) +ℤ pos v
    back u v w here small = omega (arith, ints)

-- a key, counted from a later first number
key_from : (x y n : ℕ) → x < 2 ^ 32 → y < 2 ^ 32 → pos 0 ≤ℤ key_of x y → pos 0 ≤ℤ key_of x n → key_of x n ≡ key_of y n +ℤ key_of x y
key_from x y n sx sy first is =
    let u = (n + (2 ^ 32 - x)) % 2 ^ 32 in
    let v = (y + (2 ^ 32 - x)) % 2 ^ 32 in
    let w = (n + (2 ^ 32 - y)) % 2 ^ 32 in
    let sum : (w + v) % 2 ^ 32 ≡ u = omega arith in
    difference u v w (not_negative u (omega arith) is) (not_negative v (omega arith) first) (omega arith) sum

-- ---- pictures that follow in turn

abbrev AreBelow : List Picture → Type 0
AreBelow ps = AllByRecursion (λ (p : Picture). p.number < 2 ^ 32) ps

-- keys that are 0 at least
abbrev AreBehind : ℕ → List Picture → Type 0
AreBehind first ps = AllByRecursion (λ (p : Picture). pos 0 ≤ℤ key_of first p.number) ps

map_itself : (ps : List Picture) → map (λ (p : Picture). p) ps ≡ ps
map_itself [] = refl
map_itself (p ∷ ps) = ap (λ (l : List Picture). p ∷ l) (map_itself ps)

from_another : (ps : List Picture) (x y : ℕ) → x < 2 ^ 32 → y < 2 ^ 32 → pos 0 ≤ℤ key_of x y → AreBehind x ps → map (waiting_from x) ps ≡ map (waiting_with (key_of x y) (λ (p : Picture). p)) (map (waiting_from y) ps)
from_another [] x y sx sy first all = refl
from_another (p ∷ ps) x y sx sy first all =
    ap₂ (λ (z : ℤ) (ws : List Waiting). (let w : Waiting = record { key = z; picture = p } in w) ∷ ws) (key_from x y p.number sx sy first all.0) (from_another ps x y sx sy first all.1)

-- they leave as they do by themselves
leave_alone : (ps : List Picture) (x : ℕ) → x < 2 ^ 32 → AreBelow ps → AreBehind x ps → in_delivery_order (map (waiting_from x) ps) ≡ in_order ps
leave_alone [] x small below all = refl
leave_alone (p ∷ ps) x small below all =
    let ws = map (waiting_from p.number) (p ∷ ps) in
    ap in_delivery_order (from_another (p ∷ ps) x p.number small below.0 all.0 all) ∙ flush_moved (key_of x p.number) (λ (q : Picture). q) ws ∙ map_itself (in_delivery_order ws)

-- the first picture's key is 0
own_key : (n : ℕ) → n < 2 ^ 32 → key_of n n ≡ pos 0
own_key n small =
    let same : (n + (2 ^ 32 - n)) % 2 ^ 32 ≡ 0 = omega arith in
    ap (cast_signed w32) same ∙ to_z_pos w32 0 (omega arith)

behind_first : (ps : List Picture) (x : ℕ) → x < 2 ^ 32 → AllByRecursion (λ (w : Waiting). key_of x x ≤ℤ w.key) (map (waiting_from x) ps) → AreBehind x ps
behind_first [] x small all = tt
behind_first (p ∷ ps) x small all = (subst (λ z. z ≤ℤ key_of x p.number) (own_key x small) all.0, behind_first ps x small all.1)

pub in_turn : (xs ys : List Picture) → AreBelow xs → AreBelow ys → ((first : Picture) (rest : List Picture) → xs ≡ first ∷ rest → AreNotBefore (map (waiting_from first.number) ys) (map (waiting_from first.number) xs))
    → in_order (xs ++ ys) ≡ in_order xs ++ in_order ys
in_turn [] ys below below' turn = refl
in_turn (x ∷ xs) ys below below' turn =
    let n = x.number in
    let former = map (waiting_from n) (x ∷ xs) in
    let later = map (waiting_from n) ys in
    let order : AreNotBefore later former = turn x xs refl in
    let firsts = recursion_from_All (λ (w : Waiting). All (λ (v : Waiting). w.key ≤ℤ v.key) later) former order in
    let behind = behind_first ys n below.0 (recursion_from_All (λ (v : Waiting). key_of n n ≤ℤ v.key) later firsts.0) in
    ap in_delivery_order (map-append (waiting_from n) (x ∷ xs) ys) ∙ later_leave_later former later order
    ∙ ap (λ (l : List Picture). in_delivery_order former ++ l) (leave_alone ys n below.0 below' behind)

-- ---- a sequence

numbers_small : (rs : List RebuiltText) → AllByRecursion IsNumbered rs → AreBelow (map rebuilt_picture rs)
numbers_small [] all = tt
numbers_small (r ∷ rs) all = (subst (λ n. n < 2 ^ 32) (sym all.0.number) all.0.small, numbers_small rs all.1)

-- what is known of a sequence
record IsKnown (low high : ℕ) (t : SequenceText) : Type 0 where
  pub rises : RisesIn low high (rebuilt_of t)
  pub numbered : AllByRecursion IsNumbered (rebuilt_of t)

is_known : (low high : ℕ) (t : SequenceText) → IsRead t → FitsSequence t → Rises low high t.pictures → IsKnown low high t
is_known low high t read fits rises =
    let s = read.sequence in
    let same = rebuilt_is s t read.header in
    let on = all_onward t.pictures s 0 [] [] (none_yet []) (omega arith) tt fits.pictures read.pictures in
    record {
      rises = subst (RisesIn low high) (sym same) (rises_in (rebuilt_from s [] t.pictures) t.pictures low high on.texts rises);
      numbered = subst (AllByRecursion IsNumbered) (sym same) on.numbered;
    }

-- ---- what both parts show

shown_meets : (a b c low high : ℕ) (t : SequenceText) → a < b → b < c → IsKnown low high t → FollowsInTurn a b c t → part_shown_of a c t ≡ part_shown_of a b t ++ part_shown_of b c t
shown_meets a b c low high t less less' known turn =
    let rs = rebuilt_of t in
    let xs = part_rebuilt a b t in
    let ys = part_rebuilt b c t in
    ap (λ (l : List RebuiltText). in_order (map rebuilt_picture l)) (parts_meet rs a b c low high less less' known.rises)
    ∙ ap in_order (map-append rebuilt_picture xs ys)
    ∙ in_turn (map rebuilt_picture xs) (map rebuilt_picture ys) (numbers_small xs (all_filtered IsNumbered (is_among a b) rs known.numbered)) (numbers_small ys (all_filtered IsNumbered (is_among b c) rs known.numbered)) turn

-- points rise
ordered_up : (ps : List PictureText) (low high : ℕ) → Rises low high ps → low ≤ high
unfolding Rises
ordered_up [] low high is = is
ordered_up (p ∷ ps) low high is = omega (arith, is.0, ordered_up ps p.points high is.1)

swap_none : (x y xs ys : List Picture) → xs ≡ [] → (x ++ xs) ++ (y ++ ys) ≡ (x ++ y) ++ (xs ++ ys)
swap_none x y xs ys none =
    ap (λ (l : List Picture). (x ++ l) ++ (y ++ ys)) none ∙ ap (λ (l : List Picture). l ++ (y ++ ys)) (append-nil x) ∙ sym (append_assoc x y ys)
    ∙ ap (λ (l : List Picture). (x ++ y) ++ (l ++ ys)) (sym none)

swap_first : (x y xs ys : List Picture) → y ≡ [] → (x ++ xs) ++ (y ++ ys) ≡ (x ++ y) ++ (xs ++ ys)
swap_first x y xs ys none =
    ap (λ (l : List Picture). (x ++ xs) ++ (l ++ ys)) none ∙ append_assoc x xs ys
    ∙ sym (ap (λ (l : List Picture). l ++ (xs ++ ys)) (ap (λ (l : List Picture). x ++ l) none ∙ append-nil x))

none_shown_up : (ts : List SequenceText) (a b low : ℕ) → b < low → AllByRecursion IsRead ts → AllByRecursion FitsSequence ts → OrderedFrom low ts → flat_map (part_shown_of a b) ts ≡ []
unfolding OrderedFrom
none_shown_up [] a b low many read fits order = refl
none_shown_up (t ∷ ts) a b low many read fits order =
    let known = is_known low order.0 t read.0 fits.0 order.1 in
    let up = ordered_up t.pictures low order.0 order.1 in
    ap₂ (λ (rs : List RebuiltText) (l : List Picture). in_order (map rebuilt_picture rs) ++ l) (none_up (rebuilt_of t) a b low order.0 many known.rises)
    (none_shown_up ts a b order.0 (omega (arith, up)) read.1 fits.1 order.2)

all_meet : (ts : List SequenceText) (a b c low : ℕ) → a < b → b < c → AllByRecursion IsRead ts → AllByRecursion FitsSequence ts → OrderedFrom low ts → AllByRecursion (FollowsInTurn a b c) ts
    → flat_map (part_shown_of a b) ts ++ flat_map (part_shown_of b c) ts ≡ flat_map (part_shown_of a c) ts
unfolding OrderedFrom
all_meet [] a b c low less less' read fits order turn = refl
all_meet (t ∷ ts) a b c low less less' read fits order turn =
    let high = order.0 in
    let known = is_known low high t read.0 fits.0 order.1 in
    let one = shown_meets a b c low high t less less' known turn.0 in
    let rest = all_meet ts a b c high less less' read.1 fits.1 order.2 turn.1 in
    let x = part_shown_of a b t in
    let y = part_shown_of b c t in
    let xs = flat_map (part_shown_of a b) ts in
    let ys = flat_map (part_shown_of b c) ts in
    elim (cases_lt b high) [
      | inl beyond ↦ swap_none x y xs ys (none_shown_up ts a b high beyond read.1 fits.1 order.2) ∙ ap₂ (λ (p q : List Picture). p ++ q) (sym one) rest
      | inr within ↦
          let none : y ≡ [] = ap (λ (rs : List RebuiltText). in_order (map rebuilt_picture rs)) (none_down (rebuilt_of t) b c low high within known.rises) in
          swap_first x y xs ys none ∙ ap₂ (λ (p q : List Picture). p ++ q) (sym one) rest
    ]

-- ---- a part that isn't open

-- where each picture has its references in a part of the list, it has them in the list
still_closed : (rs : List RebuiltText) (whole inside : List Picture) → IsRestricted whole inside → length whole ≤ 8 → open_from inside rs ≡ None → open_from whole rs ≡ None
unfolding open_from
still_closed [] whole inside r few is = refl
still_closed (x ∷ rs) whole inside r few is =
    let o = opens_later inside x rs is in
    let reference = as_reference x.coded.code x.picture in
    let rest = still_closed rs (list_behind whole x) (list_behind inside x) (keeps_committed whole inside x.coded.header.retire reference r few) (few_committed whole x.coded.header.retire reference few) o.later in
    ap (λ (b : Bool). if b then open_from (list_behind whole x) rs else Some x.text.index) (all_listed whole inside x.coded.header r o.closed) ∙ rest

closed_append : (xs ys : List RebuiltText) (list : List Picture) → length list ≤ 8 → open_from list xs ≡ None → open_from [] ys ≡ None → open_from list (xs ++ ys) ≡ None
unfolding open_from
closed_append [] ys list few first second = still_closed ys list [] (none_yet list) few second
closed_append (x ∷ xs) ys list few first second =
    let o = opens_later list x xs first in
    let rest = closed_append xs ys (list_behind list x) (few_committed list x.coded.header.retire (as_reference x.coded.code x.picture) few) o.later second in
    ap (λ (b : Bool). if b then open_from (list_behind list x) (xs ++ ys) else Some x.text.index) o.closed ∙ rest

first_none : (first second : Option ℕ) → first_answer first second ≡ None → (first ≡ None) × (second ≡ None)
first_none None second is = (refl, is)
first_none (Some n) second is = absurd cc

all_closed : (ts : List SequenceText) (a b c low : ℕ) → a < b → b < c → AllByRecursion IsRead ts → AllByRecursion FitsSequence ts → OrderedFrom low ts → open_among a b ts ≡ None → open_among b c ts ≡ None → open_among a c ts ≡ None
unfolding open_among OrderedFrom
all_closed [] a b c low less less' read fits order first second = refl
all_closed (t ∷ ts) a b c low less less' read fits order first second =
    let known = is_known low order.0 t read.0 fits.0 order.1 in
    let one = first_none (open_from [] (part_rebuilt a b t)) (open_among a b ts) first in
    let two = first_none (open_from [] (part_rebuilt b c t)) (open_among b c ts) second in
    let here : open_from [] (part_rebuilt a c t) ≡ None =
    ap (open_from []) (parts_meet (rebuilt_of t) a b c low order.0 less less' known.rises) ∙ closed_append (part_rebuilt a b t) (part_rebuilt b c t) [] (omega arith) one.0 two.0 in
    ap (λ (o : Option ℕ). first_answer o (open_among a c ts)) here ∙ all_closed ts a b c order.0 less less' read.1 fits.1 order.2 one.1 two.1

-- ---- the law

-- a cut as a stream
part_stream : IsReadAsWritten → (bytes : List ℕ) (units : List UnitText) (a b : ℕ) → IsFaultless bytes units → a < b → b ≤ points_of units → open_cut units a b ≡ None
    → (ts : IsStream (part_of a b units)) × (all_shown (part_of a b units) ≡ part_shown units a b)
unfolding FitsOpen RisesOpen IsAt
part_stream written bytes units a b f less within closed =
    let ts = sequences units in
    let read = (units_shown units f.none).0 in
    let fit = texts_fit units 0 0 None (units_fit units first_unit_place bytes None f.below f.cut) tt in
    let kept = all_kept ts a b read (texts_rise units 0 0 None tt) closed in
    let parts = map (restricted a b) ts in
    let same = same_with_pictures parts kept.read in
    let has = some_part units a b stream_begun first_unit_place 0 0 None at_start f.none (omega arith) (omega arith) less in (
      is_stream written (part_of a b units) has.some same.read (all_filtered FitsSequence (λ (s : SequenceText). nat_lt 0 (length s.pictures)) parts (restricted_fit ts a b fit)),
      same.same ∙ kept.same,
    )

pub cuts_joined : IsReadAsWritten → CutsJoinedShowTheWholeCut
unfolding FitsOpen OrderedOpen
cuts_joined written bytes units a b c f less less' within closed closed' turn =
    let ts = sequences units in
    let read = (units_shown units f.none).0 in
    let fit = texts_fit units 0 0 None (units_fit units first_unit_place bytes None f.below f.cut) tt in
    let order = texts_ordered units 0 0 0 None (omega arith) in
    let one = part_stream written bytes units a b f less (omega arith) closed in
    let two = part_stream written bytes units b c f less' within closed' in
    let first = cut_bytes units a b in
    let second = cut_bytes units b c in
    let us = sequences_units 0 (part_of a b units) in
    let vs = sequences_units 0 (part_of b c units) in
    let both = streams_behind first second us vs one.0.faultless two.0.faultless in
    let shown : shown_by (us ++ vs) ≡ part_shown units a c =
    both.1 ∙ ap₂ (λ (x y : List Picture). x ++ y) (one.0.shown ∙ one.1) (two.0.shown ∙ two.1)
    ∙ all_meet ts a b c 0 less less' read fit order (recursion_from_All (FollowsInTurn a b c) ts turn) in
    let joins = joins_shown written (first ++ second) (us ++ vs) both.0 in (
      all_closed ts a b c 0 less less' read fit order closed closed',
      (
        outcome stream_begun first_unit_place (us ++ vs) None,
        record { units = us ++ vs; end = None; cut = both.0.cut; same = refl },
        both.0.none,
        (joins.0, joins.1, joins.2 ∙ ap raws shown, joins.3),
      ),
    )
