-- The cut from point 0 to the end is of all pictures.
use Rattle.std.proofs.Common.{◌≡◌, ◌==◌, ◌||◌, ◌<◌, ◌≤◌, ◌+◌, inl, inr, if◌then◌else◌, Bool, true, false, ℕ, suc, List, [], ◌∷◌, ◌++◌, map, Option, None, Some, Ok, nat_le, refl, sym, ◌∙◌, ap, ap₂, subst, arith}
use Rattle.std.specs.List.{AllByRecursion, filter, flat_map}
use Rattle.std.proofs.lemmas.Bool.{eqb-true, lt-leb, or_cases}
use Rattle.dirac_common.specs.declared.picture.Picture.{Picture}
use Rattle.dirac_common.specs.Codes.{is_intra, is_reference, references_of}
use Rattle.dirac_bits.specs.Cursor.{start}
use Rattle.dirac_bits.specs.Syntax.{refuse}
use Rattle.dirac_units.specs.Cut.{UnitText, first_unit_place}
use Rattle.dirac_units.specs.Info.{is_picture}
use Rattle.dirac_units.specs.Writing.{IsReadAsWritten}
use Rattle.dirac_sequence_header.specs.declared.sequence.Sequence.{Sequence}
use Rattle.dirac_header.specs.declared.header.PictureHeader.{PictureHeader}
use Rattle.dirac_header.specs.Header.{header, reference, retirement}
use Rattle.dirac_refs.specs.References.{is_listed}
use Rattle.dirac_picture.specs.declared.coded.CodedPicture.{CodedPicture}
use Rattle.dirac_picture.specs.Grammar.{are_listed, body, picture, picture_read}
use Rattle.dirac_picture.proofs.Every.{Every, every_any, every_then}
use Rattle.dirac_common.specs.declared.faults.Cause.TheVariants.{MissingReference}
use Rattle.dirac_plan_laws.specs.Headers.{IsPictureCode}
use Rattle.dirac_plan_laws.proofs.Each.{each_append}
use Rattle.std.proofs.lemmas.Bool.{and_parts}
use Rattle.dirac_edit_laws.specs.Cut.{cut_bytes, first_answer, is_between, open_among, open_from, part_rebuilt, part_shown_of, wrong_end, wrong_point}
use Rattle.dirac_edit_laws.specs.Rebuilt.{AreRead, IsRead, RebuiltText, all_shown, in_order, list_behind, rebuilt_picture, rebuilt_from, rebuilt_of, rebuilt_text}
use Rattle.dirac_edit_laws.specs.Restricted.{IsRestricted}
use Rattle.dirac_edit_laws.specs.Texts.{PictureText, SequenceText, closed_off, opened_by, picture_text_at, points_of, points_up_to, sequences, sequences_from, with_picture_text}
use Rattle.dirac_edit_laws.specs.Laws.{ShowsJust}
use Rattle.dirac_edit_laws.proofs.Alike.{body_header, every_value, parts_of_whole}
use Rattle.dirac_edit_laws.proofs.Closed.{one_rebuilt}
use Rattle.dirac_edit_laws.proofs.Cutting.{FitsOpen, FitsPicture, FitsSequence, texts_fit, units_fit}
use Rattle.dirac_edit_laws.proofs.Onward.{behind_number, last_field, second_field, third_field}
use Rattle.dirac_edit_laws.proofs.Parts.{Rises, RisesAll, RisesOpen, filter_in, is_among, rebuilt_is, texts_rise}
use Rattle.dirac_edit_laws.proofs.Spelled.{every_more}
use Rattle.dirac_edit_laws.proofs.UnitKinds.{behind_end, behind_header, behind_other, behind_picture, kind_of, of_end, of_header, of_other, of_picture}
use Rattle.dirac_edit_laws.proofs.Walking.{units_shown}
use Rattle.dirac_edit_laws.proofs.Whole.{cuts_shown}
use Rattle.dirac_editing_laws.specs.Editing.{CutsOfAllShowAll}

-- ---- where pictures stand

-- a picture up to this point; an intra picture stands behind point 0
pub record IsPlaced (top : ℕ) (p : PictureText) : Type 0 where
  pub up_to : p.points ≤ top
  pub behind : is_intra p.code ≡ true → 0 < p.points

abbrev pub ArePlaced : ℕ → SequenceText → Type 0
ArePlaced top t = AllByRecursion (IsPlaced top) t.pictures

unfoldable pub PlacedOpen : ℕ → Option SequenceText → Type 0
PlacedOpen top None = Unit {0}
PlacedOpen top (Some t) = ArePlaced top t

closed_placed : (top : ℕ) (now : Option SequenceText) → PlacedOpen top now → AllByRecursion (ArePlaced top) (closed_off now)
unfolding PlacedOpen
closed_placed top None is = tt
closed_placed top (Some t) is = (is, tt)

opened_placed : (top : ℕ) (now : Option SequenceText) (payload : List ℕ) → PlacedOpen top now → PlacedOpen top (opened_by now payload)
unfolding PlacedOpen
opened_placed top None payload is = tt
opened_placed top (Some t) payload is = is

more_placed : (top : ℕ) (now : Option SequenceText) (p : PictureText) → PlacedOpen top now → IsPlaced top p → PlacedOpen top (with_picture_text now p)
unfolding PlacedOpen
more_placed top None p is one = tt
more_placed top (Some t) p is one = each_append (IsPlaced top) t.pictures (p ∷ []) is (one, tt)

-- one unit's points
points_on : (points more : ℕ) (u : UnitText) → points + points_up_to more u ≡ points_up_to points u + more
points_on points more u = on (is_intra u.info.code) points more
  where
    on : (b : Bool) (points more : ℕ) → points + (if b then suc more else more) ≡ (if b then suc points else points) + more
    on true points more = omega arith
    on false points more = omega arith

points_grow : (points : ℕ) (u : UnitText) → points ≤ points_up_to points u
points_grow points u = grow (is_intra u.info.code) points
  where
    grow : (b : Bool) (points : ℕ) → points ≤ (if b then suc points else points)
    grow true points = omega arith
    grow false points = omega arith

is_placed : (index points top : ℕ) (u : UnitText) → points_up_to points u ≤ top → IsPlaced top (picture_text_at index (points_up_to points u) u)
is_placed index points top u few = record {
  up_to = few;
  behind = λ e. subst (λ (n : ℕ). 0 < n) (sym (ap (λ (b : Bool). if b then suc points else points) e)) (omega arith);
}

pub texts_placed : (units : List UnitText) (index points top : ℕ) (now : Option SequenceText) → points + points_of units ≤ top → PlacedOpen top now → AllByRecursion (ArePlaced top) (sequences_from index points now units)
unfolding sequences_from points_of PlacedOpen
texts_placed [] index points top now few is = closed_placed top now is
texts_placed (u ∷ units) index points top now few is =
    let all = points_of units in
    let on = points_on points all u in
    let grow = points_grow points u in
    let less : points + all ≤ top = omega (arith, few, on, grow) in
    elim (kind_of u.info.code) [
      | of_header e ↦ subst (AllByRecursion (ArePlaced top)) (sym (behind_header index points now u units e)) (texts_placed units (suc index) points top (opened_by now u.payload) less (opened_placed top now u.payload is))
      | of_end e ↦
          subst (AllByRecursion (ArePlaced top)) (sym (behind_end index points now u units e))
          (each_append (ArePlaced top) (closed_off now) (sequences_from (suc index) points None units) (closed_placed top now is) (texts_placed units (suc index) points top None less tt))
      | of_picture a b c e ↦
          let up_to = points_up_to points u in
          let p = picture_text_at index up_to u in
          let one = is_placed index points top u (omega (arith, few, on)) in
          subst (AllByRecursion (ArePlaced top)) (sym (behind_picture index points now u units a b c)) (texts_placed units (suc index) up_to top (with_picture_text now p) (omega (arith, few, on)) (more_placed top now p is one))
      | of_other a b c d ↦ subst (AllByRecursion (ArePlaced top)) (sym (behind_other index points now u units a b c)) (texts_placed units (suc index) points top now less is)
    ]

-- ---- a sequence begins with an intra picture

-- a picture whose code has a reference names one
abbrev NamesFirst : ℕ → PictureHeader → Type 0
NamesFirst code h = nat_le 1 (references_of code) ≡ true → h.ref1 ≡ None → ⊥

named_where : (b : Bool) (n : ℕ) → Every (λ (o : Option ℕ). b ≡ true → o ≡ None → ⊥) (reference b n)
unfolding reference
named_where true n = λ z e none. cc
named_where false n = λ e none. cc

names_first : (code n : ℕ) → Every (NamesFirst code) (behind_number code n)
names_first code n =
    let P = NamesFirst code in
    every_then (λ (o : Option ℕ). nat_le 1 (references_of code) ≡ true → o ≡ None → ⊥) P (reference (nat_le 1 (references_of code)) n) (second_field code n) (named_where (nat_le 1 (references_of code)) n) (λ first is.
    every_then (λ _. Unit {0}) P (reference (nat_le 2 (references_of code)) n) (third_field code n first) (every_any (reference (nat_le 2 (references_of code)) n)) (λ second _.
    every_then (λ _. Unit {0}) P (retirement (is_reference code) n) (last_field code n first second) (every_any (retirement (is_reference code) n)) (λ retire _. is)))

header_names : (code : ℕ) → Every (NamesFirst code) (header code)
unfolding header
header_names code = λ n. names_first code n

picture_names : (code : ℕ) (s : Sequence) (refs : List Picture) → Every (λ (x : CodedPicture). NamesFirst code x.header) (picture code s refs)
unfolding picture
picture_names code s refs =
    let P : CodedPicture → Type 0 = λ x. NamesFirst code x.header in
    every_then (NamesFirst code) P (header code) (λ h. if are_listed refs h then body code s h else refuse 0 MissingReference) (header_names code) (λ h is.
    elim (are_listed refs h) as (λ b. Every P (if b then body code s h else refuse 0 MissingReference)) [
      | true ↦ every_more (λ (x : CodedPicture). x.header ≡ h) P (body code s h) (λ x e. subst (NamesFirst code) (sym e) is) (body_header code s h)
      | false ↦ tt
    ])

-- the references of a picture that was read are listed
pub closed_header : (s : Sequence) (list : List Picture) (code : ℕ) (payload : List ℕ) (coded : CodedPicture) → picture_read code s list payload ≡ Ok coded → are_listed list coded.header ≡ true
closed_header s list code payload coded is =
    let itself : IsRestricted list list = record { outside = []; split = refl; apart = λ number q e. refl } in
    (parts_of_whole s list list code payload coded itself is).closed

none_listed : (o : Option ℕ) → is_listed [] o ≡ true → o ≡ None
none_listed None is = refl
none_listed (Some n) is = absurd cc

-- a picture code with no reference is intra
predicted : (code : ℕ) → is_picture code ≡ true → is_intra code ≡ false → nat_le 1 (references_of code) ≡ true
predicted code is other = elim (or_cases ((code == 0x08 || code == 0x0C) || (code == 0x09 || code == 0x0D)) (code == 0x0A || code == 0x0E) is) [
  | inl f ↦ elim (or_cases (code == 0x08 || code == 0x0C) (code == 0x09 || code == 0x0D) f) [
    | inl e ↦ absurd cc
    | inr e ↦ elim (or_cases (code == 0x09) (code == 0x0D) e) [
      | inl x ↦ ap (λ n. nat_le 1 (references_of n)) (eqb-true code 0x09 x)
      | inr x ↦ ap (λ n. nat_le 1 (references_of n)) (eqb-true code 0x0D x)
    ]
  ]
  | inr e ↦ elim (or_cases (code == 0x0A) (code == 0x0E) e) [
    | inl x ↦ ap (λ n. nat_le 1 (references_of n)) (eqb-true code 0x0A x)
    | inr x ↦ ap (λ n. nat_le 1 (references_of n)) (eqb-true code 0x0E x)
  ]
]

code_picture : (code : ℕ) → IsPictureCode code → is_picture code ≡ true
code_picture code known = elim (or_cases (code == 0x00) (is_picture code) known.read) [
  | inl e ↦ absurd (let other = known.other in cc)
  | inr e ↦ e
]

begins_intra : (s : Sequence) (p : PictureText) (coded : CodedPicture) → IsPictureCode p.code → picture_read p.code s [] p.payload ≡ Ok coded → is_intra p.code ≡ true
begins_intra s p coded known is =
    let both = and_parts (is_listed [] coded.header.ref1) (is_listed [] coded.header.ref2) (closed_header s [] p.code p.payload coded is) in
    let none = none_listed coded.header.ref1 both.0 in
    let names : NamesFirst p.code coded.header = every_value (λ (x : CodedPicture). NamesFirst p.code x.header) (picture p.code s []) (start p.payload) coded (picture_names p.code s []) is in
    elim (is_intra p.code) as (λ b. is_intra p.code ≡ b → b ≡ true) [
      | true ↦ λ e. refl
      | false ↦ λ e. absurd (names (predicted p.code (code_picture p.code known) e) none)
    ] refl

-- ---- all pictures

in_between : (top : ℕ) (p : PictureText) → 0 < p.points → p.points ≤ top → is_between 0 top p ≡ true
in_between top p more few = grind arith

all_among : (ps : List PictureText) (s : Sequence) (list : List Picture) (low high top : ℕ) → 0 < low → Rises low high ps → AllByRecursion (IsPlaced top) ps → AreRead s list ps
    → filter (is_among 0 top) (rebuilt_from s list ps) ≡ rebuilt_from s list ps
unfolding Rises AreRead rebuilt_from
all_among [] s list low high top some rises placed all = refl
all_among (p ∷ ps) s list low high top some rises placed all =
    let one = rebuilt_text s list p all.0 in
    let rest = rebuilt_from s (list_behind list one) ps in
    let whole = one_rebuilt s list p ps all.0 all.1 in
    let within = in_between top p (omega (arith, some, rises.0)) placed.0.up_to in
    ap (filter (is_among 0 top)) whole ∙ filter_in (is_among 0 top) one rest within
    ∙ ap (λ (rs : List RebuiltText). one ∷ rs) (all_among ps s (list_behind list one) p.points high top (omega (arith, some, rises.0)) rises.1 placed.1 all.2)
    ∙ sym whole

-- from the first one on
whole_among : (ps : List PictureText) (s : Sequence) (high top : ℕ) → Rises 0 high ps → AllByRecursion (IsPlaced top) ps → AllByRecursion FitsPicture ps → AreRead s [] ps
    → filter (is_among 0 top) (rebuilt_from s [] ps) ≡ rebuilt_from s [] ps
unfolding Rises AreRead rebuilt_from
whole_among [] s high top rises placed fits all = refl
whole_among (p ∷ ps) s high top rises placed fits all =
    let first : 0 < p.points = placed.0.behind (begins_intra s p all.0 fits.0.code all.1) in
    all_among (p ∷ ps) s [] p.points high top first (omega arith, rises.1) placed all

pub all_closed : (ps : List PictureText) (s : Sequence) (list : List Picture) → AreRead s list ps → open_from list (rebuilt_from s list ps) ≡ None
unfolding AreRead rebuilt_from open_from
all_closed [] s list all = refl
all_closed (p ∷ ps) s list all =
    let one = rebuilt_text s list p all.0 in
    let next = list_behind list one in
    let rest = rebuilt_from s next ps in
    ap (open_from list) (one_rebuilt s list p ps all.0 all.1)
    ∙ ap (λ (b : Bool). if b then open_from next rest else Some p.index) (closed_header s list p.code p.payload all.0 all.1)
    ∙ all_closed ps s next all.2

-- a sequence is its own part
record IsWhole (top : ℕ) (t : SequenceText) : Type 0 where
  pub part : part_rebuilt 0 top t ≡ rebuilt_of t
  pub closed : open_from [] (part_rebuilt 0 top t) ≡ None

one_whole : (top : ℕ) (t : SequenceText) → IsRead t → RisesAll t → ArePlaced top t → FitsSequence t → IsWhole top t
one_whole top t read rises placed fits =
    let s = read.sequence in
    let rs = rebuilt_is s t read.header in
    let part : part_rebuilt 0 top t ≡ rebuilt_of t = ap (filter (is_among 0 top)) rs ∙ whole_among t.pictures s rises.high top rises.rises placed fits.pictures read.pictures ∙ sym rs in
    record { part = part; closed = ap (open_from []) (part ∙ rs) ∙ all_closed t.pictures s [] read.pictures }

record AreWhole (top : ℕ) (ts : List SequenceText) : Type 0 where
  pub closed : open_among 0 top ts ≡ None
  pub shown : flat_map (part_shown_of 0 top) ts ≡ all_shown ts

all_whole : (ts : List SequenceText) (top : ℕ) → AllByRecursion IsRead ts → AllByRecursion RisesAll ts → AllByRecursion (ArePlaced top) ts → AllByRecursion FitsSequence ts → AreWhole top ts
unfolding open_among
all_whole [] top read rise placed fits = record { closed = refl; shown = refl }
all_whole (t ∷ ts) top read rise placed fits =
    let one = one_whole top t read.0 rise.0 placed.0 fits.0 in
    let rest = all_whole ts top read.1 rise.1 placed.1 fits.1 in
    record {
      closed = ap (λ (o : Option ℕ). first_answer o (open_among 0 top ts)) one.closed ∙ rest.closed;
      shown = ap₂ (λ (rs : List RebuiltText) (l : List Picture). in_order (map rebuilt_picture rs) ++ l) one.part rest.shown;
    }

-- the law
pub all_cut : IsReadAsWritten → CutsOfAllShowAll
unfolding FitsOpen RisesOpen PlacedOpen
all_cut written bytes units f some =
    let top = points_of units in
    let all = units_shown units f.none in
    let fits = texts_fit units 0 0 None (units_fit units first_unit_place bytes None f.below f.cut) tt in
    let whole = all_whole (sequences units) top all.0 (texts_rise units 0 0 None tt) (texts_placed units 0 0 top None (omega arith) tt) fits in
    let there : wrong_point 0 None top ≡ None = ap (λ (b : Bool). if b then Some 0 else wrong_end 0 None top) (lt-leb top 0 some) in
    let shows = cuts_shown written bytes units 0 None f there whole.closed in
    (whole.closed, subst (ShowsJust (cut_bytes units 0 top)) (whole.shown ∙ sym all.1) shows)
